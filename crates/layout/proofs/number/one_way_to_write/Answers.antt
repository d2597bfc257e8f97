use Rattle.layout.proofs.Decimals.{decimal_writes, writes_decimal}
use Rattle.layout.proofs.number.one_way_to_write.Goals as goal

pub returns : goal.returns
returns c = λ n h. (decimal_writes n h, λ bytes w. writes_decimal bytes n h w)
