use Rattle.reader.proofs.Answers.{one_answer}
use Rattle.reader.proofs.one_answer.Goals as goal

pub returns : goal.returns
returns c = one_answer
