use Rattle.std.proofs.Common.{◌≡◌, ℕ, ◌+◌, List, ◌++◌, [], take, Some, None, Option, IfSome}
use Rattle.std.specs.Option.{option_map}
use Rattle.layout.specs.declared.loading.TheConstants.{MOST_BYTES}
use Rattle.burncheck.proofs.read_page.Goals as goal

-- What a reader with a limit gives is the front of what the reader in it has.
front : (known : Option (List ℕ)) (limit : ℕ) (page : List ℕ)
    → IfSome (option_map (take limit) known) (λ bytes. page ≡ [] ++ bytes)
    → IfSome known (λ bytes. page ≡ take limit bytes)
front None limit page h = tt
front (Some bytes) limit page h = h

pub returns : goal.returns
returns g c =
    let said = c.in_ok-read_to_end.ensures.bytes in
    front (g.R.Read.remaining c.args.from) (MOST_BYTES + 1) c.read_to_end.new.buf.items
    (rw c.take.ensures.limit at rw c.take.ensures.inner at rw c.new-page.ensures.items at said)
