-- A card's capacities.
use Rattle.std.specs.Prelude.{ℕ}
use Rattle.program.specs.Edits.{Caps}

abbrev pub card_stages : ℕ
card_stages = 64

abbrev pub card_moves : ℕ
card_moves = 256

abbrev pub card_caps : Caps
card_caps = record { stages = card_stages; moves = card_moves }
