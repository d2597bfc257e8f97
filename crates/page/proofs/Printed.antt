-- The stages at which a line holds, as the library finds and joins them, and a text that is appended.
use Rattle.std.proofs.Common.{◌≡◌, ℕ, ◌+◌, cond, List, [], ◌∷◌, ◌++◌, decimal, refl, ap, ◌∙◌}
use Rattle.std.proofs.lemmas.List.{append-nil}
use Rattle.itertools.specs.Consumer.{joined}
use Rattle.itertools.specs.List.{positions_from}
use Rattle.page.specs.Answers.{listed, holds_in, stages_from}

pub joined_listed : (ns : List ℕ) → joined decimal (44 ∷ []) ns ≡ listed ns
joined_listed [] = refl
joined_listed (n ∷ []) = append-nil (decimal n)
joined_listed (n ∷ m ∷ ns) = ap (λ bs. decimal n ++ 44 ∷ bs) (joined_listed (m ∷ ns))

pub positions_stages : (k s : ℕ) (words : List ℕ) → positions_from (holds_in k) s words ≡ stages_from k s words
positions_stages k s [] = refl
positions_stages k s (word ∷ words) =
    ap (λ ns. cond (holds_in k word) (s ∷ ns) ns) (positions_stages k (s + 1) words)

-- What is written to an empty text and then appended is appended.
pub text_appended : {after bytes held : List ℕ} (before begun text : List ℕ) → after ≡ before ++ bytes
    → bytes ≡ held → held ≡ begun ++ text → begun ≡ [] → after ≡ before ++ text
text_appended before begun text a b c d = a ∙ ap (λ xs. before ++ xs) (b ∙ c ∙ ap (λ xs. xs ++ text) d)
