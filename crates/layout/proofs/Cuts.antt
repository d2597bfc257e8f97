-- Bytes are cut at their first mark in one way.
use Rattle.std.proofs.Common.{◌≡◌, ℕ, zero, suc, Bool, true, false, cond, eqb, List, [], ◌∷◌, ◌++◌}
use Rattle.std.proofs.Common.{length, refl, subst, arith}
use borrow.Author.Tests.{eqb-false, both_ways}
use Rattle.std.proofs.lemmas.List.{length-append}
use Rattle.std.proofs.lemmas.List.{get_or_at}
use Rattle.layout.specs.Splits.{Lacks}

pub lacks_tail : (mark b : ℕ) (bs : List ℕ) → Lacks mark (b ∷ bs) → Lacks mark bs
lacks_tail mark b bs n i l e = n (suc i) (omega arith) e

pub no_cut : (mark : ℕ) (xs a b : List ℕ) → Lacks mark xs → xs ≡ a ++ mark ∷ b → ⊥
no_cut mark xs a b n e = subst (Lacks mark) e n (length a) (simp length-append (omega arith))
    (get_or_at a mark b 0 (length a) refl)

pub one_cut : (mark : ℕ) (a a' b b' : List ℕ) → Lacks mark a → Lacks mark a' → a ++ mark ∷ b ≡ a' ++ mark ∷ b'
    → (a ≡ a') × (b ≡ b')
one_cut mark [] [] b b' n m e = (refl, cc)
one_cut mark [] (y ∷ ys) b b' n m e = absurd (m 0 (omega arith) (cc))
one_cut mark (x ∷ xs) [] b b' n m e = absurd (n 0 (omega arith) (cc))
one_cut mark (x ∷ xs) (y ∷ ys) b b' n m e =
    let h = one_cut mark xs ys b b' (lacks_tail mark x xs n) (lacks_tail mark y ys m) (cc) in
    (let p = h.0 in cc, h.1)

pub lacks_cons : (mark b : ℕ) (bs : List ℕ) → (b ≡ mark → ⊥) → Lacks mark bs → Lacks mark (b ∷ bs)
lacks_cons mark b bs x n zero l e = x e
lacks_cons mark b bs x n (suc i) l e = n i (omega arith) e

pub lacks_append : (mark : ℕ) (xs ys : List ℕ) → Lacks mark xs → Lacks mark ys → Lacks mark (xs ++ ys)
lacks_append mark [] ys n m = m
lacks_append mark (x ∷ xs) ys n m =
    lacks_cons mark x (xs ++ ys) (n 0 (omega arith)) (lacks_append mark xs ys (lacks_tail mark x xs n) m)

pub lacks_behind : (mark : ℕ) (xs ys : List ℕ) → Lacks mark (xs ++ ys) → Lacks mark ys
lacks_behind mark [] ys n = n
lacks_behind mark (x ∷ xs) ys n = lacks_behind mark xs ys (lacks_tail mark x (xs ++ ys) n)

abbrev pub lacking : ℕ → List ℕ → Bool
lacking mark [] = true
lacking mark (b ∷ bs) = cond (eqb b mark) false (lacking mark bs)

pub lacks_from_test : (mark : ℕ) (bs : List ℕ) → lacking mark bs ≡ true → Lacks mark bs
lacks_from_test mark [] h = λ i l e. absurd (omega arith)
lacks_from_test mark (b ∷ bs) h = go (eqb b mark) refl h (lacks_from_test mark bs)
  where
    go : (t : Bool) → eqb b mark ≡ t → cond t false (lacking mark bs) ≡ true → (lacking mark bs ≡ true → Lacks mark bs)
        → Lacks mark (b ∷ bs)
    go true e h n = absurd (both_ways false refl h)
    go false e h n = lacks_cons mark b bs (eqb-false b mark e) (n h)
