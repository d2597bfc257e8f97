-- A draft to which a line is added stands for one line more.
use Rattle.std.proofs.Common.{◌≡◌, ℕ, ◌+◌, ◌-◌, ◌<◌, ◌≤◌, Bool, true, false, cond, ltb, List, [], ◌∷◌, ◌++◌, length}
use Rattle.std.proofs.Common.{take, set, MatchBool, sym, refl, ap, ◌∙◌, subst, arith, ltb-false, ltb-true}
use Rattle.std.proofs.lemmas.List.{length_push, take_more_set}
use Rattle.rules.specs.declared.line.Bound.{Bound}
use Rattle.rules.specs.declared.line.Bound.TheVariants.{AtMost, AtLeast}
use Rattle.rules.specs.declared.line.Line.{Line}
use Rattle.rules.specs.declared.line.Line.TheVariants.{Until}
use Rattle.rules.specs.declared.line.Quantifier.{Quantifier}
use Rattle.rules.specs.Lines.{largest_number, bound_number}
use Rattle.rules.specs.Postorder.{last, after_one, after_two, line_number, Small, Large}
use Rattle.rules.proofs.Postorder.{small_front, small_last, small_push, large_push, large_last}
use Rattle.signs.specs.Signs.{cap}
use Rattle.reader.specs.declared.draft.Draft.{Draft}
use Rattle.reader.specs.Drafts.{Drawn, Pushed}
use Rattle.reader.specs.Reads.{told_bound}

when_map : {P Q X Y : Type 0} (b : Bool) → (P → X) → (Q → Y) → MatchBool b P Q → MatchBool b X Y
when_map true f g p = f p
when_map false f g q = g q

-- the line m is added, which stands for l: it is l itself where it is kept and its number is small
pub drawn_push : {d e : Draft} (m l : Line) (ls : List Line) → Drawn d ls → Pushed d m e
    → line_number m ≡ cap (line_number l) → (length ls < 32 → line_number l ≤ largest_number → m ≡ l)
    → Drawn e (ls ++ (l ∷ []))
drawn_push {d} {e} m l ls h p n same =
    record {
      counted = omega (arith, h.counted, p.counted, length_push ls l);
      noted =
          subst (λ b. MatchBool b (Large (ls ++ (l ∷ []))) (Small (ls ++ (l ∷ [])))) (sym p.noted)
          (go (ltb largest_number (line_number m)) refl);
      kept = λ s f. all s (omega (arith, length_push ls l));
    }
  where
    go : (t : Bool) → ltb largest_number (line_number m) ≡ t
        → MatchBool (cond t true d.large) (Large (ls ++ (l ∷ []))) (Small (ls ++ (l ∷ [])))
    go true t = large_last ls l (omega (arith, ltb-true largest_number (line_number m) t))
    go false t =
        let small : line_number l ≤ largest_number = omega (arith, ltb-false largest_number (line_number m) t) in
        when_map d.large (large_push ls l) (λ s. small_push ls l s small) h.noted

    all : Small (ls ++ (l ∷ [])) → length ls < 32 → take (length (ls ++ (l ∷ []))) e.lines ≡ ls ++ (l ∷ [])
    all s f =
        let k : d.count ≡ length ls = omega (arith, h.counted) in
        let room : length ls < length d.lines = omega (arith, d.full) in
        ap (λ i. take i e.lines) (length_push ls l)
        ∙ ap (take (length ls + 1)) (p.kept (omega arith) ∙ ap (λ i. set d.lines i m) k)
        ∙ take_more_set d.lines (length ls) m room
        ∙ ap (λ xs. xs ++ (m ∷ [])) (h.kept (small_front ls l s) (omega arith))
        ∙ ap (λ x. ls ++ (x ∷ [])) (same f (small_last ls l s))

pub push_new : {d e : Draft} (l : Line) (ls : List Line) → Drawn d ls → Pushed d l e → line_number l ≡ 0
    → Drawn e (ls ++ (l ∷ []))
push_new l ls h p n = drawn_push l l ls h p (omega (arith, n)) (λ _ _. refl)

pub push_one : {d e : Draft} (make : ℕ → Line) (i : ℕ) (ls : List Line) → Drawn d ls → Pushed d (make i) e
    → i ≡ d.count - 1 → ((k : ℕ) → line_number (make k) ≡ 0) → Drawn e (after_one make ls)
push_one {d} make i ls h p k zero_in =
    drawn_push (make i) (make (last ls)) ls h p (omega (arith, zero_in i, zero_in (last ls)))
    (λ f _. ap make (omega (arith, h.counted)))

-- a line with the numbers of two parts, as the code makes it and as it stands for
pub push_two : {d1 d2 d3 : Draft} (made make : ℕ → ℕ → Line) (i j : ℕ) (ms ns : List Line) → Drawn d1 ms → Drawn d2 ns
    → length ms ≤ length ns → Pushed d2 (made i j) d3 → i ≡ d1.count - 1 → j ≡ d2.count - 1
    → ((a b : ℕ) → line_number (made i j) ≡ cap (line_number (make a b)))
    → ((a b : ℕ) → line_number (make a b) ≤ largest_number → made a b ≡ make a b) → Drawn d3 (after_two make ms ns)
push_two made make i j ms ns left right l p x y n same =
    drawn_push (made i j) (make (last ms) (last ns)) ns right p (n (last ms) (last ns))
    (λ f s. ap (λ a. made a j) (omega (arith, left.counted)) ∙ ap (made (last ms)) (omega (arith, right.counted))
    ∙ same (last ms) (last ns) s)

told_number : (b : Bound) → bound_number (told_bound b) ≡ cap (bound_number b)
told_number (AtMost n) = refl
told_number (AtLeast n) = refl

told_small : (b : Bound) → bound_number b ≤ largest_number → told_bound b ≡ b
told_small (AtMost n) s = ap AtMost (omega arith)
told_small (AtLeast n) s = ap AtLeast (omega arith)

pub push_until : {d1 d2 d3 : Draft} (q : Quantifier) (c b : Bound) (i j : ℕ) (ms ns : List Line) → Drawn d1 ms
    → Drawn d2 ns → length ms ≤ length ns → Pushed d2 (Until q i c j) d3 → c ≡ told_bound b → i ≡ d1.count - 1
    → j ≡ d2.count - 1 → Drawn d3 (after_two (λ a k. Until q a b k) ms ns)
push_until q c b i j ms ns left right l p t x y =
    push_two (λ a k. Until q a c k) (λ a k. Until q a b k) i j ms ns left right l p x y
    (λ a k. ap bound_number t ∙ told_number b) (λ a k s. ap (λ z. Until q a z k) (t ∙ told_small b s))
