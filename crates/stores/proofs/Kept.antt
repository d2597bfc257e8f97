-- Every edit keeps that each move has its ends among the stages.
use Rattle.std.proofs.Common.{◌≡◌, ℕ, sym, subst, arith}
use Rattle.std.proofs.lemmas.Grind.{common_steps}
use Rattle.program.specs.declared.Move.{Move}
use Rattle.program.specs.Meaning.{Prog}
use Rattle.program.specs.Edits.{Caps, with_stage, with_marks, with_move, with_cut}
use Rattle.stores.specs.declared.allowed.Pieces.{Pieces}
use Rattle.stores.specs.Allowed.{Ends, LayAllowed, CutAllowed}

pub ends_kept_by_open : (p q : Prog) (m : ℕ) → q ≡ with_stage p m → Ends p → Ends q
ends_kept_by_open p q m e ends = subst Ends (sym e) (λ k h. let old = ends k in grind (arith, common_steps))

pub ends_kept_by_mark : (p q : Prog) (s m : ℕ) → q ≡ with_marks p s m → Ends p → Ends q
ends_kept_by_mark p q s m e ends = subst Ends (sym e) (λ k h. let old = ends k in grind (arith, common_steps))

pub ends_kept_by_lay : (capacity : ℕ) (p q : Prog) (s d t : ℕ) (r : Move) → LayAllowed capacity p s d t r
    → q ≡ with_move p s d t → Ends p → Ends q
ends_kept_by_lay capacity p q s d t r a e ends =
    subst Ends (sym e) (λ k h. let old = ends k in grind (arith, common_steps))

pub ends_kept_by_cut : (caps : Caps) (p q : Prog) (k a : ℕ) (r : Pieces) → CutAllowed caps p k a r
    → q ≡ with_cut p k a → Ends p → Ends q
ends_kept_by_cut caps p q k a r allowed e ends =
    subst Ends (sym e) (λ x l. let old = ends x in let cut = ends k in grind (arith, common_steps))
