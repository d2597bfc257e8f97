-- What a join finds and makes, on any program; on a tidy one it is what the step says.
use Rattle.std.proofs.Common.{◌≡◌, ℕ, suc, ◌+◌, ◌<◌, ◌≤◌, false, List, ◌++◌, length, take, set, Ok, sym}
use Rattle.std.proofs.Common.{ap, ◌∙◌, subst, arith}
use Rattle.std.specs.List.{remove}
use Rattle.std.proofs.lemmas.List.{append-nil, drop_all, length-take-le}
use Rattle.std.proofs.lemmas.List.Edits.{length-remove, get_or-remove_below, get_or-remove_above}
use Rattle.std.proofs.lemmas.Grind.{common_steps}
use Rattle.program.specs.declared.Move.{Move}
use Rattle.program.specs.Meaning.{Prog, Fits, stage_at, move_at, most_minutes}
use Rattle.program.specs.Edits.{Does, is_open, leads, last_stage, move_into, move_out_of, with_join, join_step}
use Rattle.program.specs.Tidy.{SilentAt, Tidy}
use Rattle.program.proofs.Doing.{joins}
use Rattle.program.proofs.Kept.{silent_from}
use Rattle.program.proofs.Cuts.{into_is, out_of_is, in_and_out, join_short}
use Rattle.program.specs.declared.End.TheVariants.{Leaves, Enters}
use Rattle.program.specs.Ends.{end_of}
use Rattle.stores.specs.declared.joint.Joint.{Joint}
use Rattle.stores.specs.Allowed.{Ends}
use Rattle.stores.specs.MoveEnds.{Only}
use Rattle.stores.specs.Joints.{JoinAllowed}

-- the last of a list is taken out
pub removed_last : {X : Type 0} (xs : List X) (e : ℕ) → length xs ≡ suc e → remove xs e ≡ take e xs
removed_last xs e one = ap (λ r. take e xs ++ r) (drop_all (suc e) xs (omega arith)) ∙ append-nil (take e xs)

-- The program without stage e and without its move out, o, where m stands in the place of its move in, i.
abbrev joined_by : Prog → ℕ → ℕ → ℕ → Move → Prog
joined_by p e i o m = record { stages = take e p.stages; moves = remove (set p.moves i m) o }

-- There m does what both did.
abbrev joined_at : Prog → ℕ → ℕ → ℕ → Prog
joined_at p e i o =
    joined_by p e i o
    (leads (move_at p i).leaves ((move_at p i).minutes + (move_at p o).minutes) (move_at p o).enters)

-- The program without its joint.
abbrev pub joined : Prog → Joint → Prog
joined p j = joined_by p j.stage j.into j.out_of j.whole

-- In a tidy program, the one move that enters the last stage s, a silent one, and the one that leaves it.
module _ (p : Prog) (s i o : ℕ) (last : length p.stages ≡ suc s) (hushed : is_open (stage_at p s).kind ≡ false)
    (enters : Only p (end_of Enters) s i) (leaves : Only p (end_of Leaves) s o) (t : Tidy p) where
  last_is : last_stage p ≡ s
  last_is = omega arith

  last_silent : SilentAt p (last_stage p)
  last_silent = (omega arith, silent_from _ (ap (λ x. is_open (stage_at p x).kind) last_is ∙ hushed))

  move_into-is : move_into p (last_stage p) ≡ i
  move_into-is = into_is p t last_silent i enters.real (enters.has ∙ sym last_is)

  move_out_of-is : move_out_of p (last_stage p) ≡ o
  move_out_of-is = out_of_is p t last_silent o leaves.real (leaves.has ∙ sym last_is)

  pub tidy_apart : i ≡ o → ⊥
  tidy_apart e = (in_and_out p t last_silent).2 (move_into-is ∙ e ∙ sym move_out_of-is)

  pub tidy_short : (move_at p i).minutes + (move_at p o).minutes ≤ most_minutes
  tidy_short =
      let a = ap (λ x. (move_at p x).minutes) move_into-is in
      let b = ap (λ x. (move_at p x).minutes) move_out_of-is in
      let h = join_short p t last_silent in
      omega arith

module _ (p : Prog) (j : Joint) (a : JoinAllowed p j) where
  joined-with_join : Tidy p → joined p j ≡ with_join p
  joined-with_join t =
      let s = last_is p j.stage j.into j.out_of a.last a.hushed a.enters a.leaves t in
      let i = move_into-is p j.stage j.into j.out_of a.last a.hushed a.enters a.leaves t in
      let o = move_out_of-is p j.stage j.into j.out_of a.last a.hushed a.enters a.leaves t in
      ap (λ m. joined_by p j.stage j.into j.out_of m) a.is
      ∙ ap (λ s. joined_at p s j.into j.out_of) (sym s)
      ∙ ap (λ m. joined_at p (last_stage p) m j.out_of) (sym i)
      ∙ ap (joined_at p (last_stage p) (move_into p (last_stage p))) (sym o)

  -- On a tidy program, a store that is left without the joint did what the step says.
  pub joined_does : (q : Prog) → q ≡ joined p j → Tidy p → Does (join_step p) (Ok j.stage) q
  joined_does q e t = joins p q j.stage a.last a.hushed (e ∙ joined-with_join t)

  module _ (ends : Ends p) where
    leaves_below : (x : ℕ) → x < length p.moves → (x ≡ j.out_of → ⊥) → (move_at p x).leaves < j.stage
    leaves_below x l other =
        let b = (ends x l).0 in let h = a.last in let alone = a.leaves.alone x l in grind arith

    enters_below : (x : ℕ) → x < length p.moves → (x ≡ j.into → ⊥) → (move_at p x).enters < j.stage
    enters_below x l other =
        let b = (ends x l).1 in let h = a.last in let alone = a.enters.alone x l in grind arith

    whole_fits : Fits j.stage j.whole
    whole_fits =
        subst (Fits j.stage) (sym a.is) (
          leaves_below j.into a.enters.real a.apart,
          enters_below j.out_of a.leaves.real (λ e. a.apart (sym e)),
          a.short,
        )

    joined_fits : (m : ℕ) → m < length (joined p j).moves → Fits j.stage (move_at (joined p j) m)
    joined_fits m l =
        let whole = whole_fits in
        let left = leaves_below m in
        let entered = enters_below m in
        let short = ends m in
        let left_next = leaves_below (m + 1) in
        let entered_next = enters_below (m + 1) in
        let short_next = ends (m + 1) in
        grind (arith, common_steps, get_or-remove_below, get_or-remove_above, length-remove)

  pub ends_kept_by_join : (q : Prog) → q ≡ joined p j → Ends p → Ends q
  ends_kept_by_join q e ends =
      let h = a.last in
      let n : length (take j.stage p.stages) ≡ j.stage = length-take-le j.stage p.stages (omega arith) in
      subst Ends (sym e) (λ m l. subst (λ s. Fits s (move_at (joined p j) m)) (sym n) (joined_fits ends m l))
