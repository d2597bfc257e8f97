-- What a queue keeps when a stage is put in or taken out.
use Rattle.std.proofs.Common.{◌≡◌, ℕ, zero, suc, ◌+◌, ◌-◌, ◌%◌, ◌<◌, Bool, true, false, T, ◌⊎◌, List, length, get_or}
use Rattle.std.proofs.Common.{set, replicate, sym, ap, ◌∙◌, subst, inl, inr, ⊎_elim, arith}
use Rattle.std.proofs.Math.Logic.{∥∥₁_elim, ∥∥₁_map}
use Rattle.std.proofs.lemmas.List.{get_or-set_same, get_or-set_other}
use Rattle.std.proofs.lemmas.Bool.{cases_eq}
use Rattle.program.specs.Meaning.{most_stages}
use Rattle.settle.specs.declared.queue.Queue.{Queue}
use Rattle.settle.specs.Rings.{behind, Stands, IsIn, Orderly}
use Rattle.settle.specs.Queues.{Waits, Lined, AllWait, PutsIn}

nothing_told : (n stage : ℕ) → T (get_or (replicate n false) stage false) → ⊥
nothing_told zero stage t = t
nothing_told (suc n) zero t = t
nothing_told (suc n) (suc stage) t = nothing_told n stage t

-- Where none stands in the ring.
pub none_in : (ring : List ℕ) (head stage : ℕ) → IsIn ring head 0 stage → ⊥
none_in ring head stage w = ∥∥₁_elim w (λ x. absurd x) (λ s. let h = s.inside in omega arith)

pub empty_orderly : (ring : List ℕ) → Orderly ring (replicate most_stages false) 0 0
empty_orderly ring = record {
  begin = omega arith;
  few = omega arith;
  stages = λ stage w. absurd (none_in ring 0 stage w);
  told = λ stage t. absurd (nothing_told most_stages stage t);
}

-- Where a stage below n is put in, only stages below n wait still.
pub lined_more : (n stage : ℕ) (was after : Queue) → stage < n → PutsIn stage was after → Lined n was → Lined n after
lined_more n stage was after low puts lined other w =
    ⊎_elim (lined other) (λ e. subst (λ x. x < n) (sym e) low) (puts.only other w)

-- Those below one more stage wait if those below it do, and it does if it is in the set.
pub all_wait_more : (n : ℕ) (set : ℕ → Bool) (was after : Queue) → ((other : ℕ) → Waits was other → Waits after other)
    → (T (set n) → Waits after n) → AllWait n set was → AllWait (n + 1) set after
all_wait_more n set was after still here before stage l t =
    ⊎_elim (λ e. subst (λ x. Waits after x) (sym e) (here (subst (λ x. T (set x)) e t)))
    (λ ne. still stage (before stage (omega arith) t)) (cases_eq stage n)

module _ (ring : List ℕ) (waiting : List Bool) (head count : ℕ) (ok : Orderly ring waiting head count) where
  module _ (stage : ℕ) (low : stage < most_stages) (length-ring : length ring ≡ most_stages)
      (room : count < most_stages) where
    abbrev longer : List ℕ
    longer = set ring ((head + count) % most_stages) stage

    stands_still : (other : ℕ) → Stands ring head count other → Stands longer head (count + 1) other
    stands_still other w =
        let i = w.others in
        let l = w.inside in
        let h = ok.begin in
        record {
          others = i;
          inside = omega arith;
          is = get_or-set_other ring ((head + count) % most_stages) ((head + i) % most_stages) stage 0
              (λ e. omega arith) ∙ w.is;
        }

    pub is_in_still : (other : ℕ) → IsIn ring head count other → IsIn longer head (count + 1) other
    is_in_still other w = ∥∥₁_map w (stands_still other)

    pub is_in_last : IsIn longer head (count + 1) stage
    is_in_last = ∣ record {
      others = count;
      inside = omega arith;
      is = get_or-set_same ring ((head + count) % most_stages) stage 0 (omega arith);
    } ∣₁

    stands_before : (other : ℕ) → (other ≡ stage → ⊥) → Stands longer head (count + 1) other
        → Stands ring head count other
    stands_before other out w =
        let i = w.others in
        let l = w.inside in
        let h = ok.begin in
        ⊎_elim
        (λ e. absurd (out
        (sym w.is ∙ ap (behind longer head) e
        ∙ get_or-set_same ring ((head + count) % most_stages) stage 0 (omega arith))))
        (λ ne. record {
          others = i;
          inside = omega arith;
          is = sym (get_or-set_other ring ((head + count) % most_stages) ((head + i) % most_stages) stage 0
              (λ e. omega arith)) ∙ w.is;
        })
        (cases_eq i count)

    pub is_in_only : (other : ℕ) → IsIn longer head (count + 1) other → IsIn ring head count other ⊎ (other ≡ stage)
    is_in_only other w = ⊎_elim (λ e. inr e) (λ ne. inl (∥∥₁_map w (stands_before other ne))) (cases_eq other stage)

    pub longer_orderly : Orderly longer (set waiting stage true) head (count + 1)
    longer_orderly = record {
      begin = ok.begin;
      few = omega arith;
      stages = λ other w. ⊎_elim (ok.stages other) (λ e. subst (λ x. x < most_stages) (sym e) low) (is_in_only other w);
      told = λ other t.
          ⊎_elim (λ e. subst (λ x. IsIn longer head (count + 1) x) (sym e) is_in_last)
          (λ ne. is_in_still other
          (ok.told other (subst (λ b. T b) (get_or-set_other waiting stage other true false ne) t)))
          (cases_eq other stage);
    }

  module _ (some : 0 < count) (length-waiting : length waiting ≡ most_stages) where
    abbrev foremost : ℕ
    foremost = get_or ring head 0

    pub is_in_foremost : IsIn ring head count foremost
    is_in_foremost =
        ∣ record { others = 0; inside = some; is = ap (λ x. get_or ring x 0) (let h = ok.begin in omega arith) } ∣₁

    pub foremost_low : foremost < most_stages
    foremost_low = ok.stages foremost is_in_foremost

    stands_other : (other : ℕ) → (other ≡ foremost → ⊥) → Stands ring head count other
        → Stands ring ((head + 1) % most_stages) (count - 1) other
    stands_other other out w =
        let i = w.others in
        let l = w.inside in
        let h = ok.begin in
        ⊎_elim (λ e. absurd (out (sym w.is ∙ ap (λ x. get_or ring x 0) (omega arith))))
        (λ ne. record {
          others = i - 1;
          inside = omega arith;
          is = ap (λ x. get_or ring x 0) (omega arith) ∙ w.is;
        })
        (cases_eq i 0)

    pub is_in_others : (other : ℕ) → IsIn ring head count other
        → (other ≡ foremost) ⊎ IsIn ring ((head + 1) % most_stages) (count - 1) other
    is_in_others other w = ⊎_elim (λ e. inl e) (λ ne. inr (∥∥₁_map w (stands_other other ne))) (cases_eq other foremost)

    pub is_in_before : (other : ℕ) → IsIn ring ((head + 1) % most_stages) (count - 1) other → IsIn ring head count other
    is_in_before other v =
        ∥∥₁_map v (λ w.
        let i = w.others in
        let l = w.inside in
        let h = ok.begin in
        record { others = i + 1; inside = omega arith; is = ap (λ x. get_or ring x 0) (omega arith) ∙ w.is })

    pub shorter_orderly : Orderly ring (set waiting foremost false) ((head + 1) % most_stages) (count - 1)
    shorter_orderly = record {
      begin = omega arith;
      few = let h = ok.few in omega arith;
      stages = λ other w. ok.stages other (is_in_before other w);
      told = λ other t.
          ⊎_elim
          (λ e.
          absurd (subst (λ b. T b) (get_or-set_same waiting foremost false false (let h = foremost_low in omega arith))
          (subst (λ x. T (get_or (set waiting foremost false) x false)) e t)))
          (λ ne.
          ⊎_elim (λ e. absurd (ne e)) (λ w. w)
          (is_in_others other
          (ok.told other (subst (λ b. T b) (get_or-set_other waiting foremost other false false ne) t))))
          (cases_eq other foremost);
    }
