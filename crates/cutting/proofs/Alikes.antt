-- A refinement is like what it refines.
use Rattle.std.proofs.Common.{ℕ, ◌<◌, ◌≤◌, ◌⊎◌, ◌↔◌, inl, inr, ⊎_elim, arith}
use Rattle.std.proofs.lemmas.Bool.{cases_lt}
use Rattle.tctl.specs.Graph.{Graph, Open, size}
use Rattle.tctl.specs.Rules.{Rule, one, letter, not, both, either, some_run, each_run}
use Rattle.tctl.specs.Holds.{Holds}
use Rattle.tctl.proofs.Refined.{refinement_keeps_lem}
use Rattle.tctl.proofs.Common.{open_fits}
use Rattle.cutting.specs.Theorems.{Agree, RefinedAlike}

-- a rule holds at open stages only
pub holds_open : (g : Graph) (f : Rule) (s : ℕ) → Holds g f s → Open g s
holds_open g one s t = t
holds_open g (letter a) s t = t.0
holds_open g (not f) s t = t.0
holds_open g (both f f') s t = holds_open g f s t.0
holds_open g (either f f') s t = ⊎_elim (holds_open g f s) (holds_open g f' s) t
holds_open g (some_run f b f') s t = t.0
holds_open g (each_run f b f') s t = t.0

pub refined_alike_lem : RefinedAlike
refined_alike_lem g h ok R f s = go (cases_lt s (size g))
  where
    go : (s < size g) ⊎ (size g ≤ s) → Holds g f s ↔ Holds h f s
    go (inl l) = refinement_keeps_lem g h ok R f s l
    go (inr l) = (
      (λ t. let u = open_fits g s (holds_open g f s t) in absurd (omega arith)),
      (λ t. absurd (R.chains.silent s l (holds_open h f s t))),
    )

pub agree_refl : (g : Graph) → Agree g g
agree_refl g = record { alike = λ f s. ((λ t. t), (λ t. t)); sound = ((λ t. t), (λ t. t)) }

pub agree_sym : (g h : Graph) → Agree g h → Agree h g
agree_sym g h a =
    record { alike = λ f s. ((a.alike f s).1, (a.alike f s).0); sound = (a.sound.1, a.sound.0) }

pub agree_trans : (g h i : Graph) → Agree g h → Agree h i → Agree g i
agree_trans g h i a b =
    record {
      alike = λ f s. ((λ t. (b.alike f s).0 ((a.alike f s).0 t)), (λ t. (a.alike f s).1 ((b.alike f s).1 t)));
      sound = ((λ t. b.sound.0 (a.sound.0 t)), (λ t. a.sound.1 (b.sound.1 t)));
    }
