-- A page has one outcome: it is taken whole, or refused for one line.
use Rattle.std.specs.Prelude.{◌≡◌, ℕ, List}
use Rattle.program.specs.Meaning.{Prog}
use Rattle.program.specs.Edits.{Caps}
use Rattle.layout.specs.declared.faults.PageFault.{PageFault}
use Rattle.layout.specs.Pages.{Whole, Refuses}

pub record OneOutcome : Type 0 where
  pub taken_once :
      (caps : Caps) (p : Prog) (page rules rules' : List ℕ) (q q' : Prog) → Whole caps p page rules q
      → Whole caps p page rules' q' → (rules ≡ rules') × (q ≡ q')
  pub refused_once :
      (caps : Caps) (p : Prog) (page : List ℕ) (f f' : PageFault) (q q' : Prog) → Refuses caps p page f q
      → Refuses caps p page f' q' → (f ≡ f') × (q ≡ q')
  pub never_both :
      (caps : Caps) (p : Prog) (page rules : List ℕ) (f : PageFault) (q q' : Prog) → Whole caps p page rules q
      → Refuses caps p page f q' → ⊥
