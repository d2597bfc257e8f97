-- What the write of a record, and a record taken out, do to the program that a tray holds.
use Rattle.std.proofs.Common.{◌≡◌, ℕ, suc, ◌+◌, ◌*◌, ◌<◌, List, [], ◌∷◌, ◌++◌, set, refl, ap, ◌∙◌, arith}
use Rattle.std.specs.List.{remove}
use Rattle.program.specs.declared.Kind.TheVariants.{Open, Silent}
use Rattle.program.specs.declared.Stage.{Stage}
use Rattle.program.specs.declared.Move.{Move}
use Rattle.program.specs.Meaning.{Prog, prog, stage_at}
use Rattle.program.specs.Edits.{Caps, with_stage, with_marks, with_move, with_cut}
use Rattle.program.proofs.Doing.{same_prog}
use Rattle.stores.specs.declared.allowed.Pieces.{Pieces}
use Rattle.stores.specs.declared.joint.Joint.{Joint}
use Rattle.stores.specs.Allowed.{CutAllowed}
use Rattle.stores.specs.Areas.{put, taken_out, in_use, Holds}
use Rattle.stores.specs.Records.{stage_record, move_record, stage_layout, move_layout, stage_lawful, move_lawful}
use Rattle.stores.specs.InUse.{length_in_use}
use Rattle.stores.proofs.Areas.{record_appended, record_replaced, record_taken}
use Rattle.stores.proofs.Joints.{joined, removed_last}

-- The program in the bytes of two areas, with n stages and k moves in use.
abbrev pub held : ℕ → ℕ → List ℕ → List ℕ → Prog
held n k bs cs = prog (in_use stage_layout n bs) (in_use move_layout k cs)

-- The program after an edit, and that both areas hold their records and nothing else.
pub record Edited (n k : ℕ) (bs cs : List ℕ) (p : Prog) : Type 0 where
  pub is : held n k bs cs ≡ p
  pub stage_area : Holds stage_layout n bs
  pub move_area : Holds move_layout k cs

module _ (n k : ℕ) (bs cs : List ℕ) (hs : Holds stage_layout n bs) (hm : Holds move_layout k cs) where
  pub tray_opened : (m : ℕ) (r : Stage) (new : List ℕ) → r ≡ record { marks = m; kind = Open }
      → new ≡ put bs (4 * n) (stage_record r) → Edited (n + 1) k new cs (with_stage (held n k bs cs) m)
  tray_opened m r new opened wrote =
      let w = record_appended stage_layout stage_lawful n bs hs r new wrote in
      let stages = ap (λ (v : Stage). in_use stage_layout n bs ++ (v ∷ [])) opened in
      record { is = same_prog _ _ (w.reads ∙ stages) refl; stage_area = w.holds; move_area = hm }

  pub tray_marked : (s m : ℕ) (r : Stage) (new : List ℕ) → s < n → r ≡ stage_at (held n k bs cs) s
      → new ≡ put bs (4 * s) (stage_record (record { marks = m; kind = r.kind }))
      → Edited n k new cs (with_marks (held n k bs cs) s m)
  tray_marked s m r new below found wrote =
      let w = record_replaced stage_layout stage_lawful n bs hs _ s new below wrote in
      let marked = ap (λ (v : Stage). set (in_use stage_layout n bs) s (record { marks = m; kind = v.kind })) found in
      record { is = same_prog _ _ (w.reads ∙ marked) refl; stage_area = w.holds; move_area = hm }

  pub tray_laid : (s d t : ℕ) (r : Move) (new : List ℕ) → r ≡ record { leaves = s; minutes = d; enters = t }
      → new ≡ put cs (8 * k) (move_record r) → Edited n (k + 1) bs new (with_move (held n k bs cs) s d t)
  tray_laid s d t r new laid wrote =
      let w = record_appended move_layout move_lawful k cs hm r new wrote in
      let moves = ap (λ (v : Move). in_use move_layout k cs ++ (v ∷ [])) laid in
      record { is = same_prog _ _ refl (w.reads ∙ moves); stage_area = hs; move_area = w.holds }

  pub tray_cut : (caps : Caps) (i t : ℕ) (r : Pieces) (one two new : List ℕ)
      → CutAllowed caps (held n k bs cs) i t r → i < k → one ≡ put cs (8 * i) (move_record r.first)
      → two ≡ put one (8 * k) (move_record r.second)
      → new ≡ put bs (4 * n) (stage_record (record { marks = 0; kind = Silent }))
      → Edited (n + 1) (k + 1) new two (with_cut (held n k bs cs) i t)
  tray_cut caps i t r one two new allowed below put_first put_second put_stage =
      let a = record_replaced move_layout move_lawful k cs hm r.first i one below put_first in
      let b = record_appended move_layout move_lawful k one a.holds r.second two put_second in
      let w = record_appended stage_layout stage_lawful n bs hs _ new put_stage in
      let moves = b.reads ∙ ap (λ ms. ms ++ (r.second ∷ [])) a.reads in
      let p : Prog = held n k bs cs in
      let pieces : set p.moves i r.first ++ (r.second ∷ []) ≡ (with_cut p i t).moves =
      cc (allowed.first, allowed.second) in
      record { is = same_prog _ _ w.reads (moves ∙ pieces); stage_area = w.holds; move_area = b.holds }

  pub tray_joined : (j : Joint) (m : ℕ) (one two new : List ℕ) → n ≡ suc j.stage → k ≡ suc m → j.into < k
      → j.out_of < k → one ≡ put cs (8 * j.into) (move_record j.whole) → two ≡ taken_out 8 k j.out_of one
      → new ≡ taken_out 4 n j.stage bs → Edited j.stage m new two (joined (held n k bs cs) j)
  tray_joined j m one two new last some into out wrote taken gone =
      let a = record_replaced move_layout move_lawful k cs hm j.whole j.into one into wrote in
      let b = record_taken move_layout move_lawful k m one a.holds some j.out_of two out taken in
      let w = record_taken stage_layout stage_lawful n j.stage bs hs last j.stage new (omega arith) gone in
      let stages = w.reads ∙ removed_last _ j.stage (length_in_use stage_layout n bs ∙ last) in
      record {
        is = same_prog _ _ stages (b.reads ∙ ap (λ ms. remove ms j.out_of) a.reads);
        stage_area = w.holds;
        move_area = b.holds;
      }
