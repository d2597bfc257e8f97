-- What a program allows a join: its last stage is silent, one move enters it and another leaves it, and both together
-- are not too long.
use Rattle.std.specs.Prelude.{◌≡◌, suc, ◌+◌, ◌≤◌, false, length, Option, MatchOption}
use Rattle.program.specs.declared.EditFault.TheVariants.{NothingToJoin}
use Rattle.program.specs.Meaning.{Prog, stage_at, move_at, most_minutes}
use Rattle.program.specs.Edits.{is_open, leads, join_step, refused}
use Rattle.program.specs.Tidy.{Tidy}
use Rattle.program.specs.declared.End.TheVariants.{Leaves, Enters}
use Rattle.program.specs.Ends.{end_of}
use Rattle.stores.specs.declared.joint.Joint.{Joint}
use Rattle.stores.specs.MoveEnds.{Only}

pub record JoinAllowed (p : Prog) (j : Joint) : Type 0 where
  pub last : length p.stages ≡ suc j.stage
  pub hushed : is_open (stage_at p j.stage).kind ≡ false
  pub enters : Only p (end_of Enters) j.stage j.into
  pub leaves : Only p (end_of Leaves) j.stage j.out_of
  pub apart : j.into ≡ j.out_of → ⊥
  pub short : (move_at p j.into).minutes + (move_at p j.out_of).minutes ≤ most_minutes
  pub is :
      j.whole
      ≡ leads (move_at p j.into).leaves ((move_at p j.into).minutes + (move_at p j.out_of).minutes)
      (move_at p j.out_of).enters

-- A tidy program is refused a join only where its step says so.
abbrev pub JoinTested : Prog → Option Joint → Type 0
JoinTested p r = MatchOption r (Tidy p → join_step p ≡ refused NothingToJoin p) (JoinAllowed p)
