-- What every edit keeps of silent stages: each joins just two moves, and what they make of one hold is a week at most.
use Rattle.std.specs.Prelude.{◌≡◌, ℕ, ◌+◌, ◌<◌, ◌≤◌, length}
use Rattle.program.specs.declared.Kind.TheVariants.{Open, Silent}
use Rattle.program.specs.declared.Move.{Move}
use Rattle.program.specs.Meaning.{Prog, stage_at, move_at, most_minutes, Fits}

-- There is a stage s, and it is open, or silent.
abbrev pub OpenAt : Prog → ℕ → Type 0
OpenAt p s = (s < length p.stages) × ((stage_at p s).kind ≡ Open)

abbrev pub SilentAt : Prog → ℕ → Type 0
SilentAt p s = (s < length p.stages) × ((stage_at p s).kind ≡ Silent)

-- Just one move has stage s at an end (the end that it leaves, or the one that it enters).
pub record JustOne (p : Prog) (end : Move → ℕ) (s : ℕ) : Type 0 where
  pub it : ℕ
  pub real : it < length p.moves
  pub has : end (move_at p it) ≡ s
  pub alone : (m : ℕ) → m < length p.moves → end (move_at p m) ≡ s → m ≡ it

-- From stage s the way on, through silent stages, comes to an open one, in so many minutes.
pub data Way (p : Prog) : ℕ → ℕ → Type 0 where
  there : {s : ℕ} → OpenAt p s → Way p s 0
  on : {s c d : ℕ} → (m : ℕ) → m < length p.moves → (move_at p m).leaves ≡ s → SilentAt p s
      → Way p (move_at p m).enters c → d ≡ (move_at p m).minutes + c → Way p s d

-- From move m the way on comes to an open stage, and takes a week at most from where the move begins.
pub record Onward (p : Prog) (m : ℕ) : Type 0 where
  pub rest : ℕ
  pub way : Way p (move_at p m).enters rest
  pub short : (move_at p m).minutes + rest ≤ most_minutes

pub record Tidy (p : Prog) : Type 0 where
  -- as every readable program has it
  pub ends : (m : ℕ) → m < length p.moves → Fits (length p.stages) (move_at p m)
  -- a silent stage has one move in, and one move out
  pub one_in : (s : ℕ) → SilentAt p s → JustOne p (λ (m : Move). m.enters) s
  pub one_out : (s : ℕ) → SilentAt p s → JustOne p (λ (m : Move). m.leaves) s
  pub onward : (m : ℕ) → m < length p.moves → Onward p m

-- What an edit promises of the programs before and after it.
abbrev pub StaysTidy : Prog → Prog → Type 0
StaysTidy before after = Tidy before → Tidy after
