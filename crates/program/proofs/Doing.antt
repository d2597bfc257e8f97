-- How an implementation shows that an accepted edit does what its step says.
use Rattle.std.proofs.Common.{◌≡◌, ℕ, suc, ◌<◌, ◌≤◌, true, false, List, length, Ok, sym, refl, ap, ◌∙◌, arith, lt-ltb}
use Rattle.std.proofs.Common.{le-leb}
use Rattle.program.specs.declared.Stage.{Stage}
use Rattle.program.specs.declared.Move.{Move}
use Rattle.program.specs.Meaning.{Prog, stage_at, move_at, most_minutes}
use Rattle.program.specs.Edits.{Caps, Does, open_step, mark_step, lay_step, cut_step, join_step}
use Rattle.program.specs.Edits.{is_open, last_stage, with_stage, with_marks, with_move, with_cut, with_join}

abbrev prog : List Stage → List Move → Prog
prog s m = record { stages = s; moves = m }

pub same_prog : (p q : Prog) → p.stages ≡ q.stages → p.moves ≡ q.moves → p ≡ q
same_prog p q s m = ap (λ x. prog x p.moves) s ∙ ap (prog q.stages) m

pub opens : (caps : Caps) (p q : Prog) (m n : ℕ) → length p.stages ≡ n → n < caps.stages → q ≡ with_stage p m
    → Does (open_step caps p m) (Ok n) q
opens caps p q m n e h l =
    let t : length p.stages < caps.stages = omega arith in
    rw (lt-ltb (length p.stages) caps.stages t) (record { answers = ap Ok (sym e); leaves = l })

pub marks_one : (p q : Prog) (s m : ℕ) → s < length p.stages → is_open (stage_at p s).kind ≡ true
    → q ≡ with_marks p s m → Does (mark_step p s m) (Ok s) q
marks_one p q s m h o l = rw (lt-ltb s (length p.stages) h, o) (record { answers = refl; leaves = l })

pub lays : (caps : Caps) (p q : Prog) (s d t n : ℕ) → s < length p.stages → t < length p.stages
    → is_open (stage_at p s).kind ≡ true → is_open (stage_at p t).kind ≡ true → d ≤ most_minutes
    → length p.moves ≡ n → n < caps.moves → q ≡ with_move p s d t
    → Does (lay_step caps p s d t) (Ok n) q
lays caps p q s d t n hs ht os ot hd e h l =
    let u : length p.moves < caps.moves = omega arith in
    rw (
      lt-ltb s (length p.stages) hs,
      lt-ltb t (length p.stages) ht,
      os,
      ot,
      le-leb d most_minutes hd,
      lt-ltb (length p.moves) caps.moves u,
    ) (record { answers = ap Ok (sym e); leaves = l })

pub cuts : (caps : Caps) (p q : Prog) (k a n : ℕ) → k < length p.moves → a ≤ (move_at p k).minutes
    → length p.stages ≡ n → n < caps.stages → length p.moves < caps.moves → q ≡ with_cut p k a
    → Does (cut_step caps p k a) (Ok n) q
cuts caps p q k a n hk ha e hs hm l =
    let u : length p.stages < caps.stages = omega arith in
    rw (
      lt-ltb k (length p.moves) hk,
      le-leb a (move_at p k).minutes ha,
      lt-ltb (length p.stages) caps.stages u,
      lt-ltb (length p.moves) caps.moves hm,
    ) (record { answers = ap Ok (sym e); leaves = l })

pub joins : (p q : Prog) (e : ℕ) → length p.stages ≡ suc e → is_open (stage_at p e).kind ≡ false → q ≡ with_join p
    → Does (join_step p) (Ok e) q
joins p q e n hushed l =
    let u : 0 < length p.stages = omega arith in
    let z : last_stage p ≡ e = omega arith in
    let h : is_open (stage_at p (last_stage p)).kind ≡ false = ap (λ x. is_open (stage_at p x).kind) z ∙ hushed in
    rw (lt-ltb 0 (length p.stages) u, h) (record { answers = ap Ok (sym z); leaves = l })
