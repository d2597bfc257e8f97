-- A program in which one move of another is made by two, through a silent last stage: a cut, and a join read backwards.
-- The one is tidy exactly if the other is.
use Rattle.std.proofs.Common.{◌≡◌, ℕ, suc, ◌+◌, ◌<◌, ◌≤◌, ◌⊎◌, List, [], ◌∷◌, ◌++◌, length, get_or, sym, refl, ap, ◌∙◌}
use Rattle.std.proofs.Common.{subst, inl, inr, ⊎_elim, arith, length-append}
use Rattle.std.proofs.lemmas.List.{get_or_append_left, get_or_push}
use Rattle.std.proofs.lemmas.Bool.{cases_eq}
use Rattle.program.specs.declared.Kind.TheVariants.{Open, Silent}
use Rattle.program.specs.declared.Stage.{Stage}
use Rattle.program.specs.declared.Move.{Move}
use Rattle.program.specs.Meaning.{Prog, no_stage, stage_at, move_at}
use Rattle.program.specs.Tidy.{OpenAt, SilentAt, JustOne, Way, there, on, Onward, Tidy}

abbrev pub size : Prog → ℕ
size p = length p.stages

abbrev pub count : Prog → ℕ
count p = length p.moves

-- A stage is not both.
pub not_both : (p : Prog) (s : ℕ) → (stage_at p s).kind ≡ Open → (stage_at p s).kind ≡ Silent → ⊥
not_both p s o h = let z : ◌≡◌ {A = ℕ} 0 1 = cc in omega arith

pub record Split (q p : Prog) : Type 0 where
  pub extra : Stage
  pub stages : p.stages ≡ q.stages ++ (extra ∷ [])
  pub hushed : extra.kind ≡ Silent
  -- the move k of q is made by `up k` and `out` of p; where the moves of q stand in p
  pub k : ℕ
  pub out : ℕ
  pub up : ℕ → ℕ
  pub real_k : k < count q
  pub real_out : out < count p
  pub real_up : (m : ℕ) → m < count q → up m < count p
  pub up_one : (m n : ℕ) → up m ≡ up n → m ≡ n
  pub up_other : (m : ℕ) → m < count q → up m ≡ out → ⊥
  pub up_all : (x : ℕ) → x < count p → (x ≡ out → ⊥) → (m : ℕ) × (m < count q) × (up m ≡ x)
  pub same : (m : ℕ) → m < count q → (m ≡ k → ⊥) → move_at p (up m) ≡ move_at q m
  pub in_leaves : (move_at p (up k)).leaves ≡ (move_at q k).leaves
  pub in_enters : (move_at p (up k)).enters ≡ size q
  pub out_leaves : (move_at p out).leaves ≡ size q
  pub out_enters : (move_at p out).enters ≡ (move_at q k).enters
  pub sum : (move_at p (up k)).minutes + (move_at p out).minutes ≡ (move_at q k).minutes
  -- the moves of q join stages of q
  pub from : (m : ℕ) → m < count q → (move_at q m).leaves < size q
  pub to : (m : ℕ) → m < count q → (move_at q m).enters < size q

module _ (q p : Prog) (S : Split q p) where
  abbrev k : ℕ
  k = S.k

  abbrev out : ℕ
  out = S.out

  abbrev up : ℕ → ℕ
  up m = S.up m

  -- Stages

  pub split_size : size p ≡ suc (size q)
  split_size =
      ap length S.stages ∙ length-append q.stages (S.extra ∷ [])
      ∙ (let z : size q + 1 ≡ suc (size q) = omega arith in z)

  stage_old : (s : ℕ) → s < size q → stage_at p s ≡ stage_at q s
  stage_old s l =
      ap (λ (xs : List Stage). get_or xs s no_stage) S.stages
      ∙ get_or_append_left q.stages (S.extra ∷ []) no_stage s l

  stage_last : stage_at p (size q) ≡ S.extra
  stage_last =
      ap (λ (xs : List Stage). get_or xs (size q) no_stage) S.stages
      ∙ get_or_push q.stages S.extra no_stage (size q) refl

  open_up : (s : ℕ) → OpenAt q s → OpenAt p s
  open_up s o = (let e = split_size in omega (arith, o.0), ap (λ (x : Stage). x.kind) (stage_old s o.0) ∙ o.1)

  open_down : (s : ℕ) → s < size q → OpenAt p s → OpenAt q s
  open_down s l o = (l, ap (λ (x : Stage). x.kind) (sym (stage_old s l)) ∙ o.1)

  silent_last : SilentAt p (size q)
  silent_last = (let e = split_size in omega arith, ap (λ (x : Stage). x.kind) stage_last ∙ S.hushed)

  silent_up : (s : ℕ) → SilentAt q s → SilentAt p s
  silent_up s h = (let e = split_size in omega (arith, h.0), ap (λ (x : Stage). x.kind) (stage_old s h.0) ∙ h.1)

  silent_down : (s : ℕ) → s < size q → SilentAt p s → SilentAt q s
  silent_down s l h = (l, ap (λ (x : Stage). x.kind) (sym (stage_old s l)) ∙ h.1)

  -- Moves

  abbrev Sort : ℕ → Type 0
  Sort x = (x ≡ out) ⊎ ((m : ℕ) × (m < count q) × (up m ≡ x))

  -- a move of p is `out`, or stands for one of q
  pub sort : (x : ℕ) → x < count p → Sort x
  sort x l = ⊎_elim (λ e. inl e) (λ e. inr (S.up_all x l e)) (cases_eq x out)

  pub leaves_up : (m : ℕ) → m < count q → (move_at p (up m)).leaves ≡ (move_at q m).leaves
  leaves_up m l =
      ⊎_elim (λ e. subst (λ x. (move_at p (up x)).leaves ≡ (move_at q x).leaves) (sym e) S.in_leaves)
      (λ e. ap (λ (x : Move). x.leaves) (S.same m l e)) (cases_eq m k)

  pub enters_up : (m : ℕ) → m < count q → (m ≡ k → ⊥) → (move_at p (up m)).enters ≡ (move_at q m).enters
  enters_up m l e = ap (λ (x : Move). x.enters) (S.same m l e)

  pub minutes_up : (m : ℕ) → m < count q → (m ≡ k → ⊥) → (move_at p (up m)).minutes ≡ (move_at q m).minutes
  minutes_up m l e = ap (λ (x : Move). x.minutes) (S.same m l e)

  -- the only move that leaves the last stage
  pub only_out : (x : ℕ) → x < count p → size q ≤ (move_at p x).leaves → x ≡ out
  only_out x l h = go (sort x l)
    where
      go : Sort x → x ≡ out
      go (inl e) = e
      go (inr o) =
          let a : (move_at p x).leaves ≡ (move_at q o.0).leaves =
          ap (λ y. (move_at p y).leaves) (sym o.2) ∙ leaves_up o.0 o.1 in
          let b = S.from o.0 o.1 in
          absurd (omega arith)

  -- where a move other than `out` enters: the last stage, or what its move of q does
  enters_of : (m x : ℕ) → m < count q → up m ≡ x
      → ((m ≡ k) × ((move_at p x).enters ≡ size q)) ⊎ ((m ≡ k → ⊥) × ((move_at p x).enters ≡ (move_at q m).enters))
  enters_of m x l e =
      ⊎_elim
      (λ i. inl (i, ap (λ y. (move_at p y).enters) (sym e) ∙ ap (λ y. (move_at p (up y)).enters) i ∙ S.in_enters))
      (λ i. inr (i, ap (λ y. (move_at p y).enters) (sym e) ∙ enters_up m l i))
      (cases_eq m k)

  leaves_of : (m x : ℕ) → m < count q → up m ≡ x → (move_at p x).leaves ≡ (move_at q m).leaves
  leaves_of m x l e = ap (λ y. (move_at p y).leaves) (sym e) ∙ leaves_up m l

  pub split_from : (x : ℕ) → x < count p → (move_at p x).leaves < size p
  split_from x l = go (sort x l)
    where
      go : Sort x → (move_at p x).leaves < size p
      go (inl i) =
          let a : (move_at p x).leaves ≡ size q = ap (λ y. (move_at p y).leaves) i ∙ S.out_leaves in
          let e = split_size in
          omega arith
      go (inr o) =
          let a = leaves_of o.0 x o.1 o.2 in
          let b = S.from o.0 o.1 in
          let e = split_size in
          omega arith

  pub split_to : (x : ℕ) → x < count p → (move_at p x).enters < size p
  split_to x l = go (sort x l)
    where
      go : Sort x → (move_at p x).enters < size p
      go (inl i) =
          let a : (move_at p x).enters ≡ (move_at q k).enters = ap (λ y. (move_at p y).enters) i ∙ S.out_enters in
          let b = S.to k S.real_k in
          let e = split_size in
          omega arith
      go (inr o) =
          let b = S.to o.0 o.1 in
          let e = split_size in
          ⊎_elim (λ a. omega (arith, a.1)) (λ a. omega (arith, a.1)) (enters_of o.0 x o.1 o.2)

  -- p is tidy if q is.

  way_up : {s c : ℕ} → Way q s c → Way p s c
  way_up (there {s} o) = there (open_up s o)
  way_up (on {s} {c} {d} m lm e si w ed) = go (way_up w) (cases_eq m k)
    where
      go : Way p (move_at q m).enters c → (m ≡ k) ⊎ (m ≡ k → ⊥) → Way p s d
      go w' (inl i) =
          let w'' : Way p (move_at p out).enters c =
          subst (λ x. Way p x c) (ap (λ x. (move_at q x).enters) i ∙ sym S.out_enters) w' in
          let v : Way p (size q) ((move_at p out).minutes + c) =
          on out S.real_out S.out_leaves silent_last w'' refl in
          let u : (move_at p (up m)).enters ≡ size q = ap (λ x. (move_at p (up x)).enters) i ∙ S.in_enters in
          let t : (move_at q m).minutes ≡ (move_at q k).minutes = ap (λ x. (move_at q x).minutes) i in
          let t' : (move_at p (up m)).minutes ≡ (move_at p (up k)).minutes = ap (λ x. (move_at p (up x)).minutes) i in
          let h = S.sum in
          on (up m) (S.real_up m lm) (leaves_up m lm ∙ e) (silent_up s si)
          (subst (λ x. Way p x ((move_at p out).minutes + c)) (sym u) v) (omega arith)
      go w' (inr i) =
          let h = minutes_up m lm i in
          on (up m) (S.real_up m lm) (leaves_up m lm ∙ e) (silent_up s si)
          (subst (λ x. Way p x c) (sym (enters_up m lm i)) w') (omega arith)

  module _ (tq : Tidy q) where
    out_up : (s : ℕ) → SilentAt p s → JustOne p (λ (m : Move). m.leaves) s
    out_up s si = go (cases_eq s (size q))
      where
        go : (s ≡ size q) ⊎ (s ≡ size q → ⊥) → JustOne p (λ (m : Move). m.leaves) s
        go (inl e) =
            record {
              it = out;
              real = S.real_out;
              has = S.out_leaves ∙ sym e;
              alone = λ x l h. only_out x l (omega arith);
            }
        go (inr e) =
            let z = split_size in
            let l : s < size q = omega (arith, si.0) in
            let one = tq.one_out s (silent_down s l si) in
            record {
              it = up one.it;
              real = S.real_up one.it one.real;
              has = leaves_up one.it one.real ∙ one.has;
              alone = λ x lx h.
                  ⊎_elim
                  (λ i.
                  let a : (move_at p x).leaves ≡ size q = ap (λ y. (move_at p y).leaves) i ∙ S.out_leaves in
                  absurd (omega arith))
                  (λ o. sym o.2 ∙ ap up (one.alone o.0 o.1 (sym (leaves_of o.0 x o.1 o.2) ∙ h)))
                  (sort x lx);
            }

    in_up : (s : ℕ) → SilentAt p s → JustOne p (λ (m : Move). m.enters) s
    in_up s si = go (cases_eq s (size q))
      where
        -- a move of p that enters s is `out`, if k does, or comes from one that does
        by_case : (s ≡ size q → ⊥) → (one : JustOne q (λ (m : Move). m.enters) s)
            → (one.it ≡ k) ⊎ (one.it ≡ k → ⊥) → JustOne p (λ (m : Move). m.enters) s
        by_case e one (inl i) =
            record {
              it = out;
              real = S.real_out;
              has = S.out_enters ∙ ap (λ y. (move_at q y).enters) (sym i) ∙ one.has;
              alone = λ x lx h.
                  ⊎_elim (λ j. j)
                  (λ o.
                  ⊎_elim (λ j. absurd (e (sym h ∙ j.1)))
                  (λ j. absurd (j.0 (one.alone o.0 o.1 (sym j.1 ∙ h) ∙ i)))
                  (enters_of o.0 x o.1 o.2))
                  (sort x lx);
            }
        by_case e one (inr i) =
            record {
              it = up one.it;
              real = S.real_up one.it one.real;
              has = enters_up one.it one.real i ∙ one.has;
              alone = λ x lx h.
                  ⊎_elim
                  (λ j.
                  let a : (move_at q k).enters ≡ s = sym S.out_enters ∙ ap (λ y. (move_at p y).enters) (sym j) ∙ h in
                  absurd (i (sym (one.alone k S.real_k a))))
                  (λ o.
                  ⊎_elim (λ j. absurd (e (sym h ∙ j.1)))
                  (λ j. sym o.2 ∙ ap up (one.alone o.0 o.1 (sym j.1 ∙ h)))
                  (enters_of o.0 x o.1 o.2))
                  (sort x lx);
            }

        go : (s ≡ size q) ⊎ (s ≡ size q → ⊥) → JustOne p (λ (m : Move). m.enters) s
        go (inl e) =
            record {
              it = up k;
              real = S.real_up k S.real_k;
              has = S.in_enters ∙ sym e;
              alone = λ x lx h.
                  ⊎_elim
                  (λ i.
                  let a : (move_at p x).enters ≡ (move_at q k).enters =
                  ap (λ y. (move_at p y).enters) i ∙ S.out_enters in
                  let c = S.to k S.real_k in
                  absurd (omega arith))
                  (λ o.
                  let c = S.to o.0 o.1 in
                  ⊎_elim (λ j. sym o.2 ∙ ap up j.0) (λ j. absurd (omega (arith, j.1)))
                  (enters_of o.0 x o.1 o.2))
                  (sort x lx);
            }
        go (inr e) =
            let z = split_size in
            let l : s < size q = omega (arith, si.0) in
            let one = tq.one_in s (silent_down s l si) in
            by_case e one (cases_eq one.it k)

    onward_up : (x : ℕ) → x < count p → Onward p x
    onward_up x lx = go (sort x lx)
      where
        from_k : Way p (move_at p out).enters (tq.onward k S.real_k).rest
        from_k =
            subst (λ y. Way p y (tq.onward k S.real_k).rest) (sym S.out_enters)
            (way_up (tq.onward k S.real_k).way)

        at_up : (m : ℕ) → m < count q → (m ≡ k) ⊎ (m ≡ k → ⊥) → Onward p (up m)
        at_up m l (inl j) =
            let n = tq.onward k S.real_k in
            let h = S.sum in
            let u = n.short in
            let si = subst (λ y. SilentAt p y) (sym S.in_enters) silent_last in
            subst (λ y. Onward p (up y)) (sym j)
            (record {
              rest = (move_at p out).minutes + n.rest;
              way = on out S.real_out (S.out_leaves ∙ sym S.in_enters) si from_k refl;
              short = omega arith;
            })
        at_up m l (inr j) =
            let n = tq.onward m l in
            let h = minutes_up m l j in
            let u = n.short in
            record {
              rest = n.rest;
              way = subst (λ y. Way p y n.rest) (sym (enters_up m l j)) (way_up n.way);
              short = omega arith;
            }

        go : Sort x → Onward p x
        go (inl i) =
            let n = tq.onward k S.real_k in
            let h = S.sum in
            let u = n.short in
            subst (λ y. Onward p y) (sym i) (record { rest = n.rest; way = from_k; short = omega arith })
        go (inr o) = subst (λ y. Onward p y) o.2 (at_up o.0 o.1 (cases_eq o.0 k))

    pub tidy_up : Tidy p
    tidy_up =
        record {
          ends = λ m l. let u = (onward_up m l).short in (split_from m l, split_to m l, omega arith);
          one_in = in_up;
          one_out = out_up;
          onward = onward_up;
        }

  -- q is tidy if p is.

  abbrev Down : ℕ → ℕ → Type 0
  Down s c =
      (s < size q → Way q s c)
      × (s ≡ size q → (d : ℕ) × Way q (move_at q k).enters d × (c ≡ (move_at p out).minutes + d))

  way_down : {s c : ℕ} → Way p s c → Down s c
  way_down (there {s} o) = (
    (λ l. there (open_down s l o)),
    (λ e. absurd (not_both p (size q) (subst (λ x. (stage_at p x).kind ≡ Open) e o.1) silent_last.1)),
  )
  way_down (on {s} {c} {d} x lx e si w ed) = (below (way_down w) (sort x lx), last (way_down w))
    where
      below : Down (move_at p x).enters c → Sort x → s < size q → Way q s d
      below ih (inl i) l =
          let a : (move_at p x).leaves ≡ size q = ap (λ y. (move_at p y).leaves) i ∙ S.out_leaves in
          absurd (omega arith)
      below ih (inr o) l = go (enters_of o.0 x o.1 o.2)
        where
          leaves-x : (move_at q o.0).leaves ≡ s
          leaves-x = sym (leaves_of o.0 x o.1 o.2) ∙ e

          go : ((o.0 ≡ k) × ((move_at p x).enters ≡ size q))
              ⊎ ((o.0 ≡ k → ⊥) × ((move_at p x).enters ≡ (move_at q o.0).enters))
              → Way q s d
          go (inl j) =
              let t = ih.1 j.1 in
              let m1 : (move_at p x).minutes ≡ (move_at p (up k)).minutes =
              ap (λ y. (move_at p y).minutes) (sym o.2) ∙ ap (λ y. (move_at p (up y)).minutes) j.0 in
              let h = S.sum in
              on k S.real_k (ap (λ y. (move_at q y).leaves) (sym j.0) ∙ leaves-x) (silent_down s l si) t.1
              (omega (arith, t.2))
          go (inr j) =
              let b = S.to o.0 o.1 in
              let m1 : (move_at p x).minutes ≡ (move_at q o.0).minutes =
              ap (λ y. (move_at p y).minutes) (sym o.2) ∙ minutes_up o.0 o.1 j.0 in
              on o.0 o.1 leaves-x (silent_down s l si)
              (subst (λ y. Way q y c) j.1 (ih.0 (omega (arith, j.1)))) (omega arith)

      last : Down (move_at p x).enters c → s ≡ size q
          → (d' : ℕ) × Way q (move_at q k).enters d' × (d ≡ (move_at p out).minutes + d')
      last ih i =
          let j = only_out x lx (omega arith) in
          let a : (move_at p x).enters ≡ (move_at q k).enters = ap (λ y. (move_at p y).enters) j ∙ S.out_enters in
          let b = S.to k S.real_k in
          let m1 : (move_at p x).minutes ≡ (move_at p out).minutes = ap (λ y. (move_at p y).minutes) j in
          (c, subst (λ y. Way q y c) a (ih.0 (omega arith)), omega arith)

  module _ (tp : Tidy p) where
    out_down : (s : ℕ) → SilentAt q s → JustOne q (λ (m : Move). m.leaves) s
    out_down s si = go (sort one.it one.real)
      where
        one : JustOne p (λ (m : Move). m.leaves) s
        one = tp.one_out s (silent_up s si)

        go : Sort one.it → JustOne q (λ (m : Move). m.leaves) s
        go (inl i) =
            let a : (move_at p one.it).leaves ≡ size q = ap (λ y. (move_at p y).leaves) i ∙ S.out_leaves in
            let c = one.has in
            absurd (omega (arith, si.0))
        go (inr o) =
            record {
              it = o.0;
              real = o.1;
              has = sym (leaves_of o.0 one.it o.1 o.2) ∙ one.has;
              alone = λ m l h.
                  S.up_one m o.0 (one.alone (up m) (S.real_up m l) (leaves_up m l ∙ h) ∙ sym o.2);
            }

    in_down : (s : ℕ) → SilentAt q s → JustOne q (λ (m : Move). m.enters) s
    in_down s si = go (sort one.it one.real)
      where
        one : JustOne p (λ (m : Move). m.enters) s
        one = tp.one_in s (silent_up s si)

        go : Sort one.it → JustOne q (λ (m : Move). m.enters) s
        go (inl i) =
            record {
              it = k;
              real = S.real_k;
              has = sym S.out_enters ∙ ap (λ y. (move_at p y).enters) (sym i) ∙ one.has;
              alone = λ m l h.
                  ⊎_elim (λ j. j)
                  (λ j. absurd (S.up_other m l (one.alone (up m) (S.real_up m l) (enters_up m l j ∙ h) ∙ i)))
                  (cases_eq m k);
            }
        go (inr o) = not-k (enters_of o.0 one.it o.1 o.2)
          where
            not-k : ((o.0 ≡ k) × ((move_at p one.it).enters ≡ size q))
                ⊎ ((o.0 ≡ k → ⊥) × ((move_at p one.it).enters ≡ (move_at q o.0).enters))
                → JustOne q (λ (m : Move). m.enters) s
            not-k (inl j) = let c = one.has in absurd (omega (arith, j.1, si.0))
            not-k (inr j) =
                record {
                  it = o.0;
                  real = o.1;
                  has = sym j.1 ∙ one.has;
                  alone = λ m l h.
                      ⊎_elim
                      (λ i.
                      let a = S.out_enters ∙ ap (λ y. (move_at q y).enters) (sym i) ∙ h in
                      absurd (S.up_other o.0 o.1 (o.2 ∙ sym (one.alone out S.real_out a))))
                      (λ i.
                      S.up_one m o.0 (one.alone (up m) (S.real_up m l) (enters_up m l i ∙ h) ∙ sym o.2))
                      (cases_eq m k);
                }

    onward_down : (m : ℕ) → m < count q → Onward q m
    onward_down m l = go (cases_eq m k)
      where
        go : (m ≡ k) ⊎ (m ≡ k → ⊥) → Onward q m
        go (inl i) =
            let n = tp.onward (up k) (S.real_up k S.real_k) in
            let t = (way_down n.way).1 S.in_enters in
            let h = S.sum in
            let u = n.short in
            subst (λ y. Onward q y) (sym i) (record { rest = t.0; way = t.1; short = omega (arith) })
        go (inr i) =
            let n = tp.onward (up m) (S.real_up m l) in
            let e = enters_up m l i in
            let b = S.to m l in
            let h = minutes_up m l i in
            let u = n.short in
            record {
              rest = n.rest;
              way = subst (λ y. Way q y n.rest) e ((way_down n.way).0 (omega arith));
              short = omega arith;
            }

    pub tidy_down : Tidy q
    tidy_down =
        record {
          ends = λ m l. let u = (onward_down m l).short in (S.from m l, S.to m l, omega arith);
          one_in = in_down;
          one_out = out_down;
          onward = onward_down;
        }
