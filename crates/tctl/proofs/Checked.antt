-- The checker is right.
use Rattle.std.proofs.Common.{ℕ, Bool, ◌⊎◌, List, inl, inr, ⊎_elim}
use Rattle.tctl.specs.Graph.{Graph, Open, size}
use Rattle.tctl.specs.Runs.{Sound, Run}
use Rattle.tctl.specs.Rules.{Rule, one, letter, not, both, either, some_run, each_run, Bound, most, least}
use Rattle.tctl.specs.Holds.{Holds, marked, Until}
use Rattle.tctl.specs.Checker.{where_holds, at, open?, ◌and◌, ◌or◌, non, some_list, each_list}
use Rattle.tctl.specs.Theorems.{CheckerRight}
use Rattle.tctl.proofs.Basics.{and_l, and_r, and_i, or_e, or_l, or_r, non_e, non_i, table_e, table_i}
use Rattle.tctl.proofs.Common.{Tells, open_fits}
use Rattle.tctl.proofs.Some.{some_most, some_least}
use Rattle.tctl.proofs.Each.{each_most, each_least}

some_b : (p : Graph) (ok : Sound p) (F G : List Bool) (SF SG : ℕ → Type 0) → Tells p F SF → Tells p G SG → (b : Bound)
    → Tells p (some_list p F b G) (λ s. Open p s × ((r : Run p s) × Until p SF b SG r.way))
some_b p ok F G SF SG tF tG (most c) = some_most p ok F G SF SG tF tG c
some_b p ok F G SF SG tF tG (least c) = some_least p ok F G SF SG tF tG c

each_b : (p : Graph) (ok : Sound p) (F G : List Bool) (SF SG : ℕ → Type 0) → Tells p F SF → Tells p G SG → (b : Bound)
    → Tells p (each_list p F b G) (λ s. Open p s × ((r : Run p s) → Until p SF b SG r.way))
each_b p ok F G SF SG tF tG (most c) = each_most p ok F G SF SG tF tG c
each_b p ok F G SF SG tF tG (least c) = each_least p ok F G SF SG tF tG c

pub tells : (p : Graph) → Sound p → (f : Rule) → Tells p (where_holds p f) (λ s. Holds p f s)
tells p ok one =
    record {
      sound = λ s t. (table_e (open? p) (size p) s t).1;
      full = λ s o. table_i (open? p) (size p) s (open_fits p s o) o;
      opens = λ s o. o;
    }
tells p ok (letter a) =
    record {
      sound = λ s t.
          let h = (table_e (λ x. open? p x and marked p x a) (size p) s t).1 in
          (and_l (open? p s) (marked p s a) h, and_r (open? p s) (marked p s a) h);
      full = λ s t.
          table_i (λ x. open? p x and marked p x a) (size p) s (open_fits p s t.0)
          (and_i (open? p s) (marked p s a) t.0 t.1);
      opens = λ s t. t.0;
    }
tells p ok (not f) =
    let F = where_holds p f in
    let tF = tells p ok f in
    record {
      sound = λ s t.
          let h = (table_e (λ x. open? p x and non (at F x)) (size p) s t).1 in
          (and_l (open? p s) (non (at F s)) h, λ u. non_e (at F s) (and_r (open? p s) (non (at F s)) h) (tF.full s u));
      full = λ s t.
          table_i (λ x. open? p x and non (at F x)) (size p) s (open_fits p s t.0)
          (and_i (open? p s) (non (at F s)) t.0 (non_i (at F s) (λ u. t.1 (tF.sound s u))));
      opens = λ s t. t.0;
    }
tells p ok (both f g) =
    let F = where_holds p f in
    let G = where_holds p g in
    let tF = tells p ok f in
    let tG = tells p ok g in
    record {
      sound = λ s t.
          let h = (table_e (λ x. at F x and at G x) (size p) s t).1 in
          (tF.sound s (and_l (at F s) (at G s) h), tG.sound s (and_r (at F s) (at G s) h));
      full = λ s t.
          table_i (λ x. at F x and at G x) (size p) s (open_fits p s (tF.opens s t.0))
          (and_i (at F s) (at G s) (tF.full s t.0) (tG.full s t.1));
      opens = λ s t. tF.opens s t.0;
    }
tells p ok (either f g) =
    let F = where_holds p f in
    let G = where_holds p g in
    let tF = tells p ok f in
    let tG = tells p ok g in
    let opens : (s : ℕ) → Holds p f s ⊎ Holds p g s → Open p s = λ s t. ⊎_elim (tF.opens s) (tG.opens s) t in
    record {
      sound = λ s t.
          ⊎_elim (λ u. inl (tF.sound s u)) (λ u. inr (tG.sound s u))
          (or_e (at F s) (at G s) (table_e (λ x. at F x or at G x) (size p) s t).1);
      full = λ s t.
          table_i (λ x. at F x or at G x) (size p) s (open_fits p s (opens s t))
          (⊎_elim (λ u. or_l (at F s) (at G s) (tF.full s u)) (λ u. or_r (at F s) (at G s) (tG.full s u)) t);
      opens = opens;
    }
tells p ok (some_run f b g) = some_b p ok (where_holds p f) (where_holds p g) _ _ (tells p ok f) (tells p ok g) b
tells p ok (each_run f b g) = each_b p ok (where_holds p f) (where_holds p g) _ _ (tells p ok f) (tells p ok g) b

pub right : CheckerRight
right p ok f s = ((tells p ok f).sound s, (tells p ok f).full s)
