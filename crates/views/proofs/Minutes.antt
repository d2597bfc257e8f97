-- The minute program on a program's lists is the minute program of its graph, and changes no verdict.
use Rattle.std.proofs.Common.{◌≡◌, ℕ, zero, suc, ◌+◌, ◌-◌, min, true, List, [], ◌∷◌, ◌++◌, map, length, replicate, sym}
use Rattle.std.proofs.Common.{refl, ap, ◌∙◌, subst, arith}
use Rattle.std.proofs.lemmas.List.{length-map, map-append}
use Rattle.std.proofs.lemmas.Bool.{cond-true}
use Rattle.cutting.specs.Minute as timed
use Rattle.cutting.specs.Minute.{minute}
use Rattle.cutting.specs.Theorems.{Agree}
use Rattle.cutting.proofs.Alikes.{refined_alike_lem}
use Rattle.cutting.proofs.Halves.{graph_ends}
use Rattle.cutting.proofs.Minutes.{minute_refines_lem, minute_sound}
use Rattle.program.specs.declared.Move.{Move}
use Rattle.program.specs.Meaning.{Prog, Limits, empty}
use Rattle.program.specs.Graphs.{graph, timed_stage, timed_move}
use Rattle.views.specs.Minutes.{through, made_by, inside, moves_by_minute, new_stages, silent_stage, minute_prog}
use Rattle.views.specs.Minutes.{within, minute_view, MinuteGraph}

timed_through : (d s n t : ℕ) → map timed_move (through d 1 s n t) ≡ timed.minutes_through d s n t
timed_through zero s n t = refl
timed_through (suc d) s n t = ap (λ ms. timed.leads s 1 n ∷ ms) (timed_through d n (suc n) t)

timed_made : (d s n t : ℕ) → map timed_move (through (d - 1) (min d 1) s n t) ≡ timed.by_minutes d s n t
timed_made zero s n t = refl
timed_made (suc d) s n t =
    let a : suc d - 1 ≡ d = omega arith in
    let b : min (suc d) 1 ≡ 1 = omega arith in
    rw (a, b) (timed_through d s n t)

timed_moves : (ms : List Move) (n : ℕ)
    → map timed_move (moves_by_minute ms n) ≡ timed.minute_moves (map timed_move ms) n
timed_moves [] n = refl
timed_moves (m ∷ ms) n =
    map-append timed_move (made_by (inside m) m n) (moves_by_minute ms (n + inside m))
    ∙ ap (λ xs. xs ++ map timed_move (moves_by_minute ms (n + inside m)))
    (timed_made m.minutes m.leaves n m.enters)
    ∙ ap (λ xs. timed.by_minutes m.minutes m.leaves n m.enters ++ xs) (timed_moves ms (n + inside m))

timed_count : (ms : List Move) → new_stages ms ≡ timed.hidden (map timed_move ms)
timed_count [] = refl
timed_count (m ∷ ms) = ap (λ x. inside m + x) (timed_count ms)

timed_silent : (n : ℕ) → map timed_stage (replicate n silent_stage) ≡ replicate n timed.silent_one
timed_silent zero = refl
timed_silent (suc n) = ap (λ xs. timed.silent_one ∷ xs) (timed_silent n)

timed_stages : (p : Prog) → (graph (minute_prog p)).stages ≡ (minute (graph p)).stages
timed_stages p =
    map-append timed_stage p.stages (replicate (new_stages p.moves) silent_stage)
    ∙ ap (λ xs. map timed_stage p.stages ++ xs)
    (timed_silent (new_stages p.moves) ∙ ap (λ n. replicate n timed.silent_one) (timed_count p.moves))

timed_all_moves : (p : Prog) → (graph (minute_prog p)).moves ≡ (minute (graph p)).moves
timed_all_moves p =
    timed_moves p.moves (length p.stages)
    ∙ ap (timed.minute_moves (map timed_move p.moves)) (sym (length-map p.stages timed_stage))

pub graph_minute : MinuteGraph
graph_minute p = let a = timed_stages p in let b = timed_all_moves p in cc

module _ (p : Prog) (lim : Limits p) where
  minute_agrees : Agree (graph p) (minute (graph p))
  minute_agrees =
      let ok = graph_ends p (λ m l. (lim.ends m l).0) (λ m l. (lim.ends m l).1) in
      record {
        alike = refined_alike_lem (graph p) (minute (graph p)) ok (minute_refines_lem (graph p) ok);
        sound = minute_sound (graph p) ok;
      }

  pub view_agrees : within (minute_prog p) ≡ true → Agree (graph p) (graph (minute_view p))
  view_agrees h =
      subst (λ q. Agree (graph p) (graph q)) (sym (cond-true (within (minute_prog p)) (minute_prog p) empty h))
      (subst (Agree (graph p)) (sym (graph_minute p)) minute_agrees)
