-- A line of a page has at most one reading, and each step of its readers keeps it.
use Rattle.std.proofs.Common.{◌≡◌, ℕ, ◌<◌, List, ◌∷◌, ◌++◌, codes, decimal, sym, refl, ap, ◌∙◌, subst, arith}
use Rattle.std.proofs.lemmas.Fmt.{decimal_injective}
use Rattle.layout.specs.Numbers.{Small}
use Rattle.layout.specs.Letters.{letters}
use Rattle.layout.specs.Splits.{Lacks}
use Rattle.layout.specs.declared.loading.Part.{Part}
use Rattle.layout.specs.Pages.{NoLine}
use Rattle.layout.specs.declared.line.MoveLine.{MoveLine}
use Rattle.layout.specs.Lines.{Line, stage, move, rule, write, Fits, move_line, write_move, FitsMove}
use Rattle.layout.proofs.Decimals.{decimal_writes}
use Rattle.layout.proofs.Cuts.{no_cut, one_cut, lacks_cons, lacks_append, lacks_behind, lacks_from_test}
use Rattle.layout.proofs.Rising.{same_marks, letter_low}

decimal_lacks : (mark n : ℕ) → mark < 48 → Small n → Lacks mark (decimal n)
decimal_lacks mark n h s i l e = omega (arith, (decimal_writes n (omega arith)).digits i l)

decimal_lacks_comma : (n : ℕ) → Small n → Lacks 44 (decimal n)
decimal_lacks_comma n s = decimal_lacks 44 n (omega arith) s

-- The number before the first comma, and what stands behind it.
pub number_first : {text a rest : List ℕ} (n : ℕ) (more : List ℕ) → (text ≡ a ++ 44 ∷ rest) × Lacks 44 a → Small n
    → text ≡ decimal n ++ 44 ∷ more → (a ≡ decimal n) × (rest ≡ more)
number_first {text} {a} {rest} n more cut s e =
    one_cut 44 a (decimal n) rest more cut.1 (decimal_lacks_comma n s) (sym cut.0 ∙ e)

same_move : (m n : MoveLine) → FitsMove m → FitsMove n → write_move m ≡ write_move n
    → (m.leaves ≡ n.leaves) × (m.minutes ≡ n.minutes) × (m.enters ≡ n.enters)
same_move m n f g e =
    let p = number_first {a = decimal m.leaves} n.leaves (decimal n.minutes ++ 44 ∷ decimal n.enters) (
      refl,
      decimal_lacks_comma m.leaves f.0,
    ) g.0 e in
    let q = number_first {a = decimal m.minutes} n.minutes (decimal n.enters) (
      refl,
      decimal_lacks_comma m.minutes f.1,
    ) g.1 p.1 in (
      decimal_injective m.leaves n.leaves (omega arith) (omega arith) p.0,
      decimal_injective m.minutes n.minutes (omega arith) (omega arith) q.0,
      decimal_injective m.enters n.enters (omega arith) (omega arith) q.1,
    )

other_kind : {xs ys : List ℕ} (x y : ℕ) → x ∷ xs ≡ y ∷ ys → (x ≡ y → ⊥) → ⊥
other_kind x y e n = n (cc)

pub same_line : (x y : Line) → Fits x → Fits y → write x ≡ write y → x ≡ y
same_line (stage m) (stage n) f g e = ap stage (same_marks m n f g (cc))
same_line (stage m) (move s d t) f g e = absurd (other_kind 115 109 e (λ h. omega arith))
same_line (stage m) (rule text) f g e = absurd (other_kind 115 114 e (λ h. omega arith))
same_line (move s d t) (stage m) f g e = absurd (other_kind 109 115 e (λ h. omega arith))
same_line (move s d t) (move s' d' t') f g e =
    let h = same_move (move_line s d t) (move_line s' d' t') f g (cc) in
    let p = h.0 in
    let q = h.1 in
    let r = h.2 in
    cc
same_line (move s d t) (rule text) f g e = absurd (other_kind 109 114 e (λ h. omega arith))
same_line (rule text) (stage m) f g e = absurd (other_kind 114 115 e (λ h. omega arith))
same_line (rule text) (move s d t) f g e = absurd (other_kind 114 109 e (λ h. omega arith))
same_line (rule text) (rule text') f g e = ap rule (cc)

pub no_move_line : {line text : List ℕ} → line ≡ codes "move=" ++ text
    → ((m : MoveLine) → FitsMove m → text ≡ write_move m → ⊥) → (x : Line) → Fits x → line ≡ write x → ⊥
no_move_line is none (stage marks) f e = other_kind 109 115 (sym is ∙ e) (λ h. omega arith)
no_move_line is none (move s d t) f e = none (move_line s d t) f (cc)
no_move_line is none (rule text) f e = other_kind 109 114 (sym is ∙ e) (λ h. omega arith)

pub line_lacks_end : (line : Line) → Fits line → Lacks 10 (write line)
line_lacks_end (stage marks) f = lacks_append 10 (codes "stage=") (letters marks)
    (lacks_from_test 10 (codes "stage=") refl) (λ i l e. omega (arith, letter_low marks i l))
line_lacks_end (move s d t) f =
    lacks_append 10 (codes "move=") (write_move (move_line s d t)) (lacks_from_test 10 (codes "move=") refl)
    (lacks_append 10 (decimal s) (44 ∷ (decimal d ++ 44 ∷ decimal t)) (decimal_lacks 10 s (omega arith) f.0)
    (lacks_cons 10 44 (decimal d ++ 44 ∷ decimal t) (λ e. omega arith)
    (lacks_append 10 (decimal d) (44 ∷ decimal t) (decimal_lacks 10 d (omega arith) f.1)
    (lacks_cons 10 44 (decimal t) (λ e. omega arith) (decimal_lacks 10 t (omega arith) f.2)))))
line_lacks_end (rule text) f = lacks_append 10 (codes "rule=") text (lacks_from_test 10 (codes "rule=") refl) f

pub rule_text : {line text : List ℕ} → Lacks 10 line → line ≡ codes "rule=" ++ text
    → Lacks 10 text × (line ≡ codes "rule=" ++ text)
rule_text {line} {text} n e = (lacks_behind 10 (codes "rule=") text (subst (Lacks 10) e n), e)

-- Where no line is ended, or the first one has no reading, there is no line.
pub no_end : (part : Part) (bytes : List ℕ) → Lacks 10 bytes → NoLine part bytes
no_end part bytes n line rest f e = no_cut 10 bytes (write line) rest n e

pub no_reading : {bytes : List ℕ} (first rest : List ℕ) (part : Part) → (bytes ≡ first ++ 10 ∷ rest) × Lacks 10 first
    → ((line : Line) → Fits line → first ≡ write line → ⊥) → NoLine part bytes
no_reading first rest part cut none line more f e =
    none line f.fits (one_cut 10 first (write line) rest more cut.1 (line_lacks_end line f.fits)
    (sym cut.0 ∙ e)).0
