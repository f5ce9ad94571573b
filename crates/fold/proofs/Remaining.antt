-- One pass over the gates: a phase gate takes its group's total, and the entry becomes 0, so that later gates of the group find 0.
use Rattle.std.proofs.Common.{◌≡◌, ℕ, zero, suc, ◌+◌, ◌*◌, ◌<◌, ◌≤◌, cond, not, eqb, List, [], ◌∷◌, ◌++◌, length, get_or, sym, refl, ap, ◌∙◌, add-zero, mul-zero, zero-add, zero-mul, mul-one, arith, eq-eqb, ne_eqb}
use native.Mathlib.Decide.{ℕ_discrete}
use Rattle.numbers.specs.Bits.{equal, indicator}
use Rattle.numbers.proofs.Parity.{equal_yes, equal_no}
use Rattle.circuit.specs.declared.Gate.{Gate}
use Rattle.circuit.specs.declared.Gate.TheVariants.{Cnot, Phase, Inverter}
use Rattle.circuit.specs.Working.{AllSound, AllAdmitted}
use Rattle.running.specs.Run.{cnots, inverters}
use Rattle.running.specs.Working.{Met, Unmet, At, numbers_after, met, sum_numbers}
use Rattle.running.proofs.Masks.{Alike, met_alike, alike_after}
use Rattle.fold.specs.Fold.{kept}
use Rattle.fold.specs.Working.{staying, left, moves_of}

-- the totals once that at m is taken
abbrev pub cleared : (ℕ → ℕ) → ℕ → ℕ → ℕ
cleared T m k = cond (eqb k m) 0 (T k)

abbrev pub takes : (ℕ → ℕ) → Met → ℕ
takes T Unmet = 0
takes T (At m a) = T m

abbrev pub after : (ℕ → ℕ) → Met → ℕ → ℕ
after T Unmet = T
after T (At m a) = cleared T m

-- what the pass leaves of the gates, from totals T, each at its group's number, and the wires' numbers ms
unfoldable pub remains : (ℕ → ℕ) → List Gate → List ℕ → List Gate
remains T [] ms = []
remains T (g ∷ gs) ms = left (takes T (met g ms)) g ++ remains (after T (met g ms)) gs (numbers_after g ms)

pub same_function : {A : Type 0} (f g : ℕ → A) → ((m : ℕ) → f m ≡ g m) → f ≡ g
same_function f g h = λ i m. h m i

pub cleared_own : (T : ℕ → ℕ) (m k : ℕ) → k ≡ m → cleared T m k ≡ 0
cleared_own T m k e = ap (λ b. cond b 0 (T k)) (eq-eqb k m e)

pub cleared_other : (T : ℕ → ℕ) (m k : ℕ) → (k ≡ m → ⊥) → cleared T m k ≡ T k
cleared_other T m k e = ap (λ b. cond b 0 (T k)) (ne_eqb k m e)

cleared_none : (T : ℕ → ℕ) (m : ℕ) → T m ≡ 0 → cleared T m ≡ T
cleared_none T m e = same_function (cleared T m) T (λ k. by k (ℕ_discrete k m))
  where
    by : (k : ℕ) → Dec (k ≡ m) → cleared T m k ≡ T k
    by k (yes p) = cleared_own T m k p ∙ sym (ap T p ∙ e)
    by k (no p) = cleared_other T m k p

-- CNOTs and inverters stay in order
moves_kept : (i t : ℕ) (gs : List Gate) → moves_of (kept i t ++ gs) ≡ moves_of gs
unfolding moves_of
moves_kept i zero gs = refl
moves_kept i (suc t) gs = refl

pub moves_remain : (T : ℕ → ℕ) (gs : List Gate) (ms : List ℕ) → moves_of (remains T gs ms) ≡ moves_of gs
unfolding remains moves_of
moves_remain T [] ms = refl
moves_remain T (Cnot c t ∷ gs) ms = ap (Cnot c t ∷◌) (moves_remain T gs (numbers_after (Cnot c t) ms))
moves_remain T (Phase i a ∷ gs) ms =
    moves_kept i (T (get_or ms i 0)) (remains (cleared T (get_or ms i 0)) gs ms) ∙ moves_remain (cleared T (get_or ms i 0)) gs ms
moves_remain T (Inverter i ∷ gs) ms = ap (Inverter i ∷◌) (moves_remain T gs (numbers_after (Inverter i) ms))

-- good gates stay good where the totals are angles
cleared_below : (T : ℕ → ℕ) (m n : ℕ) → 0 < n → ((k : ℕ) → T k < n) → (k : ℕ) → cleared T m k < n
cleared_below T m n p h k = by (ℕ_discrete k m)
  where
    by : Dec (k ≡ m) → cleared T m k < n
    by (yes e) = rw (cleared_own T m k e) p
    by (no e) = rw (cleared_other T m k e) (h k)

sound_kept : (w i t : ℕ) (gs : List Gate) → i < w → t < 65536 → AllSound w gs → AllSound w (kept i t ++ gs)
unfolding AllSound
sound_kept w i zero gs h k s = s
sound_kept w i (suc t) gs h k s = ((h, k), s)

pub sound_remains : (w : ℕ) (T : ℕ → ℕ) (gs : List Gate) (ms : List ℕ) → ((m : ℕ) → T m < 65536) → AllSound w gs → AllSound w (remains T gs ms)
unfolding remains AllSound
sound_remains w T [] ms h s = tt
sound_remains w T (Cnot c t ∷ gs) ms h s = (s.0, sound_remains w T gs (numbers_after (Cnot c t) ms) h s.1)
sound_remains w T (Phase i a ∷ gs) ms h s =
    let m = get_or ms i 0 in
    sound_kept w i (T m) (remains (cleared T m) gs ms) s.0.0 (h m) (sound_remains w (cleared T m) gs ms (cleared_below T m 65536 (omega arith) h) s.1)
sound_remains w T (Inverter i ∷ gs) ms h s = (s.0, sound_remains w T gs (numbers_after (Inverter i) ms) h s.1)

-- and no inverter comes
admitted_kept : (v i t : ℕ) (gs : List Gate) → AllAdmitted v gs → AllAdmitted v (kept i t ++ gs)
unfolding AllAdmitted
admitted_kept v i zero gs s = s
admitted_kept v i (suc t) gs s = (tt, s)

pub admitted_remains : (v : ℕ) (T : ℕ → ℕ) (gs : List Gate) (ms : List ℕ) → AllAdmitted v gs → AllAdmitted v (remains T gs ms)
unfolding remains AllAdmitted
admitted_remains v T [] ms s = tt
admitted_remains v T (Cnot c t ∷ gs) ms s = (tt, admitted_remains v T gs (numbers_after (Cnot c t) ms) s.1)
admitted_remains v T (Phase i a ∷ gs) ms s =
    let m = get_or ms i 0 in
    admitted_kept v i (T m) (remains (cleared T m) gs ms) (admitted_remains v (cleared T m) gs ms s.1)
admitted_remains v T (Inverter i ∷ gs) ms s = (s.0, admitted_remains v T gs (numbers_after (Inverter i) ms) s.1)

-- never more gates
length-kept : (i t : ℕ) (gs : List Gate) → length (kept i t ++ gs) ≤ suc (length gs)
length-kept i zero gs = omega arith
length-kept i (suc t) gs = omega arith

pub length-remains : (T : ℕ → ℕ) (gs : List Gate) (ms : List ℕ) → length (remains T gs ms) ≤ length gs
unfolding remains
length-remains T [] ms = omega arith
length-remains T (Cnot c t ∷ gs) ms = let r = length-remains T gs (numbers_after (Cnot c t) ms) in omega arith
length-remains T (Phase i a ∷ gs) ms =
    let m = get_or ms i 0 in
    let r = length-remains (cleared T m) gs ms in
    omega (arith, length-kept i (T m) (remains (cleared T m) gs ms))
length-remains T (Inverter i ∷ gs) ms = let r = length-remains T gs (numbers_after (Inverter i) ms) in omega arith

-- what stays are the CNOTs and the inverters, and a gate for each total that is not 0
kept_counts : (i t n : ℕ) (gs : List Gate) (ms : List ℕ) → length gs ≡ n + sum_numbers (λ k a. staying a * 1) gs ms → length (kept i t ++ gs) ≡ n + sum_numbers (λ k a. staying a * 1) (kept i t ++ gs) ms
unfolding sum_numbers
kept_counts i zero n gs ms e = e
kept_counts i (suc t) n gs ms e = let one : staying (suc t) ≡ 1 = ap (λ b. indicator (not b)) (ne_eqb (suc t) 0 (λ p. omega arith)) in omega arith

pub counts_remain : (T : ℕ → ℕ) (gs : List Gate) (ms : List ℕ) → length (remains T gs ms) ≡ cnots gs + inverters gs + sum_numbers (λ k a. staying a * 1) (remains T gs ms) ms
unfolding remains cnots inverters sum_numbers
counts_remain T [] ms = refl
counts_remain T (Cnot c t ∷ gs) ms = let r = counts_remain T gs (numbers_after (Cnot c t) ms) in omega arith
counts_remain T (Phase i a ∷ gs) ms =
    let m = get_or ms i 0 in
    kept_counts i (T m) (cnots gs + inverters gs) (remains (cleared T m) gs ms) ms (counts_remain (cleared T m) gs ms)
counts_remain T (Inverter i ∷ gs) ms = let r = counts_remain T gs (numbers_after (Inverter i) ms) in omega arith

-- a second pass with the same totals changes nothing
pub remains_twice : (T : ℕ → ℕ) (gs : List Gate) (ms : List ℕ) → remains T (remains T gs ms) ms ≡ remains T gs ms
unfolding remains
remains_twice T [] ms = refl
remains_twice T (Cnot c t ∷ gs) ms = ap (Cnot c t ∷◌) (remains_twice T gs (numbers_after (Cnot c t) ms))
remains_twice T (Inverter i ∷ gs) ms = ap (Inverter i ∷◌) (remains_twice T gs (numbers_after (Inverter i) ms))
remains_twice T (Phase i a ∷ gs) ms = by (T m) refl (remains_twice (cleared T m) gs ms)
  where
    m : ℕ
    m = get_or ms i 0

    rest : List Gate
    rest = remains (cleared T m) gs ms

    by : (n : ℕ) → T m ≡ n → remains (cleared T m) rest ms ≡ rest → remains T (kept i (T m) ++ rest) ms ≡ kept i (T m) ++ rest
    by zero e ih =
        ap (λ (n : ℕ). remains T (kept i n ++ rest) ms) e ∙ ap (λ (S : ℕ → ℕ). remains S rest ms) (sym (cleared_none T m e)) ∙ ih ∙ ap (λ (n : ℕ). kept i n ++ rest) (sym e)
    by (suc n) e ih = ap (λ (n : ℕ). remains T (kept i n ++ rest) ms) e ∙ ap (kept i (T m) ++◌) ih

-- numbers that agree on the wires leave the same
pub remains_alike : (T : ℕ → ℕ) (w : ℕ) (gs : List Gate) (ms ns : List ℕ) → AllSound w gs → Alike w ms ns → remains T gs ms ≡ remains T gs ns
unfolding remains AllSound
remains_alike T w [] ms ns s k = refl
remains_alike T w (g ∷ gs) ms ns s k =
    ap (λ (x : Met). left (takes T x) g ++ remains (after T x) gs (numbers_after g ms)) (met_alike w g ms ns s.0 k)
    ∙ ap (left (takes T (met g ns)) g ++◌) (remains_alike (after T (met g ns)) w gs (numbers_after g ms) (numbers_after g ns) s.1 (alike_after w g ms ns s.0 k))

-- a group's gates afterwards: one with its total, where there were any
abbrev pub if_met : ℕ → ℕ → ℕ
if_met zero x = 0
if_met (suc n) x = x

module _ (h : ℕ → ℕ) (none : h 0 ≡ 0) (m : ℕ) where
  sum_kept : (i t : ℕ) (gs : List Gate) (ms : List ℕ)
      → sum_numbers (λ k a. h a * equal k m) (kept i t ++ gs) ms ≡ h t * equal (get_or ms i 0) m + sum_numbers (λ k a. h a * equal k m) gs ms
  unfolding sum_numbers
  sum_kept i zero gs ms = sym (ap (λ (n : ℕ). n * equal (get_or ms i 0) m + sum_numbers (λ k a. h a * equal k m) gs ms) none ∙ ap (◌+ sum_numbers (λ k a. h a * equal k m) gs ms) (zero-mul (equal (get_or ms i 0) m)) ∙ zero-add (sum_numbers (λ k a. h a * equal k m) gs ms))
  sum_kept i (suc t) gs ms = refl

  -- a gate that meets nothing
  unmet_remains : (T : ℕ → ℕ) (gs rest : List Gate) (ns : List ℕ) → sum_numbers (λ k a. h a * equal k m) rest ns ≡ if_met (sum_numbers (λ k a. equal k m) gs ns) (h (T m))
      → 0 + sum_numbers (λ k a. h a * equal k m) rest ns ≡ if_met (0 + sum_numbers (λ k a. equal k m) gs ns) (h (T m))
  unmet_remains T gs rest ns e =
      zero-add (sum_numbers (λ k a. h a * equal k m) rest ns) ∙ e ∙ ap (λ (k : ℕ). if_met k (h (T m))) (sym (zero-add (sum_numbers (λ k a. equal k m) gs ns)))

  pub group_remains : (T : ℕ → ℕ) (gs : List Gate) (ms : List ℕ)
      → sum_numbers (λ k a. h a * equal k m) (remains T gs ms) ms ≡ if_met (sum_numbers (λ k a. equal k m) gs ms) (h (T m))
  unfolding remains sum_numbers
  group_remains T [] ms = refl
  group_remains T (Cnot c t ∷ gs) ms = unmet_remains T gs (remains T gs ns) ns (group_remains T gs ns)
    where
      ns : List ℕ
      ns = numbers_after (Cnot c t) ms
  group_remains T (Inverter i ∷ gs) ms = unmet_remains T gs (remains T gs ns) ns (group_remains T gs ns)
    where
      ns : List ℕ
      ns = numbers_after (Inverter i) ms
  group_remains T (Phase i a ∷ gs) ms = sum_kept i (T μ) (remains (cleared T μ) gs ms) ms ∙ ap (h (T μ) * equal μ m +◌) (group_remains (cleared T μ) gs ms) ∙ by (ℕ_discrete m μ)
    where
      μ : ℕ
      μ = get_or ms i 0

      n : ℕ
      n = sum_numbers (λ k a. equal k m) gs ms

      off : (k : ℕ) → if_met k (h 0) ≡ 0
      off zero = refl
      off (suc k) = none

      by : Dec (m ≡ μ) → h (T μ) * equal μ m + if_met n (h (cleared T μ m)) ≡ if_met (equal μ m + n) (h (T m))
      by (yes e) =
          rw (equal_yes (sym e), cleared_own T μ m e, off n)
          (add-zero (h (T μ) * 1) ∙ mul-one (h (T μ)) ∙ ap (λ (k : ℕ). h (T k)) (sym e) ∙ (let d : suc n ≡ 1 + n = omega arith in ap (λ (k : ℕ). if_met k (h (T m))) d))
      by (no e) = rw (equal_no (λ p. e (sym p)), cleared_other T μ m e) (ap (◌+ if_met n (h (T m))) (mul-zero (h (T μ))) ∙ zero-add (if_met n (h (T m))) ∙ ap (λ (k : ℕ). if_met k (h (T m))) (sym (zero-add n)))
