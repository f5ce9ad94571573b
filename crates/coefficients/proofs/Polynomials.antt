-- A run's phase at x is the wrapped sum of the coefficients over the subsets of x.
use Rattle.std.proofs.Common.{◌≡◌, ℕ, zero, suc, ◌+◌, ◌-◌, ◌*◌, ◌/◌, ◌%◌, ◌^◌, ◌<◌, List, sym, refl, ap, ◌∙◌, ap₂, mul_assoc, mul_comm, one-mul, mul-zero, mul-one, arith, pow_pos}
use lib.Arith.{bin_ind}
use lib.Count.{ones, ones_in, ones_step}
use Rattle.numbers.specs.Bits.{dot, equal, subset}
use Rattle.numbers.specs.Sums.{sum}
use Rattle.numbers.specs.Working.{◌≈◌}
use Rattle.numbers.proofs.Sums.{ℕ-adds, sum_of-ext, sum_of-plus}
use Rattle.numbers.proofs.Subsets.{subset_none, sum_scale, sum_pick}
use Rattle.numbers.proofs.Parity.{dot_below, equal_no}
use Rattle.numbers.proofs.Angles.{≈-sum}
use Rattle.numbers.proofs.Turns.{≈-of, ≈-mod, ≈_sym, ≈-add, ≈-mul, ≈-turns, ≈_refl, ◌≈∙◌}
use Rattle.circuit.specs.declared.Gate.{Gate}
use Rattle.circuit.specs.Working.{AllSound}
use Rattle.running.specs.Run.{total_from, phase_from}
use Rattle.running.specs.Working.{own_numbers, sum_numbers, start_of}
use Rattle.running.proofs.Masks.{own_below, dot_start, total_parity}
use Rattle.running.proofs.Held.{sum_number}
use Rattle.running.proofs.Meetings.{sum_numbers-≈, sum_numbers-plus, sum_numbers-swap}
use Rattle.coefficients.specs.Coefficients.{sign, coefficient}
use Rattle.coefficients.specs.Working.{weight_of}
use Rattle.coefficients.proofs.Parities.{parity}

-- only the empty set has no wire
ones_some : (n : ℕ) → 0 < n → 0 < ones n
ones_some = bin_ind (λ n. 0 < n → 0 < ones n) (λ h. absurd (omega arith)) step
  where
    step : (n : ℕ) → (0 < n / 2 → 0 < ones (n / 2)) → 0 < n → 0 < ones n
    step n ih h = by (n / 2) refl
      where
        by : (k : ℕ) → n / 2 ≡ k → 0 < ones n
        by zero e = omega (arith, ones_step n)
        by (suc k) e = omega (arith, ones_step n, ih (omega arith))

-- by numbers: the angles on the masks that contain s, minus where there is a flip; and those that have one
abbrev pub sum_at : ℕ → List Gate → ℕ → ℕ
sum_at w gs s = sum_numbers (λ n a. a * (subset s (n / 2) * sign (n % 2))) gs (own_numbers w)

abbrev pub constant_of : ℕ → List Gate → ℕ
constant_of w gs = sum_numbers (λ n a. a * (n % 2)) gs (own_numbers w)

-- the paper's formulas, with the empty set's weight 0
pub coefficient_constant : (w : ℕ) (gs : List Gate) → coefficient w gs 0 ≡ constant_of w gs % 65536
unfolding coefficient
coefficient_constant w gs =
    ap (◌% 65536) (sum_number w gs (λ h a. h.flip * a) ∙ ap (λ (f : ℕ → ℕ → ℕ). sum_numbers f gs (own_numbers w)) (λ i n a. mul_comm (n % 2) a i))

pub coefficient_weight : (w : ℕ) (gs : List Gate) (s : ℕ) → coefficient w gs (suc s) ≡ weight_of (ones (suc s)) * sum_at w gs (suc s) % 65536
unfolding coefficient
coefficient_weight w gs s =
    ap (λ (n : ℕ). 65534 ^ (ones (suc s) - 1) * n % 65536)
    (sum_number w gs (λ h a. subset (suc s) h.mask * (sign h.flip * a)) ∙ ap (λ (f : ℕ → ℕ → ℕ). sum_numbers f gs (own_numbers w)) (λ i n a. turn (subset (suc s) (n / 2)) (sign (n % 2)) a i))
    ∙ by (ones (suc s)) (ones_some (suc s) (omega arith))
  where
    turn : (p q a : ℕ) → p * (q * a) ≡ a * (p * q)
    turn p q a = omega arith

    by : (k : ℕ) → 0 < k → 65534 ^ (k - 1) * sum_at w gs (suc s) % 65536 ≡ weight_of k * sum_at w gs (suc s) % 65536
    by zero h = absurd (omega arith)
    by (suc k) h = ap (λ (n : ℕ). 65534 ^ n * sum_at w gs (suc s) % 65536) (let e : suc k - 1 ≡ k = omega arith in e)

pub coefficient_below : (w : ℕ) (gs : List Gate) (s : ℕ) → coefficient w gs s < 65536
coefficient_below w gs zero = omega (arith, coefficient_constant w gs)
coefficient_below w gs (suc s) = omega (arith, coefficient_weight w gs s)

-- a bit that is turned where the flip is 1
turned_bit : (a f d : ℕ) → f < 2 → d < 2 → a * ((f + d) % 2) ≈ a * f + a * sign f * d
turned_bit a zero zero h k = ≈-of (let e : a * 0 ≡ a * 0 + a * 1 * 0 = omega arith in e)
turned_bit a zero (suc zero) h k = ≈-of (let e : a * 1 ≡ a * 0 + a * 1 * 1 = omega arith in e)
turned_bit a zero (suc (suc d)) h k = absurd (omega arith)
turned_bit a (suc zero) zero h k = ≈-of (let e : a * 1 ≡ a * 1 + a * 65535 * 0 = omega arith in e)
turned_bit a (suc zero) (suc zero) h k = ≈-of (mul-zero a) ≈∙ ≈_sym (≈-turns 0 a) ≈∙ ≈-of (let e : 0 + a * 65536 ≡ a * 1 + a * 65535 * 1 = omega arith in e)
turned_bit a (suc zero) (suc (suc d)) h k = absurd (omega arith)
turned_bit a (suc (suc f)) d h k = absurd (omega arith)

-- 02 §12, "A phase of a on a flipped mask adds a constant a and minus a on the mask.": what it adds at start x
pub flipped_mask : (a m x : ℕ) → a * ((1 + dot m x) % 2) ≈ a + 65535 * a * dot m x
flipped_mask a m x = turned_bit a 1 (dot m x) (omega arith) (dot_below m x) ≈∙ ≈-of (let e : a * 1 + a * 65535 * dot m x ≡ a + 65535 * a * dot m x = ap₂ ◌+◌ (mul-one a) (ap (◌* dot m x) (mul_comm a 65535)) in e)

module _ (w : ℕ) (gs : List Gate) (x : ℕ) (k : x < 2 ^ w) where
  abbrev factor : ℕ → ℕ
  factor s = subset s x * weight_of (ones s)

  -- one phase gate: its constant, and its part of each set
  term : (n a : ℕ) → n < 2 ^ suc w → a * dot n (start_of x) ≈ a * (n % 2) + sum (2 ^ w) (λ s. factor s * (a * (subset s (n / 2) * sign (n % 2))))
  term n a l =
      ≈-of (ap (a *◌) (dot_start n x)) ≈∙ turned_bit a (n % 2) (dot (n / 2) x) (omega arith) (dot_below (n / 2) x)
      ≈∙ ≈-add (≈_refl {a = a * (n % 2)})
      (≈-mul (≈_refl {a = a * sign (n % 2)}) (≈_sym (parity w (n / 2) x (omega arith) k))
      ≈∙ ≈-of (sum_scale (a * sign (n % 2)) (2 ^ w) (λ s. subset s x * (weight_of (ones s) * subset s (n / 2)))
      ∙ sum_of-ext 0 ◌+◌ (2 ^ w) (λ s. a * sign (n % 2) * (subset s x * (weight_of (ones s) * subset s (n / 2)))) (λ s. factor s * (a * (subset s (n / 2) * sign (n % 2))))
      (λ s h. order a (sign (n % 2)) (subset s x) (weight_of (ones s)) (subset s (n / 2)))))
    where
      order : (a g p q r : ℕ) → a * g * (p * (q * r)) ≡ p * q * (a * (r * g))
      order a g p q r = omega arith

  -- one set: the constant at the empty set, else its weighed sum
  one_set : (s : ℕ) → constant_of w gs * equal s 0 + factor s * sum_at w gs s ≈ subset s x * coefficient w gs s
  unfolding ones ones_in
  one_set zero =
      ≈-of (let e : constant_of w gs * 1 + subset 0 x * 0 * sum_at w gs 0 ≡ constant_of w gs = omega arith in e) ≈∙ ≈_sym (≈-mod (constant_of w gs))
      ≈∙ ≈-of (sym (coefficient_constant w gs) ∙ sym (ap (◌* coefficient w gs 0) (subset_none x) ∙ one-mul (coefficient w gs 0)))
  one_set (suc s) =
      ≈-of (ap (λ (z : ℕ). constant_of w gs * z + factor (suc s) * sum_at w gs (suc s)) (equal_no {a = suc s} {b = 0} (λ e. omega arith)))
      ≈∙ ≈-of (let e : constant_of w gs * 0 + factor (suc s) * sum_at w gs (suc s) ≡ factor (suc s) * sum_at w gs (suc s) = omega arith in e)
      ≈∙ ≈-of (mul_assoc (subset (suc s) x) (weight_of (ones (suc s))) (sum_at w gs (suc s)))
      ≈∙ ≈-mul (≈_refl {a = subset (suc s) x}) (≈_sym (≈-of (coefficient_weight w gs s) ≈∙ ≈-mod (weight_of (ones (suc s)) * sum_at w gs (suc s))))

  -- a total as a polynomial of the starting bits, the constant among its terms
  total_polynomial : AllSound w gs → total_from gs x ≈ sum (2 ^ w) (λ s. subset s x * coefficient w gs s)
  total_polynomial h =
      let part : ℕ → ℕ → ℕ = λ n a. sum (2 ^ w) (λ s. factor s * (a * (subset s (n / 2) * sign (n % 2)))) in
      ≈-of (total_parity w gs h x)
      ≈∙ sum_numbers-≈ w (λ n a. a * dot n (start_of x)) (λ n a. a * (n % 2) + part n a) term gs (own_numbers w) (own_below w)
      ≈∙ ≈-of (sum_numbers-plus (λ n a. a * (n % 2)) part gs (own_numbers w)
      ∙ ap₂ ◌+◌ (sym (sum_pick (2 ^ w) 0 (λ s. constant_of w gs) (pow_pos w))) (sym (sum_numbers-swap (2 ^ w) factor (λ s n a. a * (subset s (n / 2) * sign (n % 2))) gs (own_numbers w)))
      ∙ sym (sum_of-plus 0 ◌+◌ ℕ-adds (2 ^ w) (λ s. constant_of w gs * equal s 0) (λ s. factor s * sum_at w gs s)))
      ≈∙ ≈-sum (2 ^ w) (λ s. constant_of w gs * equal s 0 + factor s * sum_at w gs s) (λ s. subset s x * coefficient w gs s) (λ s l. one_set s)

-- a run's phase at x is the sum of the coefficients over the subsets of x, the empty set among them
pub phase_polynomial : (w : ℕ) (gs : List Gate) (x : ℕ) → AllSound w gs → x < 2 ^ w → phase_from gs x ≈ sum (2 ^ w) (λ s. subset s x * coefficient w gs s)
phase_polynomial w gs x h k = ≈-mod (total_from gs x) ≈∙ total_polynomial w gs x k h
