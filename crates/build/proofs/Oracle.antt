-- The built circuit is its table's oracle: every state ends where it starts, with phase 32,768 f(x) y, by the spectrum's inversion.
use Rattle.std.proofs.Common.{◌≡◌, ℕ, zero, suc, ◌+◌, ◌-◌, ◌*◌, ◌%◌, ◌^◌, ◌<◌, ◌≤◌, get_or, ℤ, pos, ◌*ℤ◌, neg_ℤ, sym, ap, ◌∙◌, subst, subst₂, le_refl, add-zero, add-mul, add_comm, mul-zero, zero-add, zero-mul, mul-one, arith, pow_pos, pow-add}
use lib.Arith.{digits_lt}
use Rattle.numbers.specs.Bits.{dot}
use Rattle.numbers.specs.Sums.{sum, sumℤ}
use Rattle.numbers.specs.Working.{◌≈◌}
use Rattle.numbers.specs.Turn.{flip}
use Rattle.numbers.proofs.Sums.{ℕ-adds, sum_of-plus}
use Rattle.numbers.proofs.Lists.{get_or-list}
use Rattle.numbers.proofs.Turns.{◌≈∙◌, ≈-of, ≈_sym, ≈-add, ≈_refl, ≈-cancel, ≈-scale, ≈-turns, difference_adds}
use Rattle.numbers.proofs.Angles.{≈-sum_none}
use Rattle.numbers.proofs.Parity.{dot_below, dot_none, dot_low_high, dot_high_low, dot_high_high}
use Rattle.numbers.proofs.Wires.{same_bits, dot_power}
use Rattle.spectrum.specs.Spectrum.{coefficient, angle, theta}
use Rattle.spectrum.proofs.Inversion.{spectrum_inverts}
use Rattle.spectrum.proofs.Angles.{angle_add, angle_opposite, angle_positive, angle_negative}
use Rattle.running.specs.Run.{end_from, phase_from, total_from}
use Rattle.running.proofs.Runs.{end_below}
use Rattle.running.proofs.Masks.{plain_wire, plain_total}
use Rattle.build.specs.Construction.{minus, construction}
use Rattle.build.proofs.Circuits.{theta_below, sound_construction, admitted_construction, construction_masks, construction_sum}

-- every starting state ends where it starts
pub construction_ends : (n : ℕ) (f : ℕ → ℕ) (s : ℕ) → s < 2 ^ (n + 1) → end_from (construction n f) s ≡ s
construction_ends n f s h =
    same_bits (n + 1) (end_from (construction n f) s) s (end_below (n + 1) (construction n f) s (sound_construction n f) h) h
    (λ i l. plain_wire (n + 1) (construction n f) (sound_construction n f) (admitted_construction 1 n f) s i l ∙ ap (λ ms. dot (get_or ms i 0) s) (construction_masks n f)
    ∙ ap (λ (m : ℕ). dot m s) (get_or-list (n + 1) (λ j. 2 ^ j) i 0 l) ∙ dot_power i s)

minus_opposite : (a : ℕ) → a < 65536 → a + minus a ≈ 0
minus_opposite a h = ≈-of (add_comm a (minus a)) ≈∙ difference_adds 0 a h

-- the angle of a sum of integers
angle_sum : (n m : ℕ) (g : ℕ → ℤ) → angle n (sumℤ m g) ≈ sum m (λ k. angle n (g k))
angle_sum n zero g = ≈-of (ap (◌% 65536) (zero-mul (2 ^ (14 - n))))
angle_sum n (suc m) g = angle_add n (sumℤ m g) (g m) ≈∙ ≈-add (angle_sum n m g) ≈_refl

module _ (n : ℕ) (f : ℕ → ℕ) (x : ℕ) (small : n ≤ 14) (hx : x < 2 ^ n) where
  θ : ℕ → ℕ
  θ = theta n f

  -- the total from a start s, by parities
  total : (s : ℕ) → total_from (construction n f) s ≡ 16384 * dot (2 ^ n) s + (sum (2 ^ n) (λ k. θ k * dot k s) + sum (2 ^ n) (λ v. minus (θ v) * dot (2 ^ n + v) s))
  unfolding θ
  total s = plain_total (n + 1) (construction n f) (sound_construction n f) (admitted_construction 1 n f) s ∙ construction_sum n f (λ m a. a * dot m s) (ap (theta n f 0 *◌) (dot_none s) ∙ mul-zero (theta n f 0))

  two_to_n : dot (2 ^ n) x ≡ 0
  two_to_n = ap (λ (m : ℕ). dot m x) (sym (add-zero (2 ^ n))) ∙ dot_high_low n 0 x (pow_pos n) hx ∙ dot_none x

  -- the target at 0: each theta meets its opposite
  pub phase_low : total_from (construction n f) x ≈ 0
  unfolding θ
  phase_low =
      ≈-of (total x) ≈∙ ≈-of (ap (λ (d : ℕ). 16384 * d + (sum (2 ^ n) (λ k. θ k * dot k x) + sum (2 ^ n) (λ v. minus (θ v) * dot (2 ^ n + v) x))) two_to_n ∙ zero-add (sum (2 ^ n) (λ k. θ k * dot k x) + sum (2 ^ n) (λ v. minus (θ v) * dot (2 ^ n + v) x)))
      ≈∙ ≈-of (sym (sum_of-plus 0 ◌+◌ ℕ-adds (2 ^ n) (λ k. θ k * dot k x) (λ v. minus (θ v) * dot (2 ^ n + v) x)))
      ≈∙ ≈-sum_none (2 ^ n) (λ k. θ k * dot k x + minus (θ k) * dot (2 ^ n + k) x)
      (λ k l. ≈-of (ap (λ (d : ℕ). θ k * dot k x + minus (θ k) * d) (dot_high_low n k x l hx) ∙ sym (add-mul (θ k) (minus (θ k)) (dot k x)))
      ≈∙ ≈-scale (dot k x) (minus_opposite (θ k) (theta_below n f k)) ≈∙ ≈-of (zero-mul (dot k x)))

  -- one k, with the target at 1: theta or minus theta, and the coefficient's angle with its sign
  cancels : (k : ℕ) → k < 2 ^ n → θ k * dot k (2 ^ n + x) + minus (θ k) * dot (2 ^ n + k) (2 ^ n + x) + angle n (flip (dot k x) (coefficient n f k)) ≈ 0
  unfolding θ
  cancels k l = subst₂ (λ (d e : ℕ). θ k * d + minus (θ k) * e + angle n (flip (dot k x) (coefficient n f k)) ≈ 0) (sym (dot_low_high n k x l hx)) (sym (dot_high_high n k x l hx)) (by (dot k x) (dot_below k x))
    where
      by : (d : ℕ) → d < 2 → θ k * d + minus (θ k) * ((1 + d) % 2) + angle n (flip d (coefficient n f k)) ≈ 0
      by zero h = ≈-of (let e : θ k * 0 + minus (θ k) * 1 + θ k ≡ θ k + minus (θ k) = omega arith in e) ≈∙ minus_opposite (θ k) (theta_below n f k)
      by (suc zero) h = ≈-of (let e : θ k * 1 + minus (θ k) * 0 + angle n (neg_ℤ (coefficient n f k)) ≡ angle n (neg_ℤ (coefficient n f k)) + θ k = omega arith in e) ≈∙ angle_opposite n (coefficient n f k)
      by (suc (suc d)) h = absurd (omega arith)

  two_to_n' : dot (2 ^ n) (2 ^ n + x) ≡ 1
  two_to_n' = ap (λ (m : ℕ). dot m (2 ^ n + x)) (sym (add-zero (2 ^ n))) ∙ dot_high_high n 0 x (pow_pos n) hx ∙ ap (λ (m : ℕ). (1 + m) % 2) (dot_none x)

  signed : ℕ
  signed = angle n (pos (2 ^ n) *ℤ flip (f x) (pos 1))

  -- with the target at 1, what is left of the quarter turn is what the signed coefficients take
  phase_high : total_from (construction n f) (2 ^ n + x) + signed ≈ 16384
  unfolding θ signed
  phase_high =
      let A = sum (2 ^ n) (λ k. θ k * dot k (2 ^ n + x)) in
      let B = sum (2 ^ n) (λ v. minus (θ v) * dot (2 ^ n + v) (2 ^ n + x)) in
      let E = sum (2 ^ n) (λ k. angle n (flip (dot k x) (coefficient n f k))) in
      ≈-add (≈-of (total (2 ^ n + x) ∙ ap (λ (d : ℕ). 16384 * d + (A + B)) two_to_n'))
      (≈-of (ap (angle n) (sym (spectrum_inverts n f x hx))) ≈∙ angle_sum n (2 ^ n) (λ k. flip (dot k x) (coefficient n f k)))
      ≈∙ ≈-of (let e : 16384 * 1 + (A + B) + E ≡ (A + B) + E + 16384 = omega arith in e)
      ≈∙ ≈-add
      (≈-of (ap (◌+ E) (sym (sum_of-plus 0 ◌+◌ ℕ-adds (2 ^ n) (λ k. θ k * dot k (2 ^ n + x)) (λ v. minus (θ v) * dot (2 ^ n + v) (2 ^ n + x))))
      ∙ sym (sum_of-plus 0 ◌+◌ ℕ-adds (2 ^ n) (λ k. θ k * dot k (2 ^ n + x) + minus (θ k) * dot (2 ^ n + k) (2 ^ n + x)) (λ k. angle n (flip (dot k x) (coefficient n f k)))))
      ≈∙ ≈-sum_none (2 ^ n) (λ k. θ k * dot k (2 ^ n + x) + minus (θ k) * dot (2 ^ n + k) (2 ^ n + x) + angle n (flip (dot k x) (coefficient n f k))) cancels)
      (≈_refl {a = 16384})

  quarter : 2 ^ n * 2 ^ (14 - n) ≡ 16384
  quarter = sym (pow-add 2 n (14 - n)) ∙ ap (λ (k : ℕ). 2 ^ k) (let e : n + (14 - n) ≡ 14 = omega arith in e)

  signed_is : (b : ℕ) → b < 2 → angle n (pos (2 ^ n) *ℤ flip b (pos 1)) ≡ 16384 + b * 32768
  signed_is zero h = ap (λ (m : ℕ). angle n (pos m)) (mul-one (2 ^ n)) ∙ angle_positive n (2 ^ n) (omega arith) (le_refl (2 ^ n)) ∙ quarter
  signed_is (suc zero) h = ap (λ (m : ℕ). angle n (neg_ℤ (pos m))) (mul-one (2 ^ n)) ∙ angle_negative n (2 ^ n) (omega arith) (le_refl (2 ^ n)) (pow_pos n) ∙ ap (65536 -◌) quarter
  signed_is (suc (suc b)) h = absurd (omega arith)

  pub oracle_high : f x < 2 → total_from (construction n f) (2 ^ n + x) ≈ 32768 * f x
  unfolding signed
  oracle_high h =
      ≈-cancel (16384 + f x * 32768)
      (≈-add ≈_refl (≈-of (sym (signed_is (f x) h))) ≈∙ phase_high ≈∙ ≈_sym (≈-turns 16384 (f x)) ≈∙ ≈-of (let e : 16384 + f x * 65536 ≡ 32768 * f x + (16384 + f x * 32768) = omega arith in e))

-- from state x + y 2^n the phase is 32,768 f(x) y, modulo a turn
pub oracle_phase : (n : ℕ) (f : ℕ → ℕ) (x y : ℕ) → n ≤ 14 → x < 2 ^ n → y < 2 → f x < 2 → total_from (construction n f) (x + y * 2 ^ n) ≈ 32768 * f x * y
oracle_phase n f x zero small hx hy hf = subst (λ (s : ℕ). total_from (construction n f) s ≈ 32768 * f x * 0) (let e : x ≡ x + 0 * 2 ^ n = omega arith in e) (phase_low n f x small hx ≈∙ ≈-of (sym (mul-zero (32768 * f x))))
oracle_phase n f x (suc zero) small hx hy hf = subst (λ (s : ℕ). total_from (construction n f) s ≈ 32768 * f x * 1) (let e : 2 ^ n + x ≡ x + 1 * 2 ^ n = omega arith in e) (oracle_high n f x small hx hf ≈∙ ≈-of (sym (mul-one (32768 * f x))))
oracle_phase n f x (suc (suc y)) small hx hy hf = absurd (omega arith)

start_below : (n x y : ℕ) → x < 2 ^ n → y < 2 → x + y * 2 ^ n < 2 ^ (n + 1)
start_below n x y hx hy = omega (arith, digits_lt {q = y} {m = 2} {r = x} {c = 2 ^ n} hy hx, pow-add 2 n 1)

-- a run from x + y 2^n, for every n at which a quarter turn can be split into 2^n angles
pub construction_run : (n : ℕ) (f : ℕ → ℕ) (x y : ℕ) → n ≤ 14 → x < 2 ^ n → y < 2 → f x < 2
    → (end_from (construction n f) (x + y * 2 ^ n) ≡ x + y * 2 ^ n) × (phase_from (construction n f) (x + y * 2 ^ n) ≡ 32768 * f x * y % 65536)
construction_run n f x y few hx hy hf = (construction_ends n f (x + y * 2 ^ n) (start_below n x y hx hy), (oracle_phase n f x y few hx hy hf).alike)
