-- The ideal's phase is the sum of its coefficients over subsets.
use Rattle.std.proofs.Common.{◌≡◌, ℕ, zero, suc, ◌+◌, ◌-◌, ◌*◌, ◌/◌, ◌%◌, ◌^◌, ◌<◌, sym, ap, ◌∙◌, ap₂, mod-lt, mod-eq_of_lt, mul_assoc, one-mul, zero-add, zero-mul, arith, pow_pos}
use native.Mathlib.Nat.{div-eq_of_lt}
use lib.Pow.{high}
use Rattle.numbers.specs.Bits.{bit, equal, subset}
use Rattle.numbers.specs.Sums.{sum}
use Rattle.numbers.specs.Working.{◌≈◌}
use Rattle.numbers.proofs.Sums.{ℕ-adds, sum_of-ext, sum_of-swap}
use Rattle.numbers.proofs.Subsets.{subset_even, subset_odd, subset_in_even, subset_in_odd, subset_none, subset_self, subset_above, subset_block, subset_low_high, equal_low, sum_scale, sum_pick, sum_zero, sum_bits, sum_halves}
use Rattle.numbers.proofs.Angles.{≈-sum}
use Rattle.numbers.proofs.Turns.{≈-of, ≈-mod, ≈_sym, ≈-mul, ≈_refl, ≈-turns, ◌≈∙◌}
use Rattle.numbers.proofs.Digits.{top_bit}
use Rattle.coefficients.specs.Coefficients.{ideal_coefficient}

-- the sets between x and y
abbrev between : ℕ → ℕ → ℕ → ℕ
between n x y = sum (2 ^ n) (λ t. subset x t * subset t y)

between_step : (n x y : ℕ) → between (suc n) x y ≡ (1 - x % 2 + y % 2) * between n (x / 2) (y / 2)
between_step n x y =
    sum_bits n (λ t. subset x t * subset t y)
    ∙ sum_of-ext 0 ◌+◌ (2 ^ n) (λ t. subset x (t * 2) * subset (t * 2) y + subset x (t * 2 + 1) * subset (t * 2 + 1) y)
    (λ t. (1 - x % 2 + y % 2) * (subset (x / 2) t * subset t (y / 2)))
    (λ t h. rw (subset_in_even x t, subset_even t y, subset_in_odd x t, subset_odd t y) (mix (subset (x / 2) t) (subset t (y / 2)) (1 - x % 2) (y % 2)))
    ∙ sym (sum_scale (1 - x % 2 + y % 2) (2 ^ n) (λ t. subset (x / 2) t * subset t (y / 2)))
  where
    mix : (p q a b : ℕ) → p * a * q + p * (q * b) ≡ (a + b) * (p * q)
    mix p q a b = omega arith

-- half a turn for each of them: evenly many unless x is y
half_turns : (n x y : ℕ) → x < 2 ^ n → y < 2 ^ n → 32768 * between n x y ≈ 32768 * equal x y
half_turns zero x y hx hy =
    let ex : x ≡ 0 = omega arith in
    let ey : y ≡ 0 = omega arith in
    ≈-of (rw (ex, ey, subset_none 0))
half_turns (suc n) x y hx hy =
    ≈-of (ap (32768 *◌) (between_step n x y) ∙ swap (1 - x % 2 + y % 2) (between n (x / 2) (y / 2)))
    ≈∙ ≈-mul (≈_refl {a = 1 - x % 2 + y % 2}) (half_turns n (x / 2) (y / 2) (omega arith) (omega arith))
    ≈∙ last (x % 2) (y % 2) (equal (x / 2) (y / 2)) (omega arith) (omega arith)
    ≈∙ ≈-of (ap (32768 *◌) (sym (equal_low x y)))
  where
    swap : (a b : ℕ) → 32768 * (a * b) ≡ a * (32768 * b)
    swap a b = omega arith

    last : (a b e : ℕ) → a < 2 → b < 2 → (1 - a + b) * (32768 * e) ≈ 32768 * (e * equal a b)
    last zero zero e ha hb = ≈-of (omega arith)
    last zero (suc zero) e ha hb = ≈-of (let z : (1 - 0 + 1) * (32768 * e) ≡ 0 + e * 65536 = omega arith in z) ≈∙ ≈-turns 0 e ≈∙ ≈-of (omega arith)
    last zero (suc (suc b)) e ha hb = absurd (omega arith)
    last (suc zero) zero e ha hb = ≈-of (omega arith)
    last (suc zero) (suc zero) e ha hb = ≈-of (omega arith)
    last (suc zero) (suc (suc b)) e ha hb = absurd (omega arith)
    last (suc (suc a)) b e ha hb = absurd (omega arith)

module _ (n : ℕ) (f : ℕ → ℕ) where
  pub below_mark : (s : ℕ) → s < 2 ^ n → ideal_coefficient n f s ≡ 0
  unfolding ideal_coefficient
  below_mark s h = ap (◌* (32768 * sum (2 ^ n) (λ x. f x * subset x s) % 65536)) (ap (◌% 2) (div-eq_of_lt h)) ∙ zero-mul (32768 * sum (2 ^ n) (λ x. f x * subset x s) % 65536)

  pub with_mark : (t : ℕ) → t < 2 ^ n → ideal_coefficient n f (2 ^ n + t) ≡ 32768 * sum (2 ^ n) (λ x. f x * subset x t) % 65536
  unfolding ideal_coefficient
  with_mark t h =
      ap₂ (λ (b m : ℕ). b * (32768 * m % 65536)) (ap (◌% 2) (ap (◌/ 2 ^ n) (let e : 2 ^ n + t ≡ 1 * 2 ^ n + t = omega arith in e) ∙ high 1 n h))
      (sum_of-ext 0 ◌+◌ (2 ^ n) (λ x. f x * subset x (2 ^ n + t)) (λ x. f x * subset x t) (λ x l. ap (f x *◌) (subset_low_high n x t l h)))
      ∙ one-mul (32768 * sum (2 ^ n) (λ x. f x * subset x t) % 65536)

  pub ideal_below : (s : ℕ) → ideal_coefficient n f s < 65536
  unfolding ideal_coefficient
  ideal_below s = small (bit s n) (32768 * sum (2 ^ n) (λ x. f x * subset x s)) (omega arith)
    where
      small : (b m : ℕ) → b < 2 → b * (m % 65536) < 65536
      small zero m h = omega arith
      small (suc zero) m h = omega arith
      small (suc (suc b)) m h = absurd (omega arith)

  -- over the sets t of the lower wires, within x
  inner : (x : ℕ) → x < 2 ^ n → sum (2 ^ n) (λ t. subset t x * (32768 * sum (2 ^ n) (λ z. f z * subset z t))) ≈ 32768 * f x
  inner x h =
      ≈-of (sum_of-ext 0 ◌+◌ (2 ^ n) (λ t. subset t x * (32768 * sum (2 ^ n) (λ z. f z * subset z t))) (λ t. sum (2 ^ n) (λ z. subset t x * 32768 * (f z * subset z t)))
      (λ t l. sym (mul_assoc (subset t x) 32768 (sum (2 ^ n) (λ z. f z * subset z t))) ∙ sum_scale (subset t x * 32768) (2 ^ n) (λ z. f z * subset z t))
      ∙ sum_of-swap 0 ◌+◌ ℕ-adds (2 ^ n) (2 ^ n) (λ t z. subset t x * 32768 * (f z * subset z t)))
      ≈∙ ≈-sum (2 ^ n) (λ z. sum (2 ^ n) (λ t. subset t x * 32768 * (f z * subset z t))) (λ z. 32768 * f z * equal z x)
      (λ z l. ≈-of (sum_of-ext 0 ◌+◌ (2 ^ n) (λ t. subset t x * 32768 * (f z * subset z t)) (λ t. f z * 32768 * (subset z t * subset t x)) (λ t k. turn (subset t x) (f z) (subset z t))
      ∙ sym (sum_scale (f z * 32768) (2 ^ n) (λ t. subset z t * subset t x)) ∙ mul_assoc (f z) 32768 (between n z x))
      ≈∙ ≈-mul (≈_refl {a = f z}) (half_turns n z x l h) ≈∙ ≈-of (turn' (f z) (equal z x)))
      ≈∙ ≈-of (sum_pick (2 ^ n) x (λ z. 32768 * f z) h)
    where
      turn : (p q r : ℕ) → p * 32768 * (q * r) ≡ q * 32768 * (r * p)
      turn p q r = omega arith

      turn' : (p q : ℕ) → p * (32768 * q) ≡ 32768 * p * q
      turn' p q = omega arith

  -- the coefficients are the ideal's polynomial
  pub ideal_polynomial : (s : ℕ) → s < 2 ^ suc n → 32768 * (f (s % 2 ^ n) * bit s n) ≈ sum (2 ^ suc n) (λ t. subset t s * ideal_coefficient n f t)
  ideal_polynomial s h =
      let x = s % 2 ^ n in
      let y = bit s n in
      let l : x < 2 ^ n = mod-lt s (pow_pos n) in
      ≈_sym
      (≈-of (sum_halves n (λ t. subset t s * ideal_coefficient n f t)
      ∙ ap₂ ◌+◌ (sum_zero (2 ^ n) (λ t. subset t s * ideal_coefficient n f t) (λ t k. ap (subset t s *◌) (below_mark t k) ∙ omega arith))
      (sum_of-ext 0 ◌+◌ (2 ^ n) (λ t. subset (2 ^ n + t) s * ideal_coefficient n f (2 ^ n + t)) (λ t. y * (subset t x * (32768 * sum (2 ^ n) (λ z. f z * subset z t) % 65536)))
      (λ t k. ap₂ ◌*◌ (upper t k) (with_mark t k) ∙ mul_assoc y (subset t x) (32768 * sum (2 ^ n) (λ z. f z * subset z t) % 65536))
      ∙ sym (sum_scale y (2 ^ n) (λ t. subset t x * (32768 * sum (2 ^ n) (λ z. f z * subset z t) % 65536))))
      ∙ zero-add (y * sum (2 ^ n) (λ t. subset t x * (32768 * sum (2 ^ n) (λ z. f z * subset z t) % 65536))))
      ≈∙ ≈-mul (≈_refl {a = y})
      (≈-sum (2 ^ n) (λ t. subset t x * (32768 * sum (2 ^ n) (λ z. f z * subset z t) % 65536)) (λ t. subset t x * (32768 * sum (2 ^ n) (λ z. f z * subset z t)))
      (λ t k. ≈-mul (≈_refl {a = subset t x}) (≈-mod (32768 * sum (2 ^ n) (λ z. f z * subset z t))))
      ≈∙ inner x l)
      ≈∙ ≈-of (turn y (f x)))
    where
      turn : (p q : ℕ) → p * (32768 * q) ≡ 32768 * (q * p)
      turn p q = omega arith

      one_bit : (b : ℕ) → b < 2 → subset 1 b ≡ b
      one_bit zero k = subset_above 1 0 (omega arith)
      one_bit (suc zero) k = subset_self 1
      one_bit (suc (suc b)) k = absurd (omega arith)

      upper : (t : ℕ) → t < 2 ^ n → subset (2 ^ n + t) s ≡ bit s n * subset t (s % 2 ^ n)
      upper t k =
          ap₂ subset (let e : 2 ^ n + t ≡ 1 * 2 ^ n + t = omega arith in e) (sym (mod-eq_of_lt h) ∙ top_bit s n)
          ∙ subset_block n 1 (bit s n) t (s % 2 ^ n) k (mod-lt s (pow_pos n)) ∙ ap (◌* subset t (s % 2 ^ n)) (one_bit (bit s n) (omega arith))
