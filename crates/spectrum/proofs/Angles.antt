-- theta_k: a negative coefficient keeps its sign.
use Prim.Native.Nat.{ℕ, ◌+◌, ◌-◌, ◌*◌, ◌^◌, ◌<◌, ◌≤◌}
use native.Mathlib.Nat.{le_trans, mul-le-mul_right, le_of_eq, mul-pos, mul-one, add-mul, zero-mul, mod-eq_of_lt}
use native.Mathlib.Omega.{arith}
use mathlib.Core.Path.{◌≡◌, sym, ap, ◌∙◌}
use lib.Pow.{pow_pos, pow-add}
use lib.IntN.{ℤ, pos, neg_ℤ, nat_abs, ◌+ℤ◌, ◌*ℤ◌}
use Rattle.numbers.specs.Working.{◌≈◌}
use Rattle.numbers.specs.Turn.{wrap}
use Rattle.numbers.proofs.Turns.{◌≈∙◌, ≈-add, ≈-of, ≈-scale, ≈_sym, wrap_add, wrap_mul, wrap_neg, wrap_below}
use Rattle.numbers.proofs.Integers.{nat_abs-flip}
use Rattle.spectrum.specs.Spectrum.{coefficient, angle}
use Rattle.spectrum.proofs.Bounds.{hadamard_size}
use Rattle.spectrum.proofs.Spectra.{sign, hadamard_sign}

-- the angle of a sum is the sum of the angles
pub angle_add : (n : ℕ) (y z : ℤ) → angle n (y +ℤ z) ≈ angle n y + angle n z
angle_add n y z =
    let c = 2 ^ (14 - n) in
    wrap_mul (y +ℤ z) c ≈∙ ≈-scale c (wrap_add y z) ≈∙ ≈-of (add-mul (wrap y) (wrap z) c) ≈∙ ≈-add (≈_sym (wrap_mul y c)) (≈_sym (wrap_mul z c))

-- opposite numbers make opposite angles
pub angle_opposite : (n : ℕ) (z : ℤ) → angle n (neg_ℤ z) + angle n z ≈ 0
angle_opposite n z =
    let c = 2 ^ (14 - n) in
    ≈-add (wrap_mul (neg_ℤ z) c) (wrap_mul z c) ≈∙ ≈-of (sym (add-mul (wrap (neg_ℤ z)) (wrap z) c)) ≈∙ ≈-scale c (wrap_neg z) ≈∙ ≈-of (zero-mul c)

-- |s_k| is at most 2^n, so times 2^(14-n) it is at most a quarter turn
pub coefficient_size : (n : ℕ) (f : ℕ → ℕ) (k : ℕ) → nat_abs (coefficient n f k) ≤ 2 ^ n
coefficient_size n f k =
    le_trans (le_of_eq (ap nat_abs (sym (hadamard_sign n f k))))
    (le_trans (hadamard_size n 1 (sign f) k (λ x. le_of_eq (nat_abs-flip (f x) (pos 1)))) (le_of_eq (mul-one (2 ^ n))))

module _ (n m : ℕ) (small : n ≤ 14) (h : m ≤ 2 ^ n) where
  quarter : m * 2 ^ (14 - n) ≤ 16384
  quarter =
      le_trans (mul-le-mul_right (2 ^ (14 - n)) h)
      (le_of_eq (sym (pow-add 2 n (14 - n)) ∙ ap (λ (k : ℕ). 2 ^ k) (let e : n + (14 - n) ≡ 14 = omega arith in e)))

  pub angle_positive : angle n (pos m) ≡ m * 2 ^ (14 - n)
  angle_positive = mod-eq_of_lt (omega (arith, quarter))

  -- "giving a negative coefficient the angle of its size" is a shortcut that sinks a bid: its angle is a turn less that
  pub angle_negative : 0 < m → angle n (neg_ℤ (pos m)) ≡ 65536 - m * 2 ^ (14 - n)
  angle_negative p =
      let o = (angle_opposite n (pos m)).alike in
      omega (arith, o, quarter, angle_positive, mul-pos p (pow_pos (14 - n)), wrap_below (neg_ℤ (pos m) *ℤ pos (2 ^ (14 - n))))
