-- A coefficient as an angle: its product with the scale fits 32 bits, and is wrapped to its angle.
use Rattle.std.proofs.Common.{◌≡◌, ℕ, suc, ◌-◌, ◌*◌, ◌%◌, ◌^◌, ◌≤◌, ℤ, pos, negsuc, ◌*ℤ◌, nat_abs, refl, ap, ◌∙◌, ap₂, arith, pow_mono, w32, SFits, to_z, of_z}
use native.Mathlib.Nat.{mul-le-mul_right}
use mir.Facts.{to_z_pos}
use Rattle.numbers.specs.Turn.{wrap}
use Rattle.numbers.proofs.Integers.{nat_abs-neg}
use Rattle.numbers.proofs.Powers.{power_fits}
use Rattle.spectrum.specs.Spectrum.{angle}
use Rattle.spectrum.proofs.Words.{fits32, stays}

nat_abs-times : (z : ℤ) (c : ℕ) → nat_abs (z *ℤ pos c) ≡ nat_abs z * c
nat_abs-times (pos m) c = refl
nat_abs-times (negsuc m) c = nat_abs-neg (pos (suc m * c))

module _ (n : ℕ) (z : ℤ) (scale : ℕ) (few : n ≤ 8) (small : nat_abs z ≤ 256) (e : scale ≡ 2 ^ (14 - n) % 2 ^ 64) where
  scale_is : scale ≡ 2 ^ (14 - n)
  scale_is = e ∙ power_fits (omega arith)

  scale_most : 2 ^ (14 - n) ≤ 16384
  scale_most = pow_mono {i = 14 - n} {j = 14} (omega arith)

  factors : to_z w32 (of_z w32 z) *ℤ to_z w32 scale ≡ z *ℤ pos (2 ^ (14 - n))
  factors = ap₂ ◌*ℤ◌ (stays z (omega arith)) (to_z_pos w32 (omega (arith, scale_is, scale_most)) ∙ ap pos scale_is)

  product_small : nat_abs (z *ℤ pos (2 ^ (14 - n))) ≤ 2147483647
  product_small = omega (arith, nat_abs-times z (2 ^ (14 - n)), mul-le-mul_right (2 ^ (14 - n)) small, scale_most)

  pub product_fits : SFits w32 (to_z w32 (of_z w32 z) *ℤ to_z w32 scale)
  product_fits = rw factors (fits32 (z *ℤ pos (2 ^ (14 - n))) product_small)

  pub angle_is : (r : ℕ) → r ≡ wrap (to_z w32 (of_z w32 (to_z w32 (of_z w32 z) *ℤ to_z w32 scale))) → r ≡ angle n z
  angle_is r p = p ∙ ap (λ (y : ℤ). wrap (to_z w32 (of_z w32 y))) factors ∙ ap wrap (stays (z *ℤ pos (2 ^ (14 - n))) product_small)
