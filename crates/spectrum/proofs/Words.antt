-- Numbers that 32 bits hold: what is written is what is read.
use Prim.Native.Nat.{ℕ, ◌≤◌}
use native.Mathlib.Omega.{arith}
use mathlib.Core.Path.{◌≡◌, ap, ◌∙◌}
use lib.Signed.{mag}
use lib.IntN.{ℤ, pos, negsuc, nat_abs}
use mir.Syntax.{w32}
use mir.Val.{SFits, to_z, of_z}
use mir.Facts.{to_z-of_z}
use Rattle.numbers.specs.Turn.{flip}
use Rattle.numbers.proofs.Integers.{nat_abs-flip}

mag_le : (z : ℤ) → mag z ≤ nat_abs z
mag_le (pos n) = omega arith
mag_le (negsuc n) = omega arith

pub fits32 : (z : ℤ) → nat_abs z ≤ 2147483647 → SFits w32 z
fits32 z h = record { sfits = omega (arith, mag_le z) }

pub stays : (z : ℤ) → nat_abs z ≤ 2147483647 → to_z w32 (of_z w32 z) ≡ z
stays z h = to_z-of_z (fits32 z h)

-- +1 and -1 do
pub sign_stays : (m : ℕ) (z : ℤ) → z ≡ flip m (pos 1) → to_z w32 (of_z w32 z) ≡ flip m (pos 1)
sign_stays m z e = ap (λ (y : ℤ). to_z w32 (of_z w32 y)) e ∙ stays (flip m (pos 1)) (omega (arith, nat_abs-flip m (pos 1)))
