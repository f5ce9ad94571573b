-- A row of two: its entries added and subtracted are its transform.
use Prim.Native.Nat.{ℕ, zero, suc, ◌^◌}
use native.Mathlib.Omega.{arith}
use mathlib.Core.Path.{◌≡◌, refl, sym, ap, ap₂, ◌∙◌}
use mathlib.Core.List.{List, [], ◌∷◌, ◌++◌}
use lib.ListN.{length}
use lib.Pow.{pow_pos}
use lib.IntN.{ℤ, ◌+ℤ◌, ◌-ℤ◌}
use Rattle.spectrum.specs.Working.{transformed, sum_and_difference, sums_and_differences}
use Rattle.spectrum.proofs.Halves.{halves, by_halves, transformed_one}

one_bit : (n : ℕ) → 2 ≡ 2 ^ n → 1 ≡ n
one_bit zero e = absurd (omega arith)
one_bit (suc zero) e = refl
one_bit (suc (suc n)) e = absurd (omega (arith, pow_pos n))

pair_transformed : (a b : ℤ) → transformed 1 (a ∷ b ∷ []) ≡ (a +ℤ b) ∷ (a -ℤ b) ∷ []
unfolding sums_and_differences halves
pair_transformed a b = sym (by_halves 0 (a ∷ b ∷ [])) ∙ ap (sums_and_differences 1) (ap₂ ◌++◌ (transformed_one (a ∷ []) refl) (transformed_one (b ∷ []) refl))

pub two_added : (v : List ℤ) → length v ≡ 2 → sums_and_differences 1 v ≡ sum_and_difference 0 1 v
unfolding sums_and_differences
two_added [] e = absurd (omega arith)
two_added (a ∷ []) e = absurd (omega arith)
two_added (a ∷ b ∷ []) e = refl
two_added (a ∷ b ∷ c ∷ v) e = absurd (omega arith)

pub two_transformed : (v : List ℤ) → length v ≡ 2 → (n : ℕ) → length v ≡ 2 ^ n → sum_and_difference 0 1 v ≡ transformed n v
two_transformed [] e n h = absurd (omega arith)
two_transformed (a ∷ []) e n h = absurd (omega arith)
two_transformed (a ∷ b ∷ []) e n h = sym (pair_transformed a b) ∙ ap (λ (k : ℕ). transformed k (a ∷ b ∷ [])) (one_bit n h)
two_transformed (a ∷ b ∷ c ∷ v) e n h = absurd (omega arith)
