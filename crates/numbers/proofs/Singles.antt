-- Sums that are at most another term by term.
use Rattle.std.proofs.Common.{ℕ, zero, suc, ◌<◌, ◌≤◌, le_refl, arith}
use Rattle.numbers.specs.Sums.{sum}

pub sum-≤ : (n : ℕ) (f g : ℕ → ℕ) → ((i : ℕ) → i < n → f i ≤ g i) → sum n f ≤ sum n g
sum-≤ zero f g h = le_refl 0
sum-≤ (suc n) f g h =
    let a = sum-≤ n f g (λ i k. h i (omega arith)) in
    let b = h n (omega arith) in
    omega arith
