-- Sums of angles, modulo a turn.
use Rattle.std.proofs.Common.{ℕ, zero, suc, ◌+◌, ◌<◌, arith}
use Rattle.numbers.specs.Sums.{sum}
use Rattle.numbers.specs.Working.{◌≈◌}
use Rattle.numbers.proofs.Sums.{ℕ-adds, sum_of-none}
use Rattle.numbers.proofs.Turns.{≈_refl, ≈-add, ≈-of, ◌≈∙◌}

pub ≈-sum : (n : ℕ) (f g : ℕ → ℕ) → ((i : ℕ) → i < n → f i ≈ g i) → sum n f ≈ sum n g
≈-sum zero f g h = ≈_refl
≈-sum (suc n) f g h = ≈-add (≈-sum n f g (λ i l. h i (omega arith))) (h n (omega arith))

-- angles that are each none make none
pub ≈-sum_none : (n : ℕ) (f : ℕ → ℕ) → ((i : ℕ) → i < n → f i ≈ 0) → sum n f ≈ 0
≈-sum_none n f h = ≈-sum n f (λ i. 0) h ≈∙ ≈-of (sum_of-none 0 ◌+◌ ℕ-adds n)
