-- Angles that are the same but for full turns, and where two rows of numbers differ.
use Rattle.std.specs.Prelude.{◌≡◌, ℕ, ◌%◌, Bool, not, ◌==◌}

-- the same angle
infix 50 ◌≈◌
pub record ◌≈◌ (a b : ℕ) : Type 0 where
  pub alike : a % 65536 ≡ b % 65536

-- whether two rows differ at i
abbrev pub unlike : (ℕ → ℕ) → (ℕ → ℕ) → ℕ → Bool
unlike f g i = not (f i == g i)
