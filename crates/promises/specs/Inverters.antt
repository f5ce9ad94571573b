-- 02 §12, as statements about a circuit.
use Rattle.std.specs.Prelude.{ℕ, suc, ◌+◌, ◌-◌, ◌*◌, ◌%◌, ◌^◌, ◌≡◌, List, [], ◌∷◌, ◌++◌}
use Rattle.std.specs.Int.Count.{ones}
use Rattle.numbers.specs.Bits.{dot, subset}
use Rattle.numbers.specs.Turn.{difference}
use Rattle.circuit.specs.declared.Gate.{Gate}
use Rattle.circuit.specs.declared.Gate.TheVariants.{Phase}
use Rattle.running.specs.Run.{phase_from}
use Rattle.coefficients.specs.Coefficients.{coefficient}

-- one phase gate more
abbrev pub with_phase : List Gate → ℕ → ℕ → List Gate
with_phase gs i a = gs ++ (Phase i a ∷ [])

-- "A phase of a on a flipped mask adds a constant a and minus a on the mask.": to a circuit gs whose wire i then holds mask m, flipped
pub record AddsFlipped (w : ℕ) (gs : List Gate) (i a m : ℕ) : Type 0 where
  -- to a run from x: a, and minus a where m.x is 1
  pub phase : (x : ℕ) → phase_from (with_phase gs i a) x ≡ (phase_from gs x + (a + difference 0 a * dot m x)) % 65536
  -- to the coefficients: a to the constant, minus a to the sets within the mask, by their weight
  pub constant : coefficient w (with_phase gs i a) 0 ≡ (coefficient w gs 0 + a) % 65536
  pub sets : (s : ℕ) → coefficient w (with_phase gs i a) (suc s) ≡ (coefficient w gs (suc s) + 65534 ^ (ones (suc s) - 1) * (subset (suc s) m * difference 0 a)) % 65536
