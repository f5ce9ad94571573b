-- A circuit and the ideal, each with its coefficients: what the scan goes by.
use Rattle.std.proofs.Common.{ℕ, zero, suc, ◌*◌, ◌%◌, ◌^◌, ◌<◌, List, sym, arith}
use lib.Bits.{bit_xor, xor_zero_r}
use Rattle.numbers.specs.Bits.{bit}
use Rattle.table.specs.Table.{value_at}
use Rattle.circuit.specs.declared.Gate.{Gate}
use Rattle.circuit.specs.Working.{AllSound}
use Rattle.running.proofs.Runs.{end_xor}
use Rattle.coefficients.specs.Coefficients.{coefficient, ideal_coefficient}
use Rattle.verdict.specs.Verdicts.{circuit, ideal}
use Rattle.coefficients.proofs.Polynomials.{phase_polynomial, coefficient_below}
use Rattle.coefficients.proofs.Ideals.{ideal_polynomial, ideal_below}
use Rattle.verdict.proofs.Scanning.{Summed}

pub circuit_summed : (w : ℕ) (gs : List Gate) → AllSound w gs → Summed w (circuit gs) (coefficient w gs)
circuit_summed w gs h =
    record { polynomial = λ x l. phase_polynomial w gs x h l; phases = λ x. omega arith; small = coefficient_below w gs; affine = end_xor gs }

pub ideal_summed : (n : ℕ) (t : List ℕ) → Summed (suc n) (ideal n (value_at t)) (ideal_coefficient n (value_at t))
ideal_summed n t =
    record {
      polynomial = ideal_polynomial n (value_at t);
      phases = λ x. small (value_at t (x % 2 ^ n)) (bit x n) (omega arith) (omega arith);
      small = ideal_below n (value_at t);
      affine = λ x y. sym (xor_zero_r (bit_xor x y));
    }
  where
    small : (f b : ℕ) → f < 2 → b < 2 → 32768 * (f * b) < 65536
    small zero b h k = omega arith
    small (suc zero) b h k = omega arith
    small (suc (suc f)) b h k = absurd (omega arith)
