-- What the built file is: well formed, of the length that is answered, and its table's oracle.
use Rattle.std.proofs.Common.{◌≡◌, ℕ, ◌+◌, ◌-◌, ◌*◌, ◌%◌, ◌^◌, ◌<◌, ◌≤◌, List, length, sym, ◌∙◌, subst, arith, pow_mono}
use Rattle.refusal.specs.Checks.{passed, outcome}
use Rattle.table.specs.Table.{value_at}
use Rattle.spectrum.specs.Spectrum.{theta}
use Rattle.running.specs.Run.{end_from, phase_from}
use Rattle.running.specs.Ends.{ComesBack}
use Rattle.running.proofs.Ends.{ends_back}
use Rattle.circuit.specs.declared.Gate.{Gate}
use Rattle.circuit.specs.File.{version_of, wires_of, count_of, gates_of, file_checks}
use Rattle.circuit.proofs.Files.{version_written, wires_written, count_written, list_written, written_passes}
use Rattle.build.specs.Construction.{minus, construction, built_file}
use Rattle.build.proofs.Circuits.{length-parts, length-parts_file, sound_construction, admitted_construction}
use Rattle.build.proofs.Oracle.{construction_ends, construction_run}

-- "The gates number 2^(n+2) - 2"
pub construction_count : (n : ℕ) (f : ℕ → ℕ) → 0 < n → length (construction n f) + 2 ≡ 2 ^ (n + 2)
unfolding construction
construction_count n f = length-parts n (theta n f) (λ v. minus (theta n f v))

-- "the file is 2^(n+4) bytes"
pub built_long : (n : ℕ) (t : List ℕ) → 0 < n → length (built_file n t) ≡ 2 ^ (n + 4)
unfolding construction
built_long n t = length-parts_file n (theta n (value_at t)) (λ v. minus (theta n (value_at t) v))

module _ (n : ℕ) (t : List ℕ) (p : 0 < n) (small : n ≤ 8) where
  pub few_gates : length (construction n (value_at t)) ≤ 2048
  few_gates = omega (arith, construction_count n (value_at t) p, pow_mono {i = n + 2} {j = 10} (omega arith))

  -- read accepts it, with n + 1 wires and 2^(n+2) - 2 gates
  pub built_passes : (side : ℕ) → outcome (file_checks side (built_file n t)) ≡ passed
  built_passes side = written_passes 1 (n + 1) (construction n (value_at t)) (sound_construction n (value_at t)) (admitted_construction 1 n (value_at t)) side (omega arith) (omega arith) (omega arith) (omega arith) few_gates

  -- 02 §12, "the builders write 1"
  pub built_version : version_of (built_file n t) ≡ 1
  built_version = version_written 1 (n + 1) (construction n (value_at t))

  pub built_wires : wires_of (built_file n t) ≡ n + 1
  built_wires = wires_written 1 (n + 1) (construction n (value_at t))

  pub built_count : count_of (built_file n t) ≡ 2 ^ (n + 2) - 2
  built_count = count_written 1 (n + 1) (construction n (value_at t)) ∙ omega (arith, construction_count n (value_at t) p)

  pub built_gates : gates_of (built_file n t) ≡ construction n (value_at t)
  built_gates = list_written 1 (n + 1) (construction n (value_at t)) (sound_construction n (value_at t)) (admitted_construction 1 n (value_at t))

  -- "The wires are restored": each ends on its own mask, without a flip
  pub built_back : ComesBack (wires_of (built_file n t)) (gates_of (built_file n t))
  built_back =
      subst (λ (w : ℕ). ComesBack w (gates_of (built_file n t))) (sym built_wires)
      (subst (λ (gs : List Gate). ComesBack (n + 1) gs) (sym built_gates) (ends_back (n + 1) (construction n (value_at t)) (sound_construction n (value_at t)) (construction_ends n (value_at t))))

  -- its run from x + y 2^n ends where it starts, with phase 32,768 f(x) y
  pub built_run : (x y : ℕ) → x < 2 ^ n → y < 2
      → (end_from (gates_of (built_file n t)) (x + y * 2 ^ n) ≡ x + y * 2 ^ n) × (phase_from (gates_of (built_file n t)) (x + y * 2 ^ n) ≡ 32768 * value_at t x * y % 65536)
  built_run x y hx hy = rw built_gates (construction_run n (value_at t) x y (omega arith) hx hy (omega arith))
