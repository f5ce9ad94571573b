-- The file's parts, one after another.
use Rattle.std.proofs.Common.{◌≡◌, ℕ, ◌+◌, ◌-◌, ◌%◌, ◌^◌, ◌<◌, ◌≤◌, List, ◌++◌, length, ap, ◌∙◌, ap₂, arith, pow_mono}
use Rattle.numbers.proofs.Powers.{power_fits}
use Rattle.circuit.specs.Gates.{bytes_of}
use Rattle.circuit.specs.File.{header_bytes, file_of}
use Rattle.circuit.proofs.Decoding.{bytes_append}
use Rattle.circuit.proofs.Parts.{Left, all_left}
use Rattle.build.specs.Construction.{first_quarter, variables, block}
use Rattle.build.specs.Working.{parts}
use Rattle.build.proofs.Circuits.{length-parts, length-parts_file}

module _ (n : ℕ) (a b : ℕ → ℕ) (p : 0 < n) (small : n ≤ 8) (r : ℕ) (e : r ≡ 2 ^ (n + 2) % 2 ^ 64) where
  power : r ≡ 2 ^ (n + 2)
  power = e ∙ power_fits (omega arith)

  -- the gate count is a number of 16 bits
  pub gates_fit : (2 ≤ r) × (r < 65536)
  gates_fit = (omega (arith, power, pow_mono {i = 1} {j = n + 2} (omega arith)), omega (arith, power, pow_mono {i = n + 2} {j = 10} (omega arith)))

  in_parts : file_of 1 (n + 1) (parts n a b) ≡ header_bytes 1 (n + 1) (r - 2) ++ (bytes_of (first_quarter n) ++ (bytes_of (variables n a) ++ bytes_of (block n b)))
  unfolding file_of
  in_parts =
      ap₂ (λ (g : ℕ) (x : List ℕ). header_bytes 1 (n + 1) g ++ x) (let q : length (parts n a b) ≡ r - 2 = omega (arith, power, length-parts n a b p) in q)
      (bytes_append (first_quarter n) (variables n a ++ block n b) ∙ ap (bytes_of (first_quarter n) ++◌) (bytes_append (variables n a) (block n b)))

  -- nothing is written yet
  pub file_left : (out : List ℕ) → 2 ^ (n + 4) ≤ length out
      → Left (file_of 1 (n + 1) (parts n a b)) 0 out (header_bytes 1 (n + 1) (r - 2) ++ (bytes_of (first_quarter n) ++ (bytes_of (variables n a) ++ bytes_of (block n b)))) 0 out
  file_left out h = all_left 0 out in_parts (omega (arith, length-parts_file n a b p))
