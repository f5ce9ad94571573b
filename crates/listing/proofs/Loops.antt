-- The lines of a good file's gates as the two loops go over them: their length is added up, and they are written, one step a gate.
use Prim.Native.Nat.{ℕ, ◌+◌, ◌*◌, ◌≤◌}
use native.Mathlib.Omega.{arith}
use mathlib.Core.Path.{◌≡◌, refl, ap, ◌∙◌}
use mathlib.Core.List.{List, [], ◌∷◌, ◌++◌}
use lib.ListN.{length, length-append}
use Rattle.circuit.specs.declared.Gate.{Gate}
use Rattle.circuit.specs.File.{wires_of, count_of, gates_of}
use Rattle.circuit.specs.Bytes.{Bytes}
use Rattle.circuit.specs.Working.{walked, written}
use Rattle.circuit.proofs.Callers.{GoodFile}
use Rattle.circuit.proofs.Files.{file_sound, length-gates}
use Rattle.circuit.proofs.Walks.{Walk}
use Rattle.listing.specs.Listing.{gate_line, gate_lines}
use Rattle.listing.specs.Working.{longest_line}
use Rattle.listing.proofs.Lengths.{lines_short}

-- a gate makes the length longer by its line's
abbrev pub longer : Gate → ℕ → ℕ
longer g total = total + length (gate_line g)

pub longer_walked : (gs : List Gate) (total : ℕ) → walked longer gs total ≡ total + length (gate_lines gs)
unfolding walked gate_lines
longer_walked [] total = omega arith
longer_walked (g ∷ gs) total = longer_walked gs (longer g total) ∙ omega (arith, length-append (gate_line g) (gate_lines gs))

-- a gate changes no state and writes its line
abbrev pub stays : Gate → Unit {0} → Unit {0}
stays g s = s

abbrev pub line : Gate → Unit {0} → List ℕ
line g s = gate_line g

pub lines_written : (gs : List Gate) → written stays line gs tt ≡ gate_lines gs
unfolding written gate_lines
lines_written [] = refl
lines_written (g ∷ gs) = ap (gate_line g ++◌) (lines_written gs)

module _ (f : List ℕ) (bytes : Bytes f) (good : GoodFile f) where
  pub lines_fit : length (gate_lines (gates_of f)) ≤ longest_line * count_of f
  lines_fit = omega (arith, lines_short (wires_of f) good.few (gates_of f) (file_sound f bytes good), length-gates f bytes good)

  -- on the way the length is no longer than the whole
  pub part_fits : (total : ℕ) (left : List Gate) → Walk longer (gates_of f) 0 left total → total ≤ longest_line * count_of f
  part_fits total left w = omega (arith, longer_walked left total, longer_walked (gates_of f) 0, w, lines_fit)
