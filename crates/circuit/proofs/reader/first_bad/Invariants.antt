use Prim.Native.Nat.{◌+◌, ◌*◌, ◌-◌}
use mathlib.Core.Path.{◌≡◌}
use lib.ListN.{drop}
use Rattle.circuit.specs.Gates.{first_bad}
use Rattle.circuit.specs.File.{wires_of}
use Rattle.circuit.proofs.reader.first_bad.Given as goal

abbrev pub invariant-loop-i : goal.invariant-loop-i
invariant-loop-i l = first_bad l.version (wires_of l.file) (l.gates - l.i) l.i (drop (8 + 4 * l.i) l.file) ≡ first_bad l.version (wires_of l.file) l.gates 0 (drop 8 l.file)
