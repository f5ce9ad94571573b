use mathlib.Core.Path.{◌≡◌}
use Rattle.circuit.specs.Working.{said_gates}
use Rattle.circuit.specs.File.{gates_of}
use Rattle.circuit.proofs.Walks.{Writing}
use Rattle.listing.proofs.Loops.{stays, line}
use Rattle.listing.proofs.put_gates.Given as goal

abbrev pub invariant-loop-gate : goal.invariant-loop-gate
invariant-loop-gate l = Writing stays line (gates_of l.circuit.file.now) tt l.initial.writer.at l.initial.writer.out.now (said_gates l.gate-iterator.left.now) tt l.writer.at l.writer.out.now × (l.writer.out.ghost_name ≡ l.initial.writer.out.ghost_name)
