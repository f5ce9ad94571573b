use Rattle.circuit.specs.Working.{said_gates}
use Rattle.circuit.specs.File.{gates_of}
use Rattle.circuit.proofs.Walks.{Walk}
use Rattle.listing.proofs.Loops.{longer}
use Rattle.listing.proofs.lines_length.Given as goal

abbrev pub invariant-loop-gate : goal.invariant-loop-gate
invariant-loop-gate l = Walk longer (gates_of l.circuit.file.now) 0 (said_gates l.gate-iterator.left.now) l.total
