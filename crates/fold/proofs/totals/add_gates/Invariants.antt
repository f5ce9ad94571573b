use Rattle.std.proofs.Common.{◌≡◌, length}
use Rattle.circuit.specs.Working.{said_gates}
use Rattle.circuit.specs.File.{gates_of}
use Rattle.circuit.proofs.Walks.{Walk}
use Rattle.running.specs.Working.{sum_step}
use Rattle.fold.proofs.totals.add_gates.Given as goal

abbrev pub invariant-loop-gate : goal.invariant-loop-gate
invariant-loop-gate l =
    Walk sum_step (gates_of l.circuit.file.now) (l.initial.held, l.initial.totals) (said_gates l.gate-iterator.left.now) (l.held, l.totals)
    × (length l.held ≡ length l.initial.held) × (length l.totals ≡ length l.initial.totals)
