use Rattle.std.proofs.Common.{◌≡◌, length}
use Rattle.circuit.specs.Working.{said_gates}
use Rattle.circuit.specs.File.{gates_of}
use Rattle.circuit.proofs.Walks.{Walk}
use Rattle.coefficients.specs.Working.{sign_step}
use Rattle.coefficients.proofs.signs.add_gates.Given as goal

abbrev pub invariant-loop-gate : goal.invariant-loop-gate
invariant-loop-gate l =
    Walk sign_step (gates_of l.circuit.file.now) (l.initial.held, l.initial.signed, 0) (said_gates l.gate-iterator.left.now) (l.held, l.signed, l.constant)
    × (length l.held ≡ length l.initial.held) × (length l.signed ≡ length l.initial.signed)
