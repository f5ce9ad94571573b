use Rattle.circuit.specs.Working.{said_gates, AllSound}
use Rattle.circuit.specs.File.{gates_of}
use Rattle.circuit.proofs.Walks.{Walk}
use Rattle.running.specs.Working.{run_step}
use Rattle.running.proofs.runner.run_gates.Given as goal

abbrev pub invariant-loop-gate : goal.invariant-loop-gate
invariant-loop-gate l =
    let left = said_gates l.gate-iterator.left.now in
    Walk run_step (gates_of l.circuit.file.now) (l.fn.start, 0) left (l.state, l.phase) × AllSound 10 left
