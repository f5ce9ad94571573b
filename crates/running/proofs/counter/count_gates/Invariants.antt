use Rattle.std.proofs.Common.{◌+◌, ◌≤◌, length}
use Rattle.circuit.specs.Working.{said_gates}
use Rattle.circuit.specs.File.{gates_of}
use Rattle.circuit.proofs.Walks.{Walk}
use Rattle.running.specs.Working.{count_step}
use Rattle.running.proofs.counter.count_gates.Given as goal

abbrev pub invariant-loop-gate : goal.invariant-loop-gate
invariant-loop-gate l =
    let left = said_gates l.gate-iterator.left.now in
    Walk count_step (gates_of l.circuit.file.now) (0, 0, 0) left (l.cnots, l.score, l.inverters) × (l.cnots + l.score + l.inverters + length left ≤ 2048)
