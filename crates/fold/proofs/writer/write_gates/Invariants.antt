use Rattle.std.proofs.Common.{◌≡◌, length}
use Rattle.circuit.specs.Working.{said_gates}
use Rattle.circuit.specs.File.{gates_of}
use Rattle.circuit.proofs.Walks.{Writing}
use Rattle.fold.specs.Working.{fold_step, fold_put}
use Rattle.fold.proofs.writer.write_gates.Given as goal

abbrev pub invariant-loop-gate : goal.invariant-loop-gate
invariant-loop-gate l =
    Writing fold_step fold_put (gates_of l.circuit.file.now) (l.initial.held, l.initial.totals) l.initial.writer.at l.initial.writer.out.now (said_gates l.gate-iterator.left.now) (l.held, l.totals) l.writer.at l.writer.out.now
    × (length l.held ≡ length l.initial.held) × (length l.totals ≡ length l.initial.totals)
    × (l.writer.out.ghost_name ≡ l.initial.writer.out.ghost_name)
