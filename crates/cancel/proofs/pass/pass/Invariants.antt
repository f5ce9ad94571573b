use Rattle.std.proofs.Common.{◌≡◌, length}
use Rattle.cancel.proofs.Passing.{Passing}
use Rattle.cancel.proofs.pass.pass.Given as goal

abbrev pub invariant-loop-i : goal.invariant-loop-i
invariant-loop-i l = Passing l.circuit.file.now l.most l.row l.kept l.pairs l.i × (length l.row ≡ length l.initial.row)
