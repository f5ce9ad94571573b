use Rattle.std.proofs.Common.{length}
use Rattle.cancel.proofs.Writing.{ToWrite}
use Rattle.cancel.proofs.writer.write_gates.Given as goal

abbrev pub invariant-loop-i : goal.invariant-loop-i
invariant-loop-i l = ToWrite l.file l.positions (length l.positions) l.initial.out l.i l.out
