use Rattle.std.proofs.Common.{◌≡◌}
use Rattle.build.proofs.Pieces.{BlocksTo}
use Rattle.build.proofs.block.variables.Given as goal

abbrev pub invariant-loop-i : goal.invariant-loop-i
invariant-loop-i l = BlocksTo l.n l.angles l.fn.writer.at l.fn.writer.out.now l.i l.writer.at l.writer.out.now × (l.writer.out.ghost_name ≡ l.fn.writer.out.ghost_name)
