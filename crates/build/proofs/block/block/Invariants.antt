use Rattle.std.proofs.Common.{◌≡◌, ℕ, List, get_or}
use Rattle.build.proofs.Pieces.{InBlock}
use Rattle.build.proofs.block.block.Given as goal

abbrev pub angle_at : List ℕ → ℕ → ℕ
angle_at angles v = get_or angles v 0

abbrev pub invariant-loop-k : goal.invariant-loop-k
invariant-loop-k l = InBlock l.i (angle_at l.angles) l.fn.writer.at l.fn.writer.out.now l.k l.word l.writer.at l.writer.out.now × (l.writer.out.ghost_name ≡ l.fn.writer.out.ghost_name)
