use Rattle.std.proofs.Common.{◌≡◌, ◌+◌}
use Rattle.coefficients.specs.Working.{joined, in_blocks}
use Rattle.coefficients.proofs.sums.join_blocks.Given as goal

abbrev pub invariant-loop-block : goal.invariant-loop-block
invariant-loop-block l = l.v ≡ in_blocks (joined l.up l.half) (l.half + l.half) l.block l.initial.v
