use Rattle.std.proofs.Common.{◌-◌}
use Rattle.running.specs.Masks.{most_masks}
use Rattle.coefficients.proofs.Blocks.{Grown}
use Rattle.coefficients.proofs.sums.gather.Given as goal

abbrev pub invariant-loop-half : goal.invariant-loop-half
invariant-loop-half l = Grown l.up l.initial.v l.v l.half

abbrev pub decreases-loop-half : goal.decreases-loop-half
decreases-loop-half l = most_masks - l.half
