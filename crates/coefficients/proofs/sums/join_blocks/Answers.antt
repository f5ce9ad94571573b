use Rattle.std.proofs.Common.{◌+◌, refl}
use Rattle.coefficients.specs.Working.{joined, in_blocks}
use Rattle.coefficients.proofs.Blocks.{block_again, length-joined}
use Rattle.coefficients.proofs.sums.join_blocks.Goals as goal

pub loop-block-init : goal.loop-block-init
unfolding in_blocks
loop-block-init c = refl

pub loop-block-preserved : goal.loop-block-preserved
loop-block-preserved c = let l = c.loop-block in
    let a = c.args in
    block_again (joined a.up a.half) (a.half + a.half) (length-joined a.up a.half) a.v.now l.v l.block l.invariant c.join_halves.new.v c.join_halves.ensures
