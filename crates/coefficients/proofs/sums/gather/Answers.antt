use Rattle.std.proofs.Common.{arith}
use Rattle.coefficients.proofs.Blocks.{grown_starts, grown_again, blocks_end}
use Rattle.coefficients.proofs.sums.gather.Goals as goal

pub loop-half-init : goal.loop-half-init
loop-half-init c = let a = c.args in
    grown_starts a.up a.v.now (λ i. (c.type_inv.v i).fits)

pub loop-half-preserved : goal.loop-half-preserved
loop-half-preserved c = let a = c.args in
    let j = c.join_blocks in
    grown_again a.up a.v.now c.loop-half.v c.loop-half.half c.loop-half.invariant (omega arith) j.new.v j.auto.v j.ensures

pub returns : goal.returns
returns c = let l = c.loop-half in
    let a = c.args in
    λ n e. blocks_end a.up n a.v.now e l.half l.v (l.invariant.blocks n e) (omega (arith, l.invariant.long))
