use Rattle.std.proofs.Common.{◌∙◌, arith, pow_mono}
use Rattle.build.proofs.Pieces.{first_fits, first_done, blocks_end, angles_from, part_enough, block_fits, block_done}
use Rattle.build.proofs.block.variables.Goals as goal

pub bounds-angles-1 : goal.bounds-angles-1
bounds-angles-1 c = omega (arith, pow_mono {i = 1} {j = c.args.n} c.requires.n_nonzero, c.requires.angles_enough)

pub put-requires : goal.put-requires
put-requires c = let a = c.args in
    first_fits a.n a.angles.now a.writer.now.at a.writer.now.out.now c.requires.n_nonzero c.requires.room

pub loop-i-init : goal.loop-i-init
loop-i-init c = let a = c.args in
    (first_done a.n a.angles.now a.writer.now.at a.writer.now.out.now c.requires.n_nonzero c.requires.room c.put.ensures.wrote, c.put.ensures.same_reference)

pub slice_bounds-block-start : goal.slice_bounds-block-start
slice_bounds-block-start c = let a = c.args in
    angles_from a.n a.angles.now a.writer.now.at a.writer.now.out.now c.requires.n_bound c.requires.angles_enough c.loop-i.i (omega (arith, c.loop-i-test.true)) c.power.result c.power.ensures

pub slice_bounds-block-count : goal.slice_bounds-block-count
slice_bounds-block-count c = let a = c.args in
    angles_from a.n a.angles.now a.writer.now.at a.writer.now.out.now c.requires.n_bound c.requires.angles_enough c.loop-i.i (omega (arith, c.loop-i-test.true)) c.power.result c.power.ensures

pub block-requires-clause-angles_enough : goal.block-requires-clause-angles_enough
block-requires-clause-angles_enough c = let a = c.args in
    part_enough a.n a.angles.now a.writer.now.at a.writer.now.out.now c.requires.n_bound c.requires.angles_enough c.loop-i.i (omega (arith, c.loop-i-test.true)) c.power.result c.power.ensures

pub block-requires-clause-room : goal.block-requires-clause-room
block-requires-clause-room c = let a = c.args in
    block_fits a.n a.angles.now a.writer.now.at a.writer.now.out.now c.requires.n_bound c.requires.angles_enough c.loop-i.i (omega (arith, c.loop-i-test.true)) c.power.result c.power.ensures c.loop-i.invariant.0

pub loop-i-preserved : goal.loop-i-preserved
loop-i-preserved c = let a = c.args in
    (block_done a.n a.angles.now a.writer.now.at a.writer.now.out.now c.requires.n_bound c.requires.angles_enough c.loop-i.i (omega (arith, c.loop-i-test.true)) c.power.result c.power.ensures c.loop-i.invariant.0 c.block.ensures.wrote, c.block.ensures.same_reference ∙ c.loop-i.invariant.1)

pub returns-clause-wrote : goal.returns-clause-wrote
returns-clause-wrote c = let a = c.args in
    blocks_end a.n a.angles.now a.writer.now.at a.writer.now.out.now c.loop-i.i (omega (arith, c.loop-i-test.false)) c.loop-i.invariant.0
