use Rattle.std.proofs.Common.{◌^◌, ◌<◌, refl, ◌∙◌, arith}
use Rattle.numbers.proofs.Powers.{small_power}
use Rattle.build.proofs.Pieces.{below_words, block_starts, word_small, pair_fits, pair_done, block_ends}
use Rattle.build.proofs.block.block.Goals as goal
use Rattle.build.proofs.block.block.Goals.{After-turned-bit}
use Rattle.build.proofs.block.block.Invariants.{angle_at}

pub loop-k-init : goal.loop-k-init
loop-k-init c = let a = c.args in
    (block_starts a.i (angle_at a.angles.now) a.writer.now.at a.writer.now.out.now c.requires.room, refl)

-- this turn is one of a block's, and its word one of those that there are angles for
turn : (c : After-turned-bit) → c.loop-k.k < 2 ^ c.args.i
turn c = below_words c.args.i c.power-k-end.result c.loop-k.k c.requires.i_bound c.power-k-end.ensures c.loop-k-test.true

pub offset_bounds-angles-word : goal.offset_bounds-angles-word
offset_bounds-angles-word c =
    omega (arith, word_small c.loop-k.invariant.0 (turn (goal.at.offset_bounds-angles-word c).After-turned-bit), c.requires.angles_enough)

pub bounds-angles-word : goal.bounds-angles-word
bounds-angles-word c =
    omega (arith, word_small c.loop-k.invariant.0 (turn (goal.at.bounds-angles-word c).After-turned-bit), c.requires.angles_enough)

pub put_pair-requires : goal.put_pair-requires
put_pair-requires c =
    let r = c.requires in
    pair_fits c.loop-k.invariant.0 c.turned-bit.result r.i_nonzero (turn (goal.at.put_pair-requires c).After-turned-bit) c.turned-bit.ensures

pub loop-k-preserved : goal.loop-k-preserved
loop-k-preserved c =
    let r = c.requires in (
      pair_done c.loop-k.invariant.0 c.turned-bit.result r.i_nonzero (turn (goal.at.loop-k-preserved c).After-turned-bit) c.turned-bit.ensures
          r.i_bound c.power-word.result c.power-word.ensures c.put_pair.ensures.wrote,
      c.put_pair.ensures.same_reference ∙ c.loop-k.invariant.1,
    )

pub returns-clause-wrote : goal.returns-clause-wrote
returns-clause-wrote c = block_ends c.loop-k.invariant.0 (omega (arith, small_power c.args.i c.power-k-end.result (omega (arith, c.requires.i_bound)) c.power-k-end.ensures, c.loop-k-test.false))
