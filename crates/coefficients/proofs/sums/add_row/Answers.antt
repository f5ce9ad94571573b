use Rattle.std.proofs.Common.{arith}
use Rattle.numbers.proofs.Lists.{fill_again}
use Rattle.coefficients.proofs.Adding.{added, still_there}
use Rattle.coefficients.proofs.sums.add_row.Goals as goal

pub loop-i-preserved : goal.loop-i-preserved
loop-i-preserved c = let l = c.loop-i in
    let to = c.args.to.now in
    let from = c.args.from.now in
    fill_again l.i (added to from) to l.to 0 _ (omega arith) l.invariant (still_there to from l.to l.i l.invariant)
