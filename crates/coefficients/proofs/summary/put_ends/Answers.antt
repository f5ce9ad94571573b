use Rattle.std.proofs.Common.{◌+◌, length, take, arith}
use Rattle.numbers.proofs.Lists.{fill_again}
use Rattle.coefficients.specs.Working.{listed_column}
use Rattle.coefficients.proofs.Filling.{nothing_put}
use Rattle.coefficients.proofs.summary.put_ends.Goals as goal

pub loop-i-preserved : goal.loop-i-preserved
loop-i-preserved c = let l = c.loop-i in
    let held = c.args.held.now in
    fill_again l.i (listed_column held) (take (length held + 1) c.args.ends.now) l.end-items 0 c.end_of.result (omega arith) l.invariant c.end_of.ensures

pub returns-else-starts-ends : goal.returns-else-starts-ends
returns-else-starts-ends c = let a = c.args in
    nothing_put (length a.held.now + 1) (listed_column a.held.now) a.ends.now c.if-starts-ends.false
