use Rattle.std.proofs.Common.{◌*◌, ap, arith}
use Rattle.numbers.proofs.Lists.{fill_again}
use Rattle.coefficients.proofs.ideal.put_turns.Goals as goal
use Rattle.coefficients.proofs.ideal.put_turns.Invariants.{turns}

pub loop-x-preserved : goal.loop-x-preserved
loop-x-preserved c = let l = c.loop-x in
    fill_again l.x (turns c.args.table.now) c.args.v.now l.v 0 (32768 * c.value.result) (omega arith) l.invariant (ap (32768 *◌) c.value.ensures)
