use Rattle.std.proofs.Common.{arith}
use Rattle.numbers.proofs.Lists.{fill_again}
use Rattle.coefficients.specs.Working.{entry}
use Rattle.verdict.proofs.Judging.{less, wrapped_less}
use Rattle.verdict.proofs.summaries.subtract.Goals as goal

pub loop-s-preserved : goal.loop-s-preserved
loop-s-preserved c = let l = c.loop-s in
    let a = c.args in
    fill_again l.s (less a.first.now a.second.now) a.work.now l.work 0 _ (omega arith) l.invariant (wrapped_less (entry a.first.now l.s) (entry a.second.now l.s) (c.type_inv.second l.s).fits)
