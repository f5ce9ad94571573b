use Rattle.std.proofs.Common.{length, arith}
use Rattle.numbers.proofs.Lists.{fill_again}
use Rattle.coefficients.specs.Working.{weighed}
use Rattle.coefficients.proofs.Filling.{nothing_put}
use Rattle.coefficients.proofs.weights.weigh.Goals as goal

pub loop-s-preserved : goal.loop-s-preserved
loop-s-preserved c = let l = c.loop-s in
    let a = c.args in
    fill_again l.s (weighed a.constant a.v.now) a.out.now l.out 0 c.entry_of.result (omega arith) l.invariant c.entry_of.ensures

pub returns-else-v-out : goal.returns-else-v-out
returns-else-v-out c = let a = c.args in
    nothing_put (length a.v.now) (weighed a.constant a.v.now) a.out.now c.if-v-out.false
