use Rattle.std.proofs.Common.{arith}
use Rattle.coefficients.proofs.Ends.{column_fits}
use Rattle.coefficients.proofs.summary.column_of.Goals as goal

pub overflow_add-state : goal.overflow_add-state
overflow_add-state c = let a = c.args in
    let l = c.loop-j in
    record { fits = column_fits a.held.now a.i l.j l.state l.invariant (omega arith) }
