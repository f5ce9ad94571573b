use Rattle.std.proofs.Common.{◌≡◌}
use Rattle.coefficients.proofs.Ends.{column_to}
use Rattle.coefficients.proofs.summary.column_of.Given as goal

abbrev pub invariant-loop-j : goal.invariant-loop-j
invariant-loop-j l = l.state ≡ column_to l.held l.j l.i
