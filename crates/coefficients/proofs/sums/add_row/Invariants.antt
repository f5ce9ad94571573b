use Rattle.std.proofs.Common.{◌≡◌}
use Rattle.numbers.proofs.Lists.{filled}
use Rattle.coefficients.proofs.Adding.{added}
use Rattle.coefficients.proofs.sums.add_row.Given as goal

abbrev pub invariant-loop-i : goal.invariant-loop-i
invariant-loop-i l = l.to ≡ filled l.i (added l.initial.to l.from) l.initial.to
