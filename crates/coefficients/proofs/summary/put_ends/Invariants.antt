use Rattle.std.proofs.Common.{◌≡◌}
use Rattle.numbers.proofs.Lists.{filled}
use Rattle.coefficients.specs.Working.{listed_column}
use Rattle.coefficients.proofs.summary.put_ends.Given as goal

abbrev pub invariant-loop-i : goal.invariant-loop-i
invariant-loop-i l = l.end-items ≡ filled l.i (listed_column l.held) l.initial.end-items
