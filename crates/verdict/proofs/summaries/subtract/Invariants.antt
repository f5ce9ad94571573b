use Rattle.std.proofs.Common.{◌≡◌}
use Rattle.numbers.proofs.Lists.{filled}
use Rattle.verdict.proofs.Judging.{less}
use Rattle.verdict.proofs.summaries.subtract.Given as goal

abbrev pub invariant-loop-s : goal.invariant-loop-s
invariant-loop-s l = l.work ≡ filled l.s (less l.first l.second) l.initial.work
