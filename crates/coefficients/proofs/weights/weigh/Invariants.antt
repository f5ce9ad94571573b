use Rattle.std.proofs.Common.{◌≡◌}
use Rattle.numbers.proofs.Lists.{filled}
use Rattle.coefficients.specs.Working.{weighed}
use Rattle.coefficients.proofs.weights.weigh.Given as goal

abbrev pub invariant-loop-s : goal.invariant-loop-s
invariant-loop-s l = l.out ≡ filled l.s (weighed l.constant l.v) l.initial.out
