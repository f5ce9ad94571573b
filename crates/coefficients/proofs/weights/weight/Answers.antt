use Rattle.std.proofs.Common.{arith}
use Rattle.coefficients.proofs.Weighing.{few_ones, weight_at_lem}
use Rattle.coefficients.proofs.weights.weight.Goals as goal

pub bounds-s : goal.bounds-s
bounds-s c = omega (arith, few_ones c.args.s c.requires)

pub returns : goal.returns
returns c = weight_at_lem c.args.s c.requires
