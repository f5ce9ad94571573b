use Rattle.std.proofs.Common.{◌*◌, ◌%◌, refl}
use Rattle.coefficients.proofs.Weighing.{weighs}
use Rattle.coefficients.proofs.weights.entry_of.Goals as goal

pub returns : goal.returns
returns c = let a = c.args in
    weighs a.constant a.s a.sum c.weight.result (c.weight.result * a.sum % 65536) c.if-s-eq0.false c.weight.ensures refl
