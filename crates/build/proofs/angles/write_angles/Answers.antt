use Rattle.std.proofs.Common.{get_or, pos, arith}
use Rattle.numbers.proofs.Lists.{fill_again}
use Rattle.build.proofs.Wrapping.{product_fits, angle_is}
use Rattle.build.proofs.angles.write_angles.Goals as goal
use Rattle.build.proofs.angles.write_angles.Invariants.{angleOf}

pub overflow_mul-coefficients : goal.overflow_mul-coefficients
overflow_mul-coefficients c =
    product_fits c.args.n (get_or c.args.coefficients.now c.loop-k.k (pos 0)) c.power-scale.result c.requires.n_bound (c.requires.small c.loop-k.k) c.power-scale.ensures

pub loop-k-preserved : goal.loop-k-preserved
loop-k-preserved c =
    let a = c.args in
    let l = c.loop-k in
    let z = get_or a.coefficients.now l.k (pos 0) in
    fill_again l.k (angleOf a.n a.coefficients.now) a.out.now l.out 0 c.wrapped.result (omega arith) l.invariant
    (angle_is a.n z c.power-scale.result c.requires.n_bound (c.requires.small l.k) c.power-scale.ensures c.wrapped.result c.wrapped.ensures)
