use native.Mathlib.Omega.{arith}
use Rattle.circuit.proofs.Parts.{all_written, wrote_same, wrote_nothing}
use Rattle.listing.proofs.Pieces.{wrap_left, not_wrapped}
use Rattle.listing.proofs.lines.put_wrap.Goals as goal

pub put_last-requires : goal.put_last-requires
put_last-requires c =
    let a = c.args in
    (wrap_left a.wrapped a.wires a.writer.now.at a.writer.now.out.now c.if-wrapped.true c.requires.wires_in_bounds).fits

pub returns-then-wrapped-clause-wrote : goal.returns-then-wrapped-clause-wrote
returns-then-wrapped-clause-wrote c =
    let a = c.args in
    all_written (wrap_left a.wrapped a.wires a.writer.now.at a.writer.now.out.now c.if-wrapped.true c.requires.wires_in_bounds) c.put_last.ensures.wrote

pub returns-else-wrapped-clause-wrote : goal.returns-else-wrapped-clause-wrote
returns-else-wrapped-clause-wrote c =
    let a = c.args in
    wrote_same (not_wrapped a.wrapped a.wires c.if-wrapped.false) (wrote_nothing a.writer.now.at a.writer.now.out.now (omega arith))
