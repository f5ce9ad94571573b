use Rattle.std.proofs.Common.{◌*◌, ap, ◌∙◌, arith}
use Rattle.numbers.specs.Bits.{bit}
use Rattle.coefficients.specs.Working.{entry}
use Rattle.verdict.proofs.Judging.{end_starts, end_next, own_end}
use Rattle.verdict.proofs.scan.end_at.Goals as goal

pub loop-wire-init : goal.loop-wire-init
loop-wire-init c = let a = c.args in
    end_starts (entry a.side.now.ends.now) a.state c.where_set-end.result c.where_set-end.ensures

pub loop-wire-preserved : goal.loop-wire-preserved
loop-wire-preserved c = let l = c.loop-wire in
    let a = c.args in
    let r = c.where_set-end-in-loop-wire in
    end_next (entry a.side.now.ends.now) a.state l.end l.wire r.result l.invariant
    (r.ensures ∙ ap (bit a.state l.wire *◌) (own_end a.side.now.ends.now a.side.now.wires l.wire (omega (arith, a.side.now.holds.starts, c.loop-wire-test.true))))
