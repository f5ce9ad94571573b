use Rattle.std.proofs.Common.{sym, ap, ◌∙◌, ◌&&◌, ltb, length, length-set, arith}
use borrow.Author.Tests.{lt-ltb, ltb-true}
use Rattle.circuit.specs.Working.{said_at}
use Rattle.circuit.proofs.Callers.{good_circuit}
use Rattle.cancel.specs.Working.{stack, meets}
use Rattle.cancel.proofs.Passing.{stack_front, pass_keeps, pass_goes, pass_done, passing_same, both, not_both}
use Rattle.cancel.proofs.pass.pass.Goals as goal
use Rattle.cancel.proofs.pass.pass.Goals.{then-goes, else-goes}

pub loop-i-preserved : goal.loop-i-preserved
loop-i-preserved c =
    let f = c.args.circuit.now.file.now in
    let most = c.args.most in
    let at = c.loop-i in
    let good = good_circuit c.args.circuit.now.good in
    let allowed = ltb at.pairs most in
    let met = meets (stack f at.row at.kept) (said_at f at.i) in
    let asked = c.goes.ensures ∙ ap (λ k. allowed && meets k (said_at f at.i)) (stack_front f at.row at.kept (omega (arith, at.invariant.0.count, at.invariant.1, c.requires, c.gate_count-i-end.ensures))) in
    elim c.if-goes.branch [
      | then-goes w ↦
          let q = both allowed met (sym asked ∙ w.if-goes.true) in
          (passing_same w.row-is w.kept-is w.pairs-is (pass_goes f c.args.circuit.now.bytes good most at.row at.kept at.pairs at.i at.invariant.0 (omega (arith, c.gate_count-i-end.ensures)) (ltb-true _ _ q.0) q.1).1, ap length w.row-is ∙ at.invariant.1)
      | else-goes w ↦ (
        passing_same w.row-is w.kept-is w.pairs-is
            (pass_keeps f c.args.circuit.now.bytes good most at.row at.kept at.pairs at.i at.invariant.0 (omega (arith, c.gate_count-i-end.ensures)) (omega (arith, at.invariant.0.count, at.invariant.1, c.requires))
            (λ l. not_both allowed met (sym asked ∙ w.if-goes.false) (lt-ltb _ _ l))),
        ap length w.row-is ∙ length-set at.row at.kept at.i ∙ at.invariant.1,
      )
    ]

pub returns : goal.returns
returns c =
    let f = c.args.circuit.now.file.now in
    let at = c.loop-i in
    pass_done f c.args.circuit.now.bytes (good_circuit c.args.circuit.now.good) c.args.most at.row at.kept at.pairs at.i at.invariant.0 (omega (arith, c.gate_count-i-end.ensures))
