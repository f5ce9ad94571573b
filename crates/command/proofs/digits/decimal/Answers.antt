use Rattle.std.proofs.Common.{◌<◌, length, arith, sym, ◌∙◌}
use Rattle.std.proofs.lemmas.Bool.Decides.{nat_tests}
use Rattle.command.proofs.Scans.{number_goes_on, number_ends, number_ended, a_number}
use Rattle.command.proofs.digits.decimal.Goals as goal

pub returns-in_err-value : goal.returns-in_err-value
returns-in_err-value c =
    let l = c.loop-b in
    let s = c.args.text.now in
    c.from_residual.ensures ∙ number_ends s l.b-index c.loop-b-test.true l.value (sym c.longer.ensures ∙ c.in_err-value.was) ∙ l.invariant.1 ∙ a_number s (omega arith)

pub loop-b-preserved : goal.loop-b-preserved
loop-b-preserved c =
    let l = c.loop-b in
    let on = number_goes_on c.args.text.now l.b-index c.loop-b-test.true l.value c.in_ok-value.value (sym c.longer.ensures ∙ c.in_ok-value.was) in
    (on.0, on.1 ∙ l.invariant.1)

pub returns : goal.returns
returns c =
    let l = c.loop-b in
    let s = c.args.text.now in
    let some : 0 < length s = grind (arith, nat_tests, c.if-is_empty.ensures) in
    sym (number_ended l.value s l.b-index l.invariant.0 c.loop-b-test.false) ∙ l.invariant.1 ∙ a_number s some
