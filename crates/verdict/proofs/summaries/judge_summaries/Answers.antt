use Rattle.std.proofs.Common.{ℕ, ◌^◌, ◌++◌, drop, sym, ap, ap₂, ◌∙◌, arith, length-take-le}
use Rattle.numbers.specs.Sums.{list}
use Rattle.numbers.proofs.Lists.{length-list}
use Rattle.numbers.proofs.Powers.{small_power}
use Rattle.verdict.specs.Verdicts.{differences}
use Rattle.verdict.specs.Judging.{verdict_values}
use Rattle.verdict.proofs.Answers.{wires_refused, work_refused, work_enough}
use Rattle.verdict.proofs.Judging.{less}
use Rattle.verdict.proofs.summaries.judge_summaries.Goals as goal

pub returns-then-first-second : goal.returns-then-first-second
returns-then-first-second c =
    let x = c.args.first.now in
    let y = c.args.second.now in
    wires_refused x.wires y.wires _ _ c.args.work.now (omega (arith, c.if-first-second.true)) c.into.result c.into.ensures

pub returns-then-work-size : goal.returns-then-work-size
returns-then-work-size c =
    let x = c.args.first.now in
    let y = c.args.second.now in
    let size = small_power x.wires c.power-size.result x.holds.few c.power-size.ensures in
    work_refused x.wires y.wires _ _ c.args.work.now (omega (arith, c.if-first-second.false)) (omega (arith, size, c.if-work-size.true)) c.into-then-work-size.result c.into-then-work-size.ensures

pub returns : goal.returns
unfolding differences
returns c =
    let x = c.args.first.now in
    let y = c.args.second.now in
    let work = c.args.work.now in
    let size = small_power x.wires c.power-size.result x.holds.few c.power-size.ensures in
    let enough = length-take-le c.power-size.result work c.if-work-size.false in
    work_enough x.wires y.wires _ (list (2 ^ x.wires) (less x.row.now y.row.now)) work (omega (arith, c.if-first-second.false))
    (omega (arith, size, c.if-work-size.false)) c.scan.result (ap verdict_values c.scan.ensures) _
    (ap₂ ◌++◌ (c.subtract.ensures ∙ ap (λ (n : ℕ). list n (less x.row.now y.row.now)) (enough ∙ size)) (ap (λ (n : ℕ). drop n work) (size ∙ sym (length-list (2 ^ x.wires) (less x.row.now y.row.now)))))
