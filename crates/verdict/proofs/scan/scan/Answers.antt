use Rattle.std.proofs.Common.{rules, ℕ, sym, ap, ◌∙◌, arith}
use Rattle.numbers.proofs.Powers.{small_power}
use Rattle.coefficients.specs.Working.{entry}
use Rattle.verdict.specs.Working.{summary, end_of}
use Rattle.verdict.proofs.Judging.{judged_different, judged_same, wrapped_less}
use Rattle.verdict.proofs.scan.scan.Goals as goal

pub returns-then-state-power : goal.returns-then-state-power
returns-then-state-power c =
    let x = c.args.first.now in
    let y = c.args.second.now in
    let p = c.lowest_place-state in
    let size = small_power x.wires c.power.result x.holds.few c.power.ensures in
    judged_different x.wires (summary x.row.now x.ends.now) (summary y.row.now y.ends.now) p.result p.ensures
    c.end_at.result c.end_at-then-state-power.result _ (omega (arith, c.if-state-power.true, size)) c.end_at.ensures
    (c.end_at-then-state-power.ensures ∙ ap (λ (w : ℕ). end_of w (entry y.ends.now) p.result) (sym c.requires))
    (wrapped_less (entry x.row.now p.result) (entry y.row.now p.result) (search rules))

pub returns : goal.returns
returns c =
    let x = c.args.first.now in
    let y = c.args.second.now in
    let p = c.lowest_place-state in
    let size = small_power x.wires c.power.result x.holds.few c.power.ensures in
    judged_same x.wires (summary x.row.now x.ends.now) (summary y.row.now y.ends.now) p.result p.ensures (omega (arith, c.if-state-power.false, size))
