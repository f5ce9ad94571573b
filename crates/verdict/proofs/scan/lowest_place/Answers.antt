use Rattle.std.proofs.Common.{ℕ, ap, ◌∙◌, arith}
use Rattle.numbers.specs.Search.{least}
use Rattle.numbers.specs.Working.{unlike}
use Rattle.numbers.proofs.Powers.{small_power}
use Rattle.coefficients.specs.Working.{entry}
use Rattle.verdict.specs.Working.{summary}
use Rattle.verdict.proofs.Judging.{found_within, place_first, start_first}
use Rattle.verdict.proofs.scan.lowest_place.Goals as goal

pub overflow_shl-start : goal.overflow_shl-start
overflow_shl-start c = omega (arith, c.args.first.now.holds.few, found_within _ _ c.first_unlike-listed.ensures)

pub returns-then-place-start : goal.returns-then-place-start
returns-then-place-start c =
    let x = c.args.first.now in
    let y = c.args.second.now in
    let size = small_power x.wires c.power.result x.holds.few c.power.ensures in
    let place = c.first_unlike-place.ensures ∙ ap (λ (n : ℕ). least (unlike (entry x.row.now) (entry y.row.now)) n 0) size in
    place_first x.wires (summary x.row.now x.ends.now) (summary y.row.now y.ends.now) c.first_unlike-place.result _ x.holds.few place c.if-place-start.true (omega (arith, c.first_unlike-listed.ensures))

pub returns-else-place-start : goal.returns-else-place-start
returns-else-place-start c =
    let x = c.args.first.now in
    let y = c.args.second.now in
    let size = small_power x.wires c.power.result x.holds.few c.power.ensures in
    let place = c.first_unlike-place.ensures ∙ ap (λ (n : ℕ). least (unlike (entry x.row.now) (entry y.row.now)) n 0) size in
    start_first x.wires (summary x.row.now x.ends.now) (summary y.row.now y.ends.now) c.first_unlike-place.result _ x.holds.few place c.if-place-start.false (omega (arith, c.first_unlike-listed.ensures))
