-- The table passed, so n is at most 8: power's answer is 2^n, both halves fit the row, and the row is the ideal's.
use Rattle.std.proofs.Common.{◌≡◌, ℕ, ◌+◌, ◌-◌, ◌^◌, ◌≤◌, List, length, sym, refl, ap, ◌∙◌, arith, length-take-le, pow_mono}
use borrow.Rule.Slice.PartMut.{mid_len}
use Rattle.numbers.proofs.Powers.{small_power}
use Rattle.table.specs.Table.{value_at, checked_says}
use Rattle.table.proofs.Callers.{check_answers, good_variables}
use Rattle.circuit.specs.Bytes.{put_at}
use Rattle.coefficients.proofs.Turning.{ideal_row, some_starts}
use Rattle.coefficients.proofs.Answers.{sums_passed}
use Rattle.coefficients.proofs.ideal.summarise_ideal.Goals as goal
use Rattle.coefficients.proofs.ideal.summarise_ideal.Goals.{After-power-half}

few : (c : After-power-half) → c.args.n ≤ 8
few c = (good_variables c.args.n c.args.table.now (check_answers c.args.n c.args.table.now c.check.result c.check.ensures c.in_ok-check.was)).1

half_is : (c : After-power-half) → c.power-half.result ≡ 2 ^ c.args.n
half_is c = small_power c.args.n c.power-half.result (omega (arith, few c)) c.power-half.ensures

fits : (c : After-power-half) → c.power-half.result + c.power-half.result ≤ 512
fits c = omega (arith, half_is c, pow_mono {i = c.args.n} {j = 8} (few c))

pub overflow_add-size : goal.overflow_add-size
overflow_add-size c = omega (arith, fits (goal.at.overflow_add-size c).After-power-half)

pub offset_bounds-ideal-half : goal.offset_bounds-ideal-half
offset_bounds-ideal-half c = omega (arith, fits (goal.at.offset_bounds-ideal-half c).After-power-half)

pub slice_bounds-ideal-end : goal.slice_bounds-ideal-end
slice_bounds-ideal-end c = omega (arith, fits (goal.at.slice_bounds-ideal-end c).After-power-half, ap length c.empty-ideal.ensures)

pub put_ideal-requires : goal.put_ideal-requires
put_ideal-requires c =
    let h = c.power-half.result in
    let h512 = fits (goal.at.put_ideal-requires c).After-power-half in
    omega (arith, h512, mid_len h (h + h) c.empty-ideal.result (omega (arith, h512, ap length c.empty-ideal.ensures)))

pub slice_bounds-starts-end : goal.slice_bounds-starts-end
slice_bounds-starts-end c = omega (arith, few (goal.at.slice_bounds-starts-end c).After-power-half, ap length c.listed_starts-starts.ensures)

pub slice_bounds-put-end-2 : goal.slice_bounds-put-end-2
slice_bounds-put-end-2 c =
    sym (length-take-le (c.args.n + 2) c.listed_starts-starts.result (omega (arith, few (goal.at.slice_bounds-put-end-2 c).After-power-half, ap length c.listed_starts-starts.ensures)))

pub returns : goal.returns
returns c =
    let a = c.args in
    let h = c.power-half.result in
    let row = c.empty-ideal in
    let p = (goal.at.returns c).After-power-half in
    let twice : h + h - h ≡ h = omega arith in
    -- the sets with wire n
    let sums = c.put_ideal.ensures a.n (mid_len h (h + h) row.result (omega (arith, fits p, ap length row.ensures)) ∙ twice ∙ half_is p) in
    sums_passed checked_says _ _ _ _ a.row.now a.ends.now _ _ _ refl (check_answers a.n a.table.now c.check.result c.check.ensures c.in_ok-check.was)
    (c.put.ensures ∙ ap (λ (v : List ℕ). put_at v 0 a.row.now) (ideal_row a.n h (half_is p) (value_at a.table.now) row.result c.put_ideal.new.v row.ensures (omega (arith, fits p)) sums))
    (c.put-2.ensures ∙ ap (λ (v : List ℕ). put_at v 0 a.ends.now) (some_starts c.listed_starts-starts.result (a.n + 2) c.listed_starts-starts.ensures (omega (arith, few p))))
