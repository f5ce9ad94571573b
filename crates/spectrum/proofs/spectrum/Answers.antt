use Rattle.std.proofs.Common.{◌≡◌, ◌^◌, ◌≤◌, sym, subst, ◌∙◌, arith}
use Rattle.refusal.specs.Checks.{passed, outcome}
use Rattle.numbers.proofs.Powers.{power_fits}
use Rattle.table.specs.Table.{table_checks}
use Rattle.table.proofs.Callers.{check_answers, check_refuses, good_variables}
use Rattle.refusal.proofs.Contracts.{handed_on}
use Rattle.spectrum.specs.Spectrum.{Transforms}
use Rattle.spectrum.proofs.Spectra.{Signs, signs_tame, leaves_spectrum}
use Rattle.spectrum.proofs.Answers.{table_fails, room_fails, answered}
use Rattle.spectrum.proofs.spectrum.Goals as goal
use Rattle.spectrum.proofs.spectrum.Goals.{After-power-entries}

-- the table is good, so its variables are few, and power's answer is 2^n
good : (c : After-power-entries) → outcome (table_checks c.args.n c.args.table.now) ≡ passed
good c = check_answers c.args.n c.args.table.now c.check.result c.check.ensures c.in_ok-check.was

small : (c : After-power-entries) → c.args.n ≤ 8
small c = (good_variables c.args.n c.args.table.now (good c)).1

entries : (c : After-power-entries) → c.power-entries.result ≡ 2 ^ c.args.n
entries c = c.power-entries.ensures ∙ power_fits (omega (arith, small c))

pub returns-in_err-check : goal.returns-in_err-check
returns-in_err-check c =
    let a = c.args in
    subst (λ r. Transforms a.n a.table.now a.out.now r a.out.now) (sym (handed_on c.from_residual.ensures.1))
    (table_fails a.n a.table.now a.out.now _ (check_refuses a.n a.table.now c.check.result c.check.ensures _ c.in_err-check.was))

pub returns-then-out-entries : goal.returns-then-out-entries
returns-then-out-entries c =
    let a = c.args in
    let p = (goal.at.returns-then-out-entries c).After-power-entries in
    room_fails a.n a.table.now a.out.now (good p) (omega (arith, entries p)) c.into.result c.into.ensures

pub transform-requires : goal.transform-requires
transform-requires c =
    let a = c.args in
    let p = (goal.at.transform-requires c).After-power-entries in
    let written : Signs a.n a.table.now a.out.now c.write_signs.new.out c.power-entries.result = record { small = small p; count = entries p; fits = omega arith; each = c.write_signs.ensures } in
    signs_tame written

pub returns : goal.returns
returns c =
    let a = c.args in
    let p = (goal.at.returns c).After-power-entries in
    let written : Signs a.n a.table.now a.out.now c.write_signs.new.out c.power-entries.result = record { small = small p; count = entries p; fits = omega arith; each = c.write_signs.ensures } in
    answered a.n a.table.now a.out.now (good p) (omega (arith, entries p)) c.power-entries.result (entries p) _ (leaves_spectrum written c.transform.new.row c.transform.ensures)
