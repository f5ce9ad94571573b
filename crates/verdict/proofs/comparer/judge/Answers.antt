use Rattle.std.proofs.Common.{◌+◌, refl, sym, subst, arith}
use Rattle.refusal.proofs.Outcomes.{then_refused}
use Rattle.refusal.proofs.Contracts.{first_refuses, second_refuses}
use Rattle.table.specs.Table.{table_checks}
use Rattle.circuit.specs.File.{file_checks}
use Rattle.coefficients.proofs.Callers.{summarise_refuses, ideal_refuses}
use Rattle.verdict.specs.Judging.{compared_says}
use Rattle.std.specs.Prelude.{Err}
use Rattle.refusal.proofs.Contracts.{handed_on}
use Rattle.verdict.specs.Judging.{Judges}
use Rattle.verdict.proofs.Summing.{TableSums, file_sums, table_sums, judge_judges}
use Rattle.verdict.proofs.comparer.judge.Goals as goal
use Rattle.verdict.proofs.comparer.judge.Goals.{After-summarise}

-- what is known once the table is summed up
ideal_sums : (c : After-summarise) → TableSums c.args.n c.args.table.now c.summarise_ideal.new.row c.summarise_ideal.new.ends
ideal_sums c = table_sums c.args.n c.args.table.now _ _ c.summarise_ideal.result _ _ c.summarise_ideal.ensures c.empty-ideal_row.ensures refl c.in_ok-summarise_ideal.was

pub returns-in_err-summarise_ideal : goal.returns-in_err-summarise_ideal
returns-in_err-summarise_ideal c =
    let a = c.args in
    let f = a.file.now in
    let t = a.table.now in
    subst (λ r. Judges a.n t f a.work.now r a.work.now) (sym (handed_on c.from_residual.ensures.1))
    (first_refuses compared_says (table_checks a.n t) _ _ _ a.work.now (Err _) _ refl
    (ideal_refuses a.n t _ _ c.summarise_ideal.result _ _ c.summarise_ideal.ensures _ c.in_err-summarise_ideal.was).refuses)

pub returns-in_err-wires : goal.returns-in_err-wires
returns-in_err-wires c =
    let a = c.args in
    let f = a.file.now in
    let t = a.table.now in
    let table = ideal_sums (goal.at.returns-in_err-wires c).After-summarise in
    subst (λ r. Judges a.n t f a.work.now r a.work.now) (sym (handed_on c.from_residual-in_err-wires.ensures.1))
    (second_refuses compared_says (table_checks a.n t) _ _ _ a.work.now table.good (Err _) _ refl
    (then_refused (file_checks 0 f) _ _ (summarise_refuses 0 f _ _ c.summarise.result _ _ c.summarise.ensures _ c.in_err-wires.was).refuses))

pub overflow_add-n : goal.overflow_add-n
overflow_add-n c =
    let table = ideal_sums (goal.at.overflow_add-n c).After-summarise in
    omega (arith, table.holds.few)

pub invariant_of-judge_summaries : goal.invariant_of-judge_summaries
invariant_of-judge_summaries c =
    let file = file_sums _ c.args.file.now _ _ c.summarise.result _ _ c.summarise.ensures c.empty-row.ensures refl c.in_ok-wires.field-0 c.in_ok-wires.was in
    record { holds = file.holds }

pub invariant_of-judge_summaries-2 : goal.invariant_of-judge_summaries-2
invariant_of-judge_summaries-2 c =
    let table = ideal_sums (goal.at.invariant_of-judge_summaries-2 c).After-summarise in
    record { holds = table.holds }

pub returns : goal.returns
returns c =
    let a = c.args in
    let table = ideal_sums (goal.at.returns c).After-summarise in
    let file = file_sums 0 a.file.now _ _ c.summarise.result _ _ c.summarise.ensures c.empty-row.ensures refl c.in_ok-wires.field-0 c.in_ok-wires.was in
    judge_judges a.file.now _ _ a.work.now c.in_ok-wires.field-0.wires file (λ i. (c.type_inv.file i).fits) (a.n + 1) _ _ c.judge_summaries.result _ c.judge_summaries.ensures a.n a.table.now refl table
