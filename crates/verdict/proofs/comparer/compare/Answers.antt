use Rattle.std.proofs.Common.{refl, sym, subst}
use Rattle.refusal.proofs.Outcomes.{then_refused}
use Rattle.refusal.proofs.Contracts.{first_refuses, second_refuses}
use Rattle.circuit.specs.File.{file_checks}
use Rattle.coefficients.proofs.Callers.{summarise_refuses}
use Rattle.verdict.specs.Judging.{compared_says}
use Rattle.std.specs.Prelude.{Err}
use Rattle.refusal.proofs.Contracts.{handed_on}
use Rattle.verdict.specs.Judging.{Compares}
use Rattle.verdict.proofs.Summing.{FileSums, file_sums, compare_judges}
use Rattle.verdict.proofs.comparer.compare.Goals as goal
use Rattle.verdict.proofs.comparer.compare.Goals.{After-summarise-2}

-- what is known once the first circuit is summed up
first_sums : (c : After-summarise-2) → FileSums 0 c.args.first.now c.summarise.new.row c.summarise.new.ends c.in_ok-wires.field-0.wires
first_sums c = file_sums 0 c.args.first.now _ _ c.summarise.result _ _ c.summarise.ensures c.empty-first_row.ensures refl c.in_ok-wires.field-0 c.in_ok-wires.was

pub returns-in_err-wires : goal.returns-in_err-wires
returns-in_err-wires c =
    let a = c.args in
    let f = a.first.now in
    let g = a.second.now in
    subst (λ r. Compares f g a.work.now r a.work.now) (sym (handed_on c.from_residual.ensures.1))
    (first_refuses compared_says (file_checks 0 f) _ _ _ a.work.now (Err _) _ refl (summarise_refuses 0 f _ _ c.summarise.result _ _ c.summarise.ensures _ c.in_err-wires.was).refuses)

pub invariant_of-judge_summaries : goal.invariant_of-judge_summaries
invariant_of-judge_summaries c = record { holds = (first_sums (goal.at.invariant_of-judge_summaries c).After-summarise-2).holds }

pub invariant_of-judge_summaries-2 : goal.invariant_of-judge_summaries-2
invariant_of-judge_summaries-2 c =
    let second = file_sums _ c.args.second.now _ _ c.summarise-2.result _ _ c.summarise-2.ensures c.empty-second_row.ensures refl c.in_ok-width.field-0 c.in_ok-width.was in
    record { holds = second.holds }

pub returns-in_err-width : goal.returns-in_err-width
returns-in_err-width c =
    let a = c.args in
    let f = a.first.now in
    let g = a.second.now in
    let first = first_sums (goal.at.returns-in_err-width c).After-summarise-2 in
    subst (λ r. Compares f g a.work.now r a.work.now) (sym (handed_on c.from_residual-in_err-width.ensures.1))
    (second_refuses compared_says (file_checks 0 f) _ _ _ a.work.now first.good (Err _) _ refl
    (then_refused (file_checks 1 g) _ _ (summarise_refuses 1 g _ _ c.summarise-2.result _ _ c.summarise-2.ensures _ c.in_err-width.was).refuses))

pub returns : goal.returns
returns c =
    let a = c.args in
    let first = first_sums (goal.at.returns c).After-summarise-2 in
    let second = file_sums 1 a.second.now _ _ c.summarise-2.result _ _ c.summarise-2.ensures c.empty-second_row.ensures refl c.in_ok-width.field-0 c.in_ok-width.was in
    compare_judges a.first.now _ _ a.work.now c.in_ok-wires.field-0.wires first (λ i. (c.type_inv.first i).fits) c.in_ok-width.field-0.wires _ _ c.judge_summaries.result _ c.judge_summaries.ensures
    a.second.now second (λ i. (c.type_inv.second i).fits)
