use Rattle.std.proofs.Common.{◌≡◌, MatchResult, sym, subst}
use Rattle.refusal.specs.Checks.{outcome, refused}
use Rattle.refusal.proofs.Passed.{passed_fail}
use Rattle.refusal.proofs.Contracts.{handed_on}
use Rattle.circuit.specs.File.{file_checks}
use Rattle.circuit.proofs.Callers.{read_answers, read_refuses, passes_anywhere}
use Rattle.circuit.proofs.file.Circuit.read.Goals as goal

pub returns-in_err-read_side : goal.returns-in_err-read_side
returns-in_err-read_side c =
    let a = c.args in
    let r = read_refuses a.side a.file.now c.read_side.result c.read_side.ensures _ c.in_err-read_side.was in
    subst (λ q. MatchResult q (λ i. i.file.now ≡ a.file.now) (λ x. outcome (file_checks a.side a.file.now) ≡ refused x)) (sym (handed_on c.from_residual.ensures.1)) r

pub invariant_of-result : goal.invariant_of-result
invariant_of-result c =
    let a = c.args in
    let h = read_answers a.side a.file.now c.read_side.result c.read_side.ensures _ c.in_ok-read_side.was in
    record { bytes = λ j. (c.type_inv.file j).fits; good = passed_fail (file_checks 0 a.file.now) (passes_anywhere a.side 0 a.file.now h.passes) }
