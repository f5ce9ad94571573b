-- The first demand: "Every entry point takes every input of its kind and finishes with an answer or a numbered refusal. A refusal is given when document 01 says and at no other time, and
-- every lent buffer then holds what it held before." Once for all contracts of the common shape, then for each public operation.
use Prim.Native.Nat.{ℕ}
use mathlib.Core.Path.{◌≡◌, refl, sym, ap, ◌∙◌}
use mathlib.Core.Logic.{◌⊎◌, inl, inr}
use mathlib.Core.Bool.{Bool}
use mathlib.Core.List.{List, []}
use lib.ListN.{length}
use lib.IntN.{ℤ}
use Rattle.std.specs.Prelude.{Result}
use Rattle.refusal.specs.declared.Refusal.{Refusal}
use Rattle.refusal.specs.Checks.{Check, Outcome, passed, refused, outcome, settle, AllFail, room_check}
use Rattle.refusal.specs.Contract.{Said, values, said_of, Says, Meets}
use Rattle.refusal.proofs.Passed.{passed_fail, fail_passed}
use Rattle.refusal.proofs.Contracts.{says_refused, says_values, said_refused}
use Rattle.running.specs.declared.Ran.{Ran}
use Rattle.running.specs.declared.Counted.{Counted}
use Rattle.table.specs.Table.{table_checks, checked_says, Checks}
use Rattle.spectrum.specs.Spectrum.{spectrum_checks, transformed_says, Transforms}
use Rattle.circuit.specs.declared.Header.{Header}
use Rattle.circuit.specs.File.{file_checks, reading_says, ReadsSide, Reads}
use Rattle.running.specs.Run.{run_checks, ran_says, Runs, counted_says, Counts}
use Rattle.build.specs.Construction.{build_checks, built_says, Builds}
use Rattle.fold.specs.declared.Folded.{Folded}
use Rattle.fold.specs.Fold.{fold_checks, folded_says, Folds}
use Rattle.cancel.specs.declared.Cancelled.{Cancelled}
use Rattle.cancel.specs.Cancel.{cancel_checks, cancelled_says, Cancels}
use Rattle.verdict.specs.declared.Verdict.{Verdict}
use Rattle.verdict.specs.Judging.{compare_checks, judge_checks, compared_says, Compares, Judges}
use Rattle.listing.specs.Listing.{list_checks, listed_says, Lists, Writes}
use Rattle.oracle_listing.specs.Oracle.{oracle_checks, ListsOracle, printout, Prints}
use Rattle.promises.specs.Demands.{Answers, Refuses, FirstDemand}

module _ {Answer : Type 0} (said : Answer → Said) (checks : List Check) (vs : List ℕ) (answer : Answer) (says : Says said (outcome checks) vs answer) where
  finishes : (o : Outcome) → said answer ≡ settle o said_of (values vs) → Answers said answer ⊎ Refuses said answer
  finishes passed e = inl (vs, e)
  finishes (refused r) e = inr (r, e)

  refused_only : (r : Refusal) → said answer ≡ said_of r → outcome checks ≡ refused r
  refused_only r e = says_refused (outcome checks) vs r (sym e ∙ says)

  answers_where : AllFail checks → Answers said answer
  answers_where h = (vs, says ∙ ap (λ o. settle o said_of (values vs)) (fail_passed checks h))

  passes_where : Answers said answer → AllFail checks
  passes_where a = passed_fail checks (says_values (outcome checks) vs a.0 (sym a.1 ∙ says)).0

  module _ {Entry : Type 0} (before after : List Entry) (kept : (r : Refusal) → outcome checks ≡ refused r → after ≡ before) where
    demand : FirstDemand said checks before answer after
    demand = record {
      finishes = finishes (outcome checks) says;
      given = λ r e. says ∙ sym (said_refused (outcome checks) vs r e);
      only = refused_only;
      answers = answers_where;
      passes = passes_where;
      kept = λ r. kept r.0 (refused_only r.0 r.1);
    }

-- of an operation that is lent nothing
pub first_of_says : {Answer : Type 0} (said : Answer → Said) (checks : List Check) (vs : List ℕ) (answer : Answer) → Says said (outcome checks) vs answer → FirstDemand {Entry = ℕ} said checks [] answer []
first_of_says said checks vs answer says = demand said checks vs answer says [] [] (λ r e. refl)

-- of an operation that is lent a slice
pub first_of_meets : {Answer Entry : Type 0} (said : Answer → Said) (checks : List Check) (vs : List ℕ) (result before : List Entry) (answer : Answer) (after : List Entry)
    → Meets said (outcome checks) vs result before answer after → FirstDemand said checks before answer after
first_of_meets said checks vs result before answer after m =
    demand said checks vs answer m.says before after (λ r e. rw e at m.leaves)

-- ---- each public operation

pub check_first : (n : ℕ) (t : List ℕ) (a : Result (Unit {0}) Refusal) → Checks n t a → FirstDemand {Entry = ℕ} checked_says (table_checks n t) [] a []
check_first n t = first_of_says checked_says (table_checks n t) _

pub spectrum_first : (n : ℕ) (t : List ℕ) (out : List ℤ) (a : Result ℕ Refusal) (after : List ℤ) → Transforms n t out a after → FirstDemand transformed_says (spectrum_checks n t (length out)) out a after
spectrum_first n t out = first_of_meets transformed_says (spectrum_checks n t (length out)) _ _ out

pub side_read_first : (s : ℕ) (f : List ℕ) (a : Result Header Refusal) → ReadsSide s f a → FirstDemand {Entry = ℕ} reading_says (file_checks s f) [] a []
side_read_first s f = first_of_says reading_says (file_checks s f) _

pub read_first : (f : List ℕ) (a : Result Header Refusal) → Reads f a → FirstDemand {Entry = ℕ} reading_says (file_checks 0 f) [] a []
read_first = side_read_first 0

pub run_first : (f : List ℕ) (start : ℕ) (a : Result Ran Refusal) → Runs f start a → FirstDemand {Entry = ℕ} ran_says (run_checks f start) [] a []
run_first f start = first_of_says ran_says (run_checks f start) _

pub count_first : (f : List ℕ) (a : Result Counted Refusal) → Counts f a → FirstDemand {Entry = ℕ} counted_says (file_checks 0 f) [] a []
count_first f = first_of_says counted_says (file_checks 0 f) _

pub build_first : (n : ℕ) (t out : List ℕ) (a : Result ℕ Refusal) (after : List ℕ) → Builds n t out a after → FirstDemand built_says (build_checks n t (length out)) out a after
build_first n t out = first_of_meets built_says (build_checks n t (length out)) _ _ out

pub fold_first : (f out : List ℕ) (a : Result Folded Refusal) (after : List ℕ) → Folds f out a after → FirstDemand folded_says (fold_checks f (length out)) out a after
fold_first f out = first_of_meets folded_says (fold_checks f (length out)) _ _ out

pub cancel_first : (f : List ℕ) (most : ℕ) (out : List ℕ) (a : Result Cancelled Refusal) (after : List ℕ) → Cancels f most out a after → FirstDemand cancelled_says (cancel_checks f most (length out)) out a after
cancel_first f most out = first_of_meets cancelled_says (cancel_checks f most (length out)) _ _ out

pub compare_first : (f g work : List ℕ) (a : Result Verdict Refusal) (after : List ℕ) → Compares f g work a after → FirstDemand compared_says (compare_checks f g (length work)) work a after
compare_first f g work = first_of_meets compared_says (compare_checks f g (length work)) _ _ work

pub judge_first : (n : ℕ) (t f work : List ℕ) (a : Result Verdict Refusal) (after : List ℕ) → Judges n t f work a after → FirstDemand compared_says (judge_checks n t f (length work)) work a after
judge_first n t f work = first_of_meets compared_says (judge_checks n t f (length work)) _ _ work

pub list_first : (wrapped : Bool) (f out : List ℕ) (a : Result ℕ Refusal) (after : List ℕ) → Lists wrapped f out a after → FirstDemand listed_says (list_checks wrapped f (length out)) out a after
list_first wrapped f out = first_of_meets listed_says (list_checks wrapped f (length out)) _ _ out

pub oracle_first : (n : ℕ) (t out : List ℕ) (a : Result ℕ Refusal) (after : List ℕ) → ListsOracle n t out a after → FirstDemand listed_says (oracle_checks n t (length out)) out a after
oracle_first n t out = first_of_meets listed_says (oracle_checks n t (length out)) _ _ out

pub writing_first : (text out : List ℕ) (a : Result ℕ Refusal) (after : List ℕ) → Writes text out a after → FirstDemand listed_says (room_check (length out) (length text)) out a after
writing_first text out = first_of_meets listed_says (room_check (length out) (length text)) _ _ out

pub printout_first : (input out : List ℕ) (a : Result ℕ Refusal) (after : List ℕ) → Prints input out a after → FirstDemand listed_says (room_check (length out) (length (printout input))) out a after
printout_first input = writing_first (printout input)
