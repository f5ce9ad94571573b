-- What an operation answers for the bytes that were read is its answer for the whole input.
use Prim.Native.Nat.{ℕ, ◌+◌, ◌^◌}
use mathlib.Core.Bool.{Bool}
use mathlib.Core.List.{List, [], ◌∷◌, ◌++◌}
use lib.ListN.{length, take}
use lib.IntN.{ℤ}
use Rattle.refusal.specs.Names.{refusal, STATE}
use Rattle.refusal.specs.Checks.{check, at_least, room_check}
use Rattle.refusal.specs.Contract.{Says}
use Rattle.refusal.proofs.Cuts.{carried, says_whole, meets_whole}
use Rattle.table.specs.Table.{table_checks, value_at}
use Rattle.table.proofs.Cuts.{table_cut, table_whole}
use Rattle.std.specs.Prelude.{Result}
use Rattle.refusal.specs.declared.Refusal.{Refusal}
use Rattle.circuit.specs.declared.Header.{Header}
use Rattle.running.specs.declared.Ran.{Ran}
use Rattle.running.specs.declared.Counted.{Counted}
use Rattle.fold.specs.declared.Folded.{Folded}
use Rattle.verdict.specs.declared.Verdict.{Verdict}
use Rattle.circuit.specs.File.{wires_of, count_of, gates_of, file_checks, reading_says, Reads}
use Rattle.circuit.proofs.Cuts.{file_cut, file_whole}
use Rattle.spectrum.specs.Spectrum.{transformed_says, spectrum_of, Transforms}
use Rattle.build.specs.Construction.{built_says, built_file, Builds}
use Rattle.running.specs.Run.{ran_says, counted_says, end_from, phase_from, cnots, phases, score, inverters, Runs, Counts}
use Rattle.fold.specs.Fold.{folded_file, folded_says, Folds}
use Rattle.fold.proofs.Callers.{fold_values}
use Rattle.listing.specs.Listing.{listing_of_file, loose_check, listed_says, Lists}
use Rattle.coefficients.specs.Coefficients.{coefficient, ideal_coefficient}
use Rattle.verdict.specs.Verdicts.{circuit, ideal, verdict, differences}
use Rattle.verdict.specs.Judging.{verdict_values, compared_says, work_checks, Compares, Judges}

-- tables
module _ (n : ℕ) (t : List ℕ) where
  pub spectrum_whole : (out : List ℤ) (a : Result ℕ Refusal) (left : List ℤ) → Transforms n (take 33 t) out a left → Transforms n t out a left
  spectrum_whole out a left =
      meets_whole (table_checks n) (take 33 t) t (table_cut n t) (table_whole n t) [] (λ u. room_check (length out) (2 ^ n)) transformed_says (λ u. 2 ^ n ∷ []) a (spectrum_of n) out left

  pub build_whole : (out : List ℕ) (a : Result ℕ Refusal) (left : List ℕ) → Builds n (take 33 t) out a left → Builds n t out a left
  build_whole out a left =
      meets_whole (table_checks n) (take 33 t) t (table_cut n t) (table_whole n t) [] (λ u. room_check (length out) (2 ^ (n + 4))) built_says (λ u. 2 ^ (n + 4) ∷ []) a (built_file n) out left

-- files
module _ (f : List ℕ) where
  pub read_whole : (a : Result Header Refusal) → Reads (take 8201 f) a → Reads f a
  read_whole a =
      carried (file_checks 0) (take 8201 f) f (file_cut 0 f) (file_whole 0 f) (λ o g. Says reading_says o (wires_of g ∷ count_of g ∷ []) a) (λ r x. x)

  pub count_whole : (a : Result Counted Refusal) → Counts (take 8201 f) a → Counts f a
  count_whole a =
      carried (file_checks 0) (take 8201 f) f (file_cut 0 f) (file_whole 0 f) (λ o g. Says counted_says o (cnots (gates_of g) ∷ phases (gates_of g) ∷ score (gates_of g) ∷ inverters (gates_of g) ∷ []) a) (λ r x. x)

  pub run_whole : (start : ℕ) (a : Result Ran Refusal) → Runs (take 8201 f) start a → Runs f start a
  run_whole start a =
      says_whole (file_checks 0) (take 8201 f) f (file_cut 0 f) (file_whole 0 f) [] (λ g. check (at_least start (2 ^ wires_of g)) (refusal STATE) ∷ [])
      ran_says (λ g. end_from (gates_of g) start ∷ phase_from (gates_of g) start ∷ []) a

  pub fold_whole : (out : List ℕ) (a : Result Folded Refusal) (left : List ℕ) → Folds (take 8201 f) out a left → Folds f out a left
  fold_whole out a left =
      meets_whole (file_checks 0) (take 8201 f) f (file_cut 0 f) (file_whole 0 f) [] (λ g. room_check (length out) (length (folded_file g)))
      folded_says fold_values a folded_file out left

  pub list_whole : (wrapped : Bool) (out : List ℕ) (a : Result ℕ Refusal) (left : List ℕ) → Lists wrapped (take 8201 f) out a left → Lists wrapped f out a left
  list_whole wrapped out a left =
      meets_whole (file_checks 0) (take 8201 f) f (file_cut 0 f) (file_whole 0 f) []
      (λ g. loose_check wrapped (wires_of g) (gates_of g) ++ room_check (length out) (length (listing_of_file wrapped g)))
      listed_says (λ g. length (listing_of_file wrapped g) ∷ []) a (listing_of_file wrapped) out left

-- two inputs, one after the other
pub compare_whole : (f g work : List ℕ) (a : Result Verdict Refusal) (left : List ℕ) → Compares (take 8201 f) (take 8201 g) work a left → Compares f g work a left
compare_whole f g work a left m =
    meets_whole (file_checks 1) (take 8201 g) g (file_cut 1 g) (file_whole 1 g) (file_checks 0 f) (λ h. work_checks (wires_of f) (wires_of h) (length work))
    compared_says (λ h. verdict_values (verdict (wires_of f) (circuit (gates_of f)) (circuit (gates_of h)))) a
    (λ h. differences (wires_of f) (coefficient (wires_of f) (gates_of f)) (coefficient (wires_of f) (gates_of h))) work left
    (meets_whole (file_checks 0) (take 8201 f) f (file_cut 0 f) (file_whole 0 f) [] (λ h. file_checks 1 (take 8201 g) ++ work_checks (wires_of h) (wires_of (take 8201 g)) (length work))
    compared_says (λ h. verdict_values (verdict (wires_of h) (circuit (gates_of h)) (circuit (gates_of (take 8201 g))))) a
    (λ h. differences (wires_of h) (coefficient (wires_of h) (gates_of h)) (coefficient (wires_of h) (gates_of (take 8201 g)))) work left m)

pub judge_whole : (n : ℕ) (t f work : List ℕ) (a : Result Verdict Refusal) (left : List ℕ) → Judges n (take 33 t) (take 8201 f) work a left → Judges n t f work a left
judge_whole n t f work a left m =
    meets_whole (file_checks 0) (take 8201 f) f (file_cut 0 f) (file_whole 0 f) (table_checks n t) (λ h. work_checks (wires_of h) (n + 1) (length work))
    compared_says (λ h. verdict_values (verdict (wires_of h) (circuit (gates_of h)) (ideal n (value_at t)))) a
    (λ h. differences (wires_of h) (coefficient (wires_of h) (gates_of h)) (ideal_coefficient n (value_at t))) work left
    (meets_whole (table_checks n) (take 33 t) t (table_cut n t) (table_whole n t) [] (λ u. file_checks 0 (take 8201 f) ++ work_checks (wires_of (take 8201 f)) (n + 1) (length work))
    compared_says (λ u. verdict_values (verdict (wires_of (take 8201 f)) (circuit (gates_of (take 8201 f))) (ideal n (value_at u)))) a
    (λ u. differences (wires_of (take 8201 f)) (coefficient (wires_of (take 8201 f)) (gates_of (take 8201 f))) (ideal_coefficient n (value_at u))) work left m)
