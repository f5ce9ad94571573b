-- The slices that are lent to sum up a side hold its summary, so that judging the two is comparing or judging.
use Rattle.std.proofs.Common.{◌≡◌, ℕ, suc, ◌+◌, ◌^◌, ◌≤◌, List, length, sym, ap, subst, subst₂, add-one, arith, pow_mono}
use Rattle.numbers.specs.Sums.{list}
use Rattle.numbers.proofs.Lists.{length-list}
use Rattle.refusal.specs.Checks.{passed, outcome}
use Rattle.std.specs.Prelude.{Result, Ok}
use Rattle.refusal.specs.declared.Refusal.{Refusal}
use Rattle.circuit.specs.declared.Header.{Header}
use Rattle.verdict.specs.declared.Verdict.{Verdict}
use Rattle.table.specs.Table.{table_checks, value_at}
use Rattle.table.proofs.Callers.{good_variables}
use Rattle.circuit.specs.Bytes.{Bytes, put_at}
use Rattle.circuit.specs.File.{wires_of, gates_of, file_checks}
use Rattle.circuit.proofs.Callers.{good_file, few_states}
use Rattle.circuit.proofs.Files.{file_sound}
use Rattle.circuit.proofs.Writing.{length-put}
use Rattle.running.specs.Run.{end_from}
use Rattle.running.specs.Masks.{most_masks}
use Rattle.coefficients.specs.Coefficients.{listed_start, most_starts, coefficient, ideal_coefficient}
use Rattle.coefficients.specs.Summaries.{Summarises, SummarisesIdeal}
use Rattle.coefficients.proofs.Callers.{summarise_answers, ideal_answers, put_entry}
use Rattle.verdict.specs.Verdicts.{circuit, ideal, verdict, differences}
use Rattle.verdict.specs.Judging.{verdict_values, Compares, Judges}
use Rattle.verdict.specs.Working.{summary, HoldsSummary, JudgesSummaries}
use Rattle.verdict.proofs.Sides.{circuit_summed, ideal_summed}
use Rattle.verdict.proofs.Judging.{Sums, judged_verdict, judged_differences}
use Rattle.verdict.proofs.Answers.{both_passed}

long : (n : ℕ) (f : ℕ → ℕ) (before after : List ℕ) → after ≡ put_at (list n f) 0 before → n ≤ length before → n ≤ length after
long n f before after e h = omega (arith, ap length e, length-put (list n f) 0 before (omega (arith, length-list n f)))

-- what is known of a file that passed
pub record FileSums (side : ℕ) (f row ends : List ℕ) (w : ℕ) : Type 0 where
  pub good : outcome (file_checks side f) ≡ passed
  pub wires : w ≡ wires_of f
  pub holds : HoldsSummary w row ends
  pub sums : Bytes f → Sums (wires_of f) (circuit (gates_of f)) (coefficient (wires_of f) (gates_of f)) (summary row ends)

pub file_sums : (side : ℕ) (f row₀ ends₀ : List ℕ) (answer : Result Header Refusal) (row ends : List ℕ) → Summarises side f row₀ ends₀ answer row ends → length row₀ ≡ most_masks → length ends₀ ≡ most_starts
    → (a : Header) → answer ≡ Ok a → FileSums side f row ends a.wires
file_sums side f row₀ ends₀ answer row ends s lr le a e =
    let v = summarise_answers side f row₀ ends₀ answer row ends s a e in
    let p = v.0.passes in
    let h = good_file side f p in
    let r : 2 ^ wires_of f ≤ length row₀ = omega (arith, few_states side f p) in
    let d : suc (wires_of f) ≤ length ends₀ = omega (arith, h.few) in
    record {
      good = p;
      wires = v.1;
      holds = subst (λ (n : ℕ). HoldsSummary n row ends) (sym v.1) (record {
        few = h.few;
        sets = long (2 ^ wires_of f) (coefficient (wires_of f) (gates_of f)) row₀ row v.0.row r;
        starts = long (suc (wires_of f)) (λ i. end_from (gates_of f) (listed_start i)) ends₀ ends v.0.ends d;
      });
      sums = λ bytes.
          record {
            summed = circuit_summed (wires_of f) (gates_of f) (file_sound f bytes h);
            sets = put_entry (2 ^ wires_of f) (coefficient (wires_of f) (gates_of f)) row₀ row v.0.row r;
            starts = put_entry (suc (wires_of f)) (λ i. end_from (gates_of f) (listed_start i)) ends₀ ends v.0.ends d;
          };
    }

-- and of a table that passed
pub record TableSums (n : ℕ) (t row ends : List ℕ) : Type 0 where
  pub good : outcome (table_checks n t) ≡ passed
  pub holds : HoldsSummary (n + 1) row ends
  pub sums : Sums (n + 1) (ideal n (value_at t)) (ideal_coefficient n (value_at t)) (summary row ends)

pub table_sums : (n : ℕ) (t row₀ ends₀ : List ℕ) (answer : Result (Unit {0}) Refusal) (row ends : List ℕ) → SummarisesIdeal n t row₀ ends₀ answer row ends → length row₀ ≡ most_masks → length ends₀ ≡ most_starts
    → answer ≡ Ok tt → TableSums n t row ends
table_sums n t row₀ ends₀ answer row ends s lr le e =
    let v = ideal_answers n t row₀ ends₀ answer row ends s e in
    let few = (good_variables n t v.passes).1 in
    let r : 2 ^ (n + 1) ≤ length row₀ = omega (arith, pow_mono {i = n + 1} {j = 10} (omega arith)) in
    let d : n + 2 ≤ length ends₀ = omega arith in
    record {
      good = v.passes;
      holds = record { few = omega arith; sets = long (2 ^ (n + 1)) (ideal_coefficient n (value_at t)) row₀ row v.row r; starts = omega (arith, long (n + 2) listed_start ends₀ ends v.ends d) };
      sums = record {
        summed = rw (add-one n) (ideal_summed n t);
        sets = put_entry (2 ^ (n + 1)) (ideal_coefficient n (value_at t)) row₀ row v.row r;
        starts = λ i k. put_entry (n + 2) listed_start ends₀ ends v.ends d i (omega arith);
      };
    }

-- both sides summed up and judged
module _ (f row ends work : List ℕ) (w : ℕ) (sf : FileSums 0 f row ends w) (bytes : Bytes f) (v : ℕ) (row₂ ends₂ : List ℕ) (answer : Result Verdict Refusal) (after : List ℕ)
    (j : JudgesSummaries w (summary row ends) v (summary row₂ ends₂) work answer after) where
  abbrev first : ℕ → ℕ
  first = coefficient (wires_of f) (gates_of f)

  pub compare_judges : (g : List ℕ) → FileSums 1 g row₂ ends₂ v → Bytes g → Compares f g work answer after
  compare_judges g sg b =
      let second = coefficient (wires_of f) (gates_of g) in
      both_passed (file_checks 0 f) (file_checks 1 g) (wires_of f) (wires_of g) (verdict_values (verdict (wires_of f) (circuit (gates_of f)) (circuit (gates_of g)))) (differences (wires_of f) first second) work sf.good sg.good
      (λ u.
      let s = subst (λ (n : ℕ). Sums n (circuit (gates_of g)) (coefficient n (gates_of g)) (summary row₂ ends₂)) (sym u) (sg.sums b) in
      (ap verdict_values (judged_verdict (wires_of f) (circuit (gates_of f)) (circuit (gates_of g)) first second (summary row ends) (summary row₂ ends₂) (sf.sums bytes) s), judged_differences (wires_of f) (circuit (gates_of f)) (circuit (gates_of g)) first second (summary row ends) (summary row₂ ends₂) (sf.sums bytes) s))
      answer after (subst₂ (λ (m n : ℕ). JudgesSummaries m (summary row ends) n (summary row₂ ends₂) work answer after) sf.wires sg.wires j)

  pub judge_judges : (n : ℕ) (t : List ℕ) → v ≡ n + 1 → TableSums n t row₂ ends₂ → Judges n t f work answer after
  judge_judges n t e st =
      let second = ideal_coefficient n (value_at t) in
      both_passed (table_checks n t) (file_checks 0 f) (wires_of f) (n + 1) (verdict_values (verdict (wires_of f) (circuit (gates_of f)) (ideal n (value_at t)))) (differences (wires_of f) first second) work st.good sf.good
      (λ u.
      let s = subst (λ (m : ℕ). Sums m (ideal n (value_at t)) second (summary row₂ ends₂)) (sym u) st.sums in
      (ap verdict_values (judged_verdict (wires_of f) (circuit (gates_of f)) (ideal n (value_at t)) first second (summary row ends) (summary row₂ ends₂) (sf.sums bytes) s), judged_differences (wires_of f) (circuit (gates_of f)) (ideal n (value_at t)) first second (summary row ends) (summary row₂ ends₂) (sf.sums bytes) s))
      answer after (subst₂ (λ (m k : ℕ). JudgesSummaries m (summary row ends) k (summary row₂ ends₂) work answer after) sf.wires e j)
