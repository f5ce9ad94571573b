-- What callers of `compare` and `judge` know when they answer and when they refuse; and that no two answers say the same.
use Rattle.std.proofs.Common.{◌≡◌, ℕ, ◌+◌, ◌^◌, ◌<◌, ◌≤◌, List, ◌++◌, length, drop, sym, refl, ap, ◌∙◌, inr}
use Rattle.numbers.specs.Turn.{difference}
use Rattle.numbers.proofs.Lists.{length-list}
use Rattle.refusal.specs.declared.Refusal.{Refusal}
use Rattle.refusal.specs.Checks.{Outcome, passed, refused, outcome}
use Rattle.refusal.specs.Contract.{Meets}
use Rattle.refusal.proofs.Outcomes.{reaches, then_passed}
use Rattle.refusal.proofs.Contracts.{Distinct, answers_distinct, when_passed, meets_values, meets_refusal}
use Rattle.table.specs.Table.{table_checks, value_at}
use Rattle.circuit.specs.File.{wires_of, gates_of, file_checks}
use Rattle.coefficients.specs.Coefficients.{coefficient, ideal_coefficient}
use Rattle.verdict.specs.declared.Verdict.{Verdict}
use Rattle.verdict.specs.declared.Verdict.TheVariants.{Same, Different}
use Rattle.std.specs.Prelude.{Result, Ok, Err}
use Rattle.verdict.specs.Verdicts.{Side, circuit, ideal, verdict, differences}
use Rattle.verdict.specs.Judging.{verdict_values, compared_says, work_checks, compare_checks, judge_checks, Compares, Judges}
use Rattle.verdict.proofs.Lowest.{different_named}

-- no two answers say the same
pub verdict_distinct : (x y : Verdict) → verdict_values x ≡ verdict_values y → x ≡ y
verdict_distinct Same Same e = refl
verdict_distinct Same (Different s a b p) e = cc
verdict_distinct (Different s a b p) Same e = cc
verdict_distinct (Different s a b p) (Different t c d q) e = cc

pub compared_distinct : Distinct compared_says
compared_distinct = answers_distinct verdict_values verdict_distinct

-- what is written has 2^w entries
pub length-differences : (w : ℕ) (c d : ℕ → ℕ) → length (differences w c d) ≡ 2 ^ w
unfolding differences
length-differences w c d = length-list (2 ^ w) (λ s. difference (c s) (d s))

-- of an answer, whichever of the two operations gave it
module _ (o : Outcome) (w : ℕ) (a b : Side) (result before : List ℕ) (answer : Result Verdict Refusal) (after : List ℕ) (m : Meets compared_says o (verdict_values (verdict w a b)) result before answer after) where
  gives : o ≡ passed → answer ≡ Ok (verdict w a b)
  gives p = compared_distinct answer (Ok (verdict w a b)) (when_passed compared_says o (verdict_values (verdict w a b)) result before answer after p m).0

  finds : (v : Verdict) → answer ≡ Ok v → (o ≡ passed) × (v ≡ verdict w a b)
  finds v e =
      let r = meets_values compared_says o (verdict_values (verdict w a b)) result before answer after m (verdict_values v) (ap compared_says e) in
      (r.0, verdict_distinct v (verdict w a b) r.1)

  writes : (v : Verdict) → answer ≡ Ok v → after ≡ result ++ drop (length result) before
  writes v e = (meets_values compared_says o (verdict_values (verdict w a b)) result before answer after m (verdict_values v) (ap compared_says e)).2

  refuses : (r : Refusal) → answer ≡ Err r → (o ≡ refused r) × (after ≡ before)
  refuses r e = meets_refusal compared_says o (verdict_values (verdict w a b)) result before answer after m r (ap compared_says e)

  below : (s e f p : ℕ) → answer ≡ Ok (Different s e f p) → s < 2 ^ w
  below s e f p q = (different_named a b w s e f p (sym (finds (Different s e f p) q).1)).below

module _ (f g work : List ℕ) (answer : Result Verdict Refusal) (after : List ℕ) (m : Compares f g work answer after) where
  abbrev compare_outcome : Outcome
  compare_outcome = outcome (compare_checks f g (length work))

  abbrev compare_row : List ℕ
  compare_row = differences (wires_of f) (coefficient (wires_of f) (gates_of f)) (coefficient (wires_of f) (gates_of g))

  pub compare_gives : compare_outcome ≡ passed → answer ≡ Ok (verdict (wires_of f) (circuit (gates_of f)) (circuit (gates_of g)))
  compare_gives = gives compare_outcome (wires_of f) (circuit (gates_of f)) (circuit (gates_of g)) compare_row work answer after m

  -- when it answers
  pub compare_finds : (v : Verdict) → answer ≡ Ok v → (compare_outcome ≡ passed) × (v ≡ verdict (wires_of f) (circuit (gates_of f)) (circuit (gates_of g)))
  compare_finds = finds compare_outcome (wires_of f) (circuit (gates_of f)) (circuit (gates_of g)) compare_row work answer after m

  pub compare_writes : (v : Verdict) → answer ≡ Ok v → after ≡ compare_row ++ drop (length compare_row) work
  compare_writes = writes compare_outcome (wires_of f) (circuit (gates_of f)) (circuit (gates_of g)) compare_row work answer after m

  -- when it refuses
  pub compare_refuses : (r : Refusal) → answer ≡ Err r → (compare_outcome ≡ refused r) × (after ≡ work)
  compare_refuses = refuses compare_outcome (wires_of f) (circuit (gates_of f)) (circuit (gates_of g)) compare_row work answer after m

  -- a named state is one of the circuits'
  pub compare_below : (s e h p : ℕ) → answer ≡ Ok (Different s e h p) → s < 2 ^ wires_of f
  compare_below = below compare_outcome (wires_of f) (circuit (gates_of f)) (circuit (gates_of g)) compare_row work answer after m

-- where every check passes
pub compare_passes : (f g work : List ℕ) → outcome (file_checks 0 f) ≡ passed → outcome (file_checks 1 g) ≡ passed → wires_of f ≡ wires_of g → 2 ^ wires_of f ≤ length work → outcome (compare_checks f g (length work)) ≡ passed
compare_passes f g work p q u k =
    then_passed (file_checks 0 f) _ p ∙ then_passed (file_checks 1 g) (work_checks (wires_of f) (wires_of g) (length work)) q
    ∙ reaches (work_checks (wires_of f) (wires_of g) (length work)) passed (inr (u, inr (k, refl)))

module _ (n : ℕ) (t f work : List ℕ) (answer : Result Verdict Refusal) (after : List ℕ) (m : Judges n t f work answer after) where
  abbrev judge_outcome : Outcome
  judge_outcome = outcome (judge_checks n t f (length work))

  abbrev judge_row : List ℕ
  judge_row = differences (wires_of f) (coefficient (wires_of f) (gates_of f)) (ideal_coefficient n (value_at t))

  pub judge_gives : judge_outcome ≡ passed → answer ≡ Ok (verdict (wires_of f) (circuit (gates_of f)) (ideal n (value_at t)))
  judge_gives = gives judge_outcome (wires_of f) (circuit (gates_of f)) (ideal n (value_at t)) judge_row work answer after m

  -- when it answers
  pub judge_finds : (v : Verdict) → answer ≡ Ok v → (judge_outcome ≡ passed) × (v ≡ verdict (wires_of f) (circuit (gates_of f)) (ideal n (value_at t)))
  judge_finds = finds judge_outcome (wires_of f) (circuit (gates_of f)) (ideal n (value_at t)) judge_row work answer after m

  pub judge_writes : (v : Verdict) → answer ≡ Ok v → after ≡ judge_row ++ drop (length judge_row) work
  judge_writes = writes judge_outcome (wires_of f) (circuit (gates_of f)) (ideal n (value_at t)) judge_row work answer after m

  -- when it refuses
  pub judge_refuses : (r : Refusal) → answer ≡ Err r → (judge_outcome ≡ refused r) × (after ≡ work)
  judge_refuses = refuses judge_outcome (wires_of f) (circuit (gates_of f)) (ideal n (value_at t)) judge_row work answer after m

  -- a named state is one of the circuit's
  pub judge_below : (s e h p : ℕ) → answer ≡ Ok (Different s e h p) → s < 2 ^ wires_of f
  judge_below = below judge_outcome (wires_of f) (circuit (gates_of f)) (ideal n (value_at t)) judge_row work answer after m

pub judge_passes : (n : ℕ) (t f work : List ℕ) → outcome (table_checks n t) ≡ passed → outcome (file_checks 0 f) ≡ passed → wires_of f ≡ n + 1 → 2 ^ wires_of f ≤ length work → outcome (judge_checks n t f (length work)) ≡ passed
judge_passes n t f work p q u k =
    then_passed (table_checks n t) _ p ∙ then_passed (file_checks 0 f) (work_checks (wires_of f) (n + 1) (length work)) q
    ∙ reaches (work_checks (wires_of f) (n + 1) (length work)) passed (inr (u, inr (k, refl)))
