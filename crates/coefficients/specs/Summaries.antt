-- 01, "Coefficients and verdict": a side's summary, as an operation answers it and leaves it in two lent slices.
use Rattle.std.specs.Prelude.{◌≡◌, ℕ, List, [], ◌∷◌}
use Rattle.refusal.specs.Checks.{Outcome, outcome, settle}
use Rattle.refusal.specs.Contract.{Said, Says}
use Rattle.std.specs.Prelude.{Result}
use Rattle.refusal.specs.declared.Refusal.{Refusal}
use Rattle.circuit.specs.declared.Header.{Header}
use Rattle.table.specs.Table.{table_checks, value_at, checked_says}
use Rattle.circuit.specs.Bytes.{put_at}
use Rattle.circuit.specs.File.{wires_of, count_of, gates_of, file_checks, reading_says}
use Rattle.coefficients.specs.Coefficients.{coefficients, listed_ends, ideal_coefficients, ideal_ends}

-- "Nothing lent is written" on a refusal; else the numbers stand at the front of the slice, where they fit
abbrev pub Puts : Outcome → List ℕ → List ℕ → List ℕ → Type 0
Puts o numbers before after = after ≡ settle o (λ _. before) (put_at numbers 0 before)

-- the contract of an operation that is lent a slice for a side's coefficients and one for its ends
pub record SumsUp {Answer : Type 0} (said : Answer → Said) (o : Outcome) (vs cs es row₀ ends₀ : List ℕ) (answer : Answer) (row₁ ends₁ : List ℕ) : Type 0 where
  pub says : Says said o vs answer
  pub row : Puts o cs row₀ row₁
  pub ends : Puts o es ends₀ ends₁

-- the contract of summarise: the reader's answer, and the circuit's summary
abbrev pub Summarises : ℕ → List ℕ → List ℕ → List ℕ → Result Header Refusal → List ℕ → List ℕ → Type 0
Summarises side f row₀ ends₀ answer row₁ ends₁ =
    SumsUp reading_says (outcome (file_checks side f)) (wires_of f ∷ count_of f ∷ []) (coefficients (wires_of f) (gates_of f)) (listed_ends (wires_of f) (gates_of f))
    row₀ ends₀ answer row₁ ends₁

-- the contract of summarise_ideal: the table's check, and the ideal's summary
abbrev pub SummarisesIdeal : ℕ → List ℕ → List ℕ → List ℕ → Result (Unit {0}) Refusal → List ℕ → List ℕ → Type 0
SummarisesIdeal n t row₀ ends₀ answer row₁ ends₁ =
    SumsUp checked_says (outcome (table_checks n t)) [] (ideal_coefficients n (value_at t)) (ideal_ends n) row₀ ends₀ answer row₁ ends₁
