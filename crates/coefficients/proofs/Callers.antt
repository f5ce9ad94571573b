-- What callers of summarise and summarise_ideal know when they answer and when they refuse.
use Rattle.std.proofs.Common.{◌≡◌, ℕ, ◌+◌, ◌<◌, ◌≤◌, List, [], ◌∷◌, length, get_or, drop, sym, ap, ◌∙◌, arith, le-leb}
use lib.ListN.{get_or-append}
use Rattle.numbers.specs.Sums.{list}
use Rattle.numbers.proofs.Lists.{length-list, get_or-list}
use Rattle.refusal.specs.declared.Refusal.{Refusal}
use Rattle.refusal.specs.Checks.{Outcome, passed, refused, outcome}
use Rattle.refusal.specs.Contract.{Said, values, said_of}
use Rattle.refusal.proofs.Contracts.{Distinct, answers_values, answers_refusal}
use Rattle.std.specs.Prelude.{Result, Ok, Err}
use Rattle.circuit.specs.declared.Header.{Header}
use Rattle.table.specs.Table.{table_checks, value_at, checked_says}
use Rattle.circuit.specs.Bytes.{put_at}
use Rattle.circuit.specs.File.{wires_of, count_of, gates_of, file_checks, reading_says}
use Rattle.coefficients.specs.Coefficients.{coefficients, listed_ends, ideal_coefficients, ideal_ends}
use Rattle.coefficients.specs.Summaries.{SumsUp, Summarises, SummarisesIdeal}

-- every check passed, and both slices hold what they are lent for, where it fits
pub record Summed (o : Outcome) (cs es row₀ ends₀ row₁ ends₁ : List ℕ) : Type 0 where
  pub passes : o ≡ passed
  pub row : row₁ ≡ put_at cs 0 row₀
  pub ends : ends₁ ≡ put_at es 0 ends₀

-- a check refused, and both are as before
pub record Unsummed (o : Outcome) (r : Refusal) (row₀ ends₀ row₁ ends₁ : List ℕ) : Type 0 where
  pub refuses : o ≡ refused r
  pub row : row₁ ≡ row₀
  pub ends : ends₁ ≡ ends₀

module _ {Answer : Type 0} (said : Answer → Said) (o : Outcome) (vs cs es row₀ ends₀ : List ℕ) (answer : Answer) (row₁ ends₁ : List ℕ) (s : SumsUp said o vs cs es row₀ ends₀ answer row₁ ends₁) where
  -- no second answer would satisfy it, nor any second content of the slices
  pub one_summary : Distinct said → (answer' : Answer) (row₂ ends₂ : List ℕ) → SumsUp said o vs cs es row₀ ends₀ answer' row₂ ends₂ → (answer ≡ answer') × (row₁ ≡ row₂) × (ends₁ ≡ ends₂)
  one_summary d answer' row₂ ends₂ t = (d answer answer' (s.says ∙ sym t.says), s.row ∙ sym t.row, s.ends ∙ sym t.ends)

  answers : (ws : List ℕ) → said answer ≡ values ws → Summed o cs es row₀ ends₀ row₁ ends₁ × (ws ≡ vs)
  answers ws e =
      let v = answers_values said o vs answer s.says ws e in
      (record { passes = v.0; row = rw v.0 at s.row; ends = rw v.0 at s.ends }, v.1)

  refuses : (r : Refusal) → said answer ≡ said_of r → Unsummed o r row₀ ends₀ row₁ ends₁
  refuses r e =
      let q = answers_refusal said o vs answer s.says r e in
      record { refuses = q; row = rw q at s.row; ends = rw q at s.ends }

module _ (side : ℕ) (f row₀ ends₀ : List ℕ) (answer : Result Header Refusal) (row₁ ends₁ : List ℕ) (s : Summarises side f row₀ ends₀ answer row₁ ends₁) where
  abbrev file_outcome : Outcome
  file_outcome = outcome (file_checks side f)

  abbrev said : List ℕ
  said = wires_of f ∷ count_of f ∷ []

  pub summarise_answers : (h : Header) → answer ≡ Ok h → Summed file_outcome (coefficients (wires_of f) (gates_of f)) (listed_ends (wires_of f) (gates_of f)) row₀ ends₀ row₁ ends₁ × (h.wires ≡ wires_of f) × (h.gates ≡ count_of f)
  summarise_answers h e =
      let r = answers reading_says file_outcome said (coefficients (wires_of f) (gates_of f)) (listed_ends (wires_of f) (gates_of f)) row₀ ends₀ answer row₁ ends₁ s (h.wires ∷ h.gates ∷ []) (ap reading_says e) in
      (r.0, cc r.1, cc r.1)

  pub summarise_refuses : (r : Refusal) → answer ≡ Err r → Unsummed file_outcome r row₀ ends₀ row₁ ends₁
  summarise_refuses r e = refuses reading_says file_outcome said (coefficients (wires_of f) (gates_of f)) (listed_ends (wires_of f) (gates_of f)) row₀ ends₀ answer row₁ ends₁ s r (ap reading_says e)

module _ (n : ℕ) (t row₀ ends₀ : List ℕ) (answer : Result (Unit {0}) Refusal) (row₁ ends₁ : List ℕ) (s : SummarisesIdeal n t row₀ ends₀ answer row₁ ends₁) where
  abbrev table_outcome : Outcome
  table_outcome = outcome (table_checks n t)

  pub ideal_answers : answer ≡ Ok tt → Summed table_outcome (ideal_coefficients n (value_at t)) (ideal_ends n) row₀ ends₀ row₁ ends₁
  ideal_answers e = (answers checked_says table_outcome [] (ideal_coefficients n (value_at t)) (ideal_ends n) row₀ ends₀ answer row₁ ends₁ s [] (ap checked_says e)).0

  pub ideal_refuses : (r : Refusal) → answer ≡ Err r → Unsummed table_outcome r row₀ ends₀ row₁ ends₁
  ideal_refuses r e = refuses checked_says table_outcome [] (ideal_coefficients n (value_at t)) (ideal_ends n) row₀ ends₀ answer row₁ ends₁ s r (ap checked_says e)

-- what stands in a slice that had room enough
pub put_entry : (n : ℕ) (f : ℕ → ℕ) (before after : List ℕ) → after ≡ put_at (list n f) 0 before → n ≤ length before → (i : ℕ) → i < n → get_or after i 0 ≡ f i
put_entry n f before after e h i k =
    let l = length-list n f in
    let fits : 0 + length (list n f) ≤ length before = omega arith in
    ap (λ (v : List ℕ). get_or v i 0) e
    ∙ rw (le-leb (0 + length (list n f)) (length before) fits) (get_or-append (list n f) (drop (0 + length (list n f)) before) 0 i (omega arith) ∙ get_or-list n f i 0 k)
