-- What a caller of `check` knows when it answers and when it refuses; and that it has one answer.
use Prim.Native.Nat.{ℕ, ◌≤◌, ◌<◌}
use native.Mathlib.Omega.{arith}
use mathlib.Core.Path.{◌≡◌, refl, ap}
use mathlib.Core.List.{[], List}
use Rattle.refusal.specs.declared.Refusal.{Refusal}
use Rattle.refusal.specs.Names.{number_of}
use Rattle.refusal.specs.Checks.{passed, refused, outcome}
use Rattle.refusal.proofs.Given.{given_by}
use Rattle.refusal.proofs.Passed.{passed_fail}
use Rattle.refusal.proofs.Contracts.{Distinct, answers_distinct, answers_values, answers_refusal}
use Rattle.std.specs.Prelude.{Result, Ok, Err}
use Rattle.table.specs.Table.{table_checks, checked_says, Checks}

module _ (n : ℕ) (t : List ℕ) where
  module _ (a : Result (Unit {0}) Refusal) (s : Checks n t a) where
    pub check_answers : a ≡ Ok tt → outcome (table_checks n t) ≡ passed
    check_answers e = (answers_values checked_says (outcome (table_checks n t)) [] a s [] (ap checked_says e)).0

    pub check_refuses : (r : Refusal) → a ≡ Err r → outcome (table_checks n t) ≡ refused r
    check_refuses r e = answers_refusal checked_says (outcome (table_checks n t)) [] a s r (ap checked_says e)

  -- "Variables n: 1 to 8."
  pub good_variables : outcome (table_checks n t) ≡ passed → (0 < n) × (n ≤ 8)
  good_variables e =
      let p = passed_fail (table_checks n t) e in
      (omega (arith, p.0), p.1.0)

  -- a table is refused by rows 1 to 3
  pub table_refusal : (r : Refusal) → outcome (table_checks n t) ≡ refused r → number_of r.cause ≤ 3
  table_refusal = given_by (λ (r : Refusal). number_of r.cause ≤ 3) (table_checks n t) (omega arith, (omega arith, (omega arith, (omega arith, tt))))

pub checked_distinct : Distinct checked_says
checked_distinct = answers_distinct (λ _. []) (λ v w e. refl)
