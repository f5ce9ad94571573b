-- What a caller of `cancel` knows when it answers and when it refuses; and that no two answers say the same.
use Prim.Native.Nat.{ℕ}
use mathlib.Core.Path.{◌≡◌, ap}
use mathlib.Core.List.{List, [], ◌∷◌, ◌++◌}
use lib.ListN.{length, drop}
use Rattle.refusal.specs.declared.Refusal.{Refusal}
use Rattle.refusal.specs.Checks.{passed, refused, outcome}
use Rattle.refusal.proofs.Contracts.{Distinct, answers_distinct, meets_values, meets_refusal}
use Rattle.circuit.specs.File.{gates_of}
use Rattle.std.specs.Prelude.{Result, Ok, Err}
use Rattle.cancel.specs.declared.Cancelled.{Cancelled}
use Rattle.cancel.specs.Cancel.{steps, cancelled_file, cancel_checks, cancelled_says, Cancels}

-- what it answers
abbrev pub cancel_values : List ℕ → ℕ → List ℕ
cancel_values f most = length (cancelled_file f most) ∷ steps most (gates_of f) ∷ []

-- what follows when it answers
pub record Answered (f : List ℕ) (most : ℕ) (before : List ℕ) (l n : ℕ) (after : List ℕ) : Type 0 where
  pub passes : outcome (cancel_checks f most (length before)) ≡ passed
  pub long : l ≡ length (cancelled_file f most)
  pub number : n ≡ steps most (gates_of f)
  pub writes : after ≡ cancelled_file f most ++ drop (length (cancelled_file f most)) before

module _ (f : List ℕ) (most : ℕ) (before : List ℕ) (r : Result Cancelled Refusal) (after : List ℕ) (m : Cancels f most before r after) where
  pub cancel_answers : (a : Cancelled) → r ≡ Ok a → Answered f most before a.length a.pairs after
  cancel_answers a e =
      let v = meets_values cancelled_says (outcome (cancel_checks f most (length before))) (cancel_values f most) (cancelled_file f most) before r after m (a.length ∷ a.pairs ∷ []) (ap cancelled_says e) in
      record { passes = v.0; long = cc v.1; number = cc v.1; writes = v.2 }

  pub cancel_refuses : (x : Refusal) → r ≡ Err x → (outcome (cancel_checks f most (length before)) ≡ refused x) × (after ≡ before)
  cancel_refuses x e = meets_refusal cancelled_says (outcome (cancel_checks f most (length before))) (cancel_values f most) (cancelled_file f most) before r after m x (ap cancelled_says e)

pub cancelled_distinct : Distinct cancelled_says
cancelled_distinct = answers_distinct (λ (a : Cancelled). a.length ∷ a.pairs ∷ []) one_cancelling
  where
    one_cancelling : (x y : Cancelled) → x.length ∷ x.pairs ∷ [] ≡ y.length ∷ y.pairs ∷ [] → x ≡ y
    one_cancelling x y e = let l : x.length ≡ y.length = cc in let p : x.pairs ≡ y.pairs = cc in λ i. record { length = l i; pairs = p i }
