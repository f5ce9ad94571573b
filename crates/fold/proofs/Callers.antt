-- What a caller of `fold` knows when it answers and when it refuses; and that no two answers say the same.
use Rattle.std.proofs.Common.{◌≡◌, ℕ, List, [], ◌∷◌, ◌++◌, length, drop, ap}
use Rattle.refusal.specs.declared.Refusal.{Refusal}
use Rattle.refusal.specs.Checks.{passed, refused, outcome}
use Rattle.refusal.proofs.Contracts.{Distinct, answers_distinct, meets_values, meets_refusal}
use Rattle.circuit.specs.File.{wires_of, gates_of}
use Rattle.running.specs.Run.{score}
use Rattle.std.specs.Prelude.{Result, Ok, Err}
use Rattle.fold.specs.declared.Folded.{Folded}
use Rattle.fold.specs.Fold.{folded, folded_file, fold_checks, folded_says, Folds}

-- what it answers
abbrev pub fold_values : List ℕ → List ℕ
fold_values f = length (folded_file f) ∷ score (gates_of f) ∷ score (folded (wires_of f) (gates_of f)) ∷ []

-- what follows when it answers
pub record Answered (f before : List ℕ) (l b a : ℕ) (after : List ℕ) : Type 0 where
  pub passes : outcome (fold_checks f (length before)) ≡ passed
  pub long : l ≡ length (folded_file f)
  pub was : b ≡ score (gates_of f)
  pub is : a ≡ score (folded (wires_of f) (gates_of f))
  pub writes : after ≡ folded_file f ++ drop (length (folded_file f)) before

module _ (f before : List ℕ) (r : Result Folded Refusal) (after : List ℕ) (m : Folds f before r after) where
  pub fold_answers : (a : Folded) → r ≡ Ok a → Answered f before a.length a.before a.after after
  fold_answers a e =
      let v = meets_values folded_says (outcome (fold_checks f (length before))) (fold_values f) (folded_file f) before r after m (a.length ∷ a.before ∷ a.after ∷ []) (ap folded_says e) in
      record { passes = v.0; long = cc v.1; was = cc v.1; is = cc v.1; writes = v.2 }

  pub fold_refuses : (x : Refusal) → r ≡ Err x → (outcome (fold_checks f (length before)) ≡ refused x) × (after ≡ before)
  fold_refuses x e = meets_refusal folded_says (outcome (fold_checks f (length before))) (fold_values f) (folded_file f) before r after m x (ap folded_says e)

pub folded_distinct : Distinct folded_says
folded_distinct = answers_distinct (λ (a : Folded). a.length ∷ a.before ∷ a.after ∷ []) one_folding
  where
    one_folding : (x y : Folded) → x.length ∷ x.before ∷ x.after ∷ [] ≡ y.length ∷ y.before ∷ y.after ∷ [] → x ≡ y
    one_folding x y e = let l : x.length ≡ y.length = cc in let b : x.before ≡ y.before = cc in let a : x.after ≡ y.after = cc in λ i. record { length = l i; before = b i; after = a i }
