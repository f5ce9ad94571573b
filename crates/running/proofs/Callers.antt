-- What callers of `run` and `count` know when they answer and when they refuse; and that no two answers say the same.
use Rattle.std.proofs.Common.{◌≡◌, ℕ, List, [], ◌∷◌, ap}
use Rattle.refusal.specs.declared.Refusal.{Refusal}
use Rattle.refusal.specs.Checks.{passed, refused, outcome}
use Rattle.refusal.proofs.Contracts.{Distinct, answers_distinct, answers_values, answers_refusal}
use Rattle.circuit.specs.File.{gates_of, file_checks}
use Rattle.running.specs.declared.Ran.{Ran}
use Rattle.running.specs.declared.Counted.{Counted}
use Rattle.std.specs.Prelude.{Result, Ok, Err}
use Rattle.running.specs.Run.{end_from, phase_from, run_checks, ran_says, Runs, cnots, phases, score, inverters, counted_says, Counts}

module _ (f : List ℕ) (start : ℕ) (r : Result Ran Refusal) (says : Runs f start r) where
  pub run_answers : (a : Ran) → r ≡ Ok a → (outcome (run_checks f start) ≡ passed) × (a.state ≡ end_from (gates_of f) start) × (a.phase ≡ phase_from (gates_of f) start)
  run_answers a e =
      let v = answers_values ran_says (outcome (run_checks f start)) (end_from (gates_of f) start ∷ phase_from (gates_of f) start ∷ []) r says (a.state ∷ a.phase ∷ []) (ap ran_says e) in
      (v.0, cc v.1, cc v.1)

  pub run_refuses : (x : Refusal) → r ≡ Err x → outcome (run_checks f start) ≡ refused x
  run_refuses x e = answers_refusal ran_says (outcome (run_checks f start)) (end_from (gates_of f) start ∷ phase_from (gates_of f) start ∷ []) r says x (ap ran_says e)

-- what follows when the count answers
pub record Tallied (f : List ℕ) (c p s x : ℕ) : Type 0 where
  pub passes : outcome (file_checks 0 f) ≡ passed
  pub has_cnots : c ≡ cnots (gates_of f)
  pub has_phases : p ≡ phases (gates_of f)
  pub has_score : s ≡ score (gates_of f)
  pub has_inverters : x ≡ inverters (gates_of f)

module _ (f : List ℕ) (r : Result Counted Refusal) (says : Counts f r) where
  abbrev counts : List ℕ
  counts = cnots (gates_of f) ∷ phases (gates_of f) ∷ score (gates_of f) ∷ inverters (gates_of f) ∷ []

  pub count_answers : (a : Counted) → r ≡ Ok a → Tallied f a.cnots a.phases a.score a.inverters
  count_answers a e =
      let v = answers_values counted_says (outcome (file_checks 0 f)) counts r says (a.cnots ∷ a.phases ∷ a.score ∷ a.inverters ∷ []) (ap counted_says e) in
      record { passes = v.0; has_cnots = cc v.1; has_phases = cc v.1; has_score = cc v.1; has_inverters = cc v.1 }

  pub count_refuses : (x : Refusal) → r ≡ Err x → outcome (file_checks 0 f) ≡ refused x
  count_refuses x e = answers_refusal counted_says (outcome (file_checks 0 f)) counts r says x (ap counted_says e)

pub ran_distinct : Distinct ran_says
ran_distinct = answers_distinct (λ (r : Ran). r.state ∷ r.phase ∷ []) one_end
  where
    one_end : (a b : Ran) → a.state ∷ a.phase ∷ [] ≡ b.state ∷ b.phase ∷ [] → a ≡ b
    one_end a b e = let s : a.state ≡ b.state = cc in let p : a.phase ≡ b.phase = cc in λ i. record { state = s i; phase = p i }

pub counted_distinct : Distinct counted_says
counted_distinct = answers_distinct (λ (c : Counted). c.cnots ∷ c.phases ∷ c.score ∷ c.inverters ∷ []) one_count
  where
    one_count : (a b : Counted) → a.cnots ∷ a.phases ∷ a.score ∷ a.inverters ∷ [] ≡ b.cnots ∷ b.phases ∷ b.score ∷ b.inverters ∷ [] → a ≡ b
    one_count a b e =
        let c : a.cnots ≡ b.cnots = cc in
        let p : a.phases ≡ b.phases = cc in
        let s : a.score ≡ b.score = cc in
        let x : a.inverters ≡ b.inverters = cc in
        λ i. record { cnots = c i; phases = p i; score = s i; inverters = x i }
