-- Runs and counts, from what the reader says.
use Rattle.std.proofs.Common.{◌≡◌, ℕ, ◌^◌, ◌<◌, ◌≤◌, List, [], ◌∷◌, refl, ◌∙◌, inl, inr}
use Rattle.refusal.specs.declared.Refusal.{Refusal}
use Rattle.refusal.specs.Names.{refusal, STATE}
use Rattle.refusal.specs.Checks.{Check, check, at_least, passed, refused, outcome}
use Rattle.refusal.proofs.Outcomes.{reaches, then_refused, then_passed}
use Rattle.circuit.specs.File.{wires_of, gates_of, file_checks}
use Rattle.running.specs.declared.Ran.{Ran}
use Rattle.std.specs.Prelude.{Ok}
use Rattle.running.specs.declared.Counted.{Counted}
use Rattle.running.specs.Run.{end_from, phase_from, run_checks, Runs, Counts, counted}

abbrev state_check : List ℕ → ℕ → List Check
state_check f start = check (at_least start (2 ^ wires_of f)) (refusal STATE) ∷ []

module _ (f : List ℕ) (start : ℕ) where
  -- the file's refusal stands before the start's
  pub run_file_refused : (x : Refusal) → outcome (file_checks 0 f) ≡ refused x → outcome (run_checks f start) ≡ refused x
  run_file_refused = then_refused (file_checks 0 f) (state_check f start)

  pub run_state_refused : outcome (file_checks 0 f) ≡ passed → 2 ^ wires_of f ≤ start → outcome (run_checks f start) ≡ refused (refusal STATE)
  run_state_refused e h = then_passed (file_checks 0 f) (state_check f start) e ∙ reaches (state_check f start) (refused (refusal STATE)) (inl (h, refl))

  pub run_passes : outcome (file_checks 0 f) ≡ passed → start < 2 ^ wires_of f → outcome (run_checks f start) ≡ passed
  run_passes e h = then_passed (file_checks 0 f) (state_check f start) e ∙ reaches (state_check f start) passed (inr (h, refl))

pub ran_end : (f : List ℕ) (start : ℕ) (r : Ran) → outcome (run_checks f start) ≡ passed → (r.state ≡ end_from (gates_of f) start) × (r.phase ≡ phase_from (gates_of f) start) → Runs f start (Ok r)
ran_end f start r e p = rw (e, p.0, p.1) refl

pub counted_gates : (f : List ℕ) (r : Counted) → outcome (file_checks 0 f) ≡ passed → r ≡ counted (gates_of f) → Counts f (Ok r)
counted_gates f r e p = rw (p, e) refl
