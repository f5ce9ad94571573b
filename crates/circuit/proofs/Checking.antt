-- How the reader shows its answer: by going down its checks.
use Prim.Native.Nat.{ℕ, ◌<◌, ◌≤◌}
use native.Mathlib.Omega.{arith}
use mathlib.Core.Path.{◌≡◌, refl, ap, ap₂, ◌∙◌}
use mathlib.Core.Logic.{inl, inr}
use mathlib.Core.List.{List, [], ◌∷◌}
use lib.ListN.{drop}
use Rattle.refusal.specs.declared.Refusal.{Refusal}
use Rattle.refusal.specs.Names.{bad_gate}
use Rattle.refusal.specs.Checks.{Check, check, less, passed, refused}
use Rattle.refusal.specs.Contract.{values}
use Rattle.refusal.proofs.Outcomes.{Reaches, reaches}
use Rattle.circuit.specs.declared.Header.{Header}
use Rattle.std.specs.Prelude.{Result, Ok, Err}
use Rattle.circuit.specs.Gates.{first_bad}
use Rattle.circuit.specs.File.{version_of, wires_of, count_of, bad_of, reason_at, file_checks, ReadsSide}

pub refusing : (s : ℕ) (f : List ℕ) (x : Refusal) (r : Result Header Refusal) → r ≡ Err x → Reaches (file_checks s f) (refused x) → ReadsSide s f r
refusing s f x r e h = rw (e, reaches (file_checks s f) (refused x) h)

pub answering : (s : ℕ) (f : List ℕ) (w g : ℕ) → w ≡ wires_of f → g ≡ count_of f → Reaches (file_checks s f) passed → ReadsSide s f (Ok (record { wires = w; gates = g }))
answering s f w g p q h = rw (reaches (file_checks s f) passed h) (ap₂ (λ (m n : ℕ). values (m ∷ n ∷ [])) p q)

abbrev gate_check : ℕ → List ℕ → List Check
gate_check s f = check (less (bad_of f) (count_of f)) (bad_gate s (bad_of f) (reason_at f (bad_of f))) ∷ []

module _ (s : ℕ) (f : List ℕ) (v g bad : ℕ) (o : v ≡ version_of f) (p : g ≡ count_of f) (q : bad ≡ first_bad v (wires_of f) g 0 (drop 8 f)) where
  found : bad ≡ bad_of f
  found = q ∙ ap₂ (λ (x n : ℕ). first_bad x (wires_of f) n 0 (drop 8 f)) o p

  -- the last check, for a bad gate that was found, and for none
  pub bad_gate_lem : bad < g → Reaches (gate_check s f) (refused (bad_gate s bad (reason_at f bad)))
  bad_gate_lem h = let e = found in inl (omega arith, ap (λ (n : ℕ). refused (bad_gate s n (reason_at f n))) e)

  pub no_bad_gate : g ≤ bad → Reaches (gate_check s f) passed
  no_bad_gate h = let e = found in inr (omega arith, refl)
