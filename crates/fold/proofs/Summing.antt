-- The groups' totals, gate by gate, as the code sums them.
use Rattle.std.proofs.Common.{◌≡◌, ℕ, ◌+◌, ◌%◌, List, length, get_or, replicate, sym, refl, ap, ◌∙◌, subst, ap₂, length-set}
use Rattle.refusal.specs.Checks.{passed, outcome}
use Rattle.circuit.specs.declared.Gate.{Gate}
use Rattle.circuit.specs.declared.Gate.TheVariants.{Cnot, Phase, Inverter}
use Rattle.circuit.specs.Bytes.{Bytes}
use Rattle.circuit.specs.File.{gates_of, file_checks}
use Rattle.circuit.specs.Working.{walked}
use Rattle.circuit.proofs.Callers.{good_file}
use Rattle.running.specs.Masks.{most_wires}
use Rattle.running.proofs.Walks.{file_totals}
use Rattle.running.specs.Working.{most_groups, totals_of, own_numbers, Met, Unmet, At, numbers_after, met, add_met, sum_step}

module _ (g : Gate) (held row : List ℕ) where
  -- a gate that meets nothing
  pub inverter_adds : (i : ℕ) (after : List ℕ) → g ≡ Inverter i → after ≡ numbers_after (Inverter i) held → (after ≡ numbers_after g held) × (row ≡ add_met (met g held) row)
  inverter_adds i after e p = subst (λ (h : Gate). (after ≡ numbers_after h held) × (row ≡ add_met (met h held) row)) (sym e) (p, refl)

  pub cnot_adds : (c t : ℕ) (after : List ℕ) → g ≡ Cnot c t → after ≡ numbers_after (Cnot c t) held → (after ≡ numbers_after g held) × (row ≡ add_met (met g held) row)
  cnot_adds c t after e p = subst (λ (h : Gate). (after ≡ numbers_after h held) × (row ≡ add_met (met h held) row)) (sym e) (p, refl)

  pub phase_adds : (i a m : ℕ) (after : List ℕ) → g ≡ Phase i a → m ≡ get_or held i 0 → after ≡ add_met (At m a) row → (held ≡ numbers_after g held) × (after ≡ add_met (met g held) row)
  phase_adds i a m after e d p =
      subst (λ (h : Gate). (held ≡ numbers_after h held) × (after ≡ add_met (met h held) row)) (sym e) (refl, p ∙ ap (λ (k : ℕ). add_met (At k a) row) d)

pub sum_stepped : (g : Gate) (held row held' row' : List ℕ) → held' ≡ numbers_after g held → row' ≡ add_met (met g held) row → (held', row') ≡ sum_step g (held, row)
sum_stepped g held row held' row' p q = ap₂ (λ (m n : List ℕ). (m, n)) p q

pub length-added : (x : Met) (row : List ℕ) → length (add_met x row) ≡ length row
length-added Unmet row = refl
length-added (At m a) row = length-set row m ((get_or row m 0 + a) % 65536)

-- all gates of a good file
pub totals_summed : (f own held sums : List ℕ) → Bytes f → outcome (file_checks 0 f) ≡ passed → own ≡ own_numbers most_wires → (held, sums) ≡ walked sum_step (gates_of f) (own, replicate most_groups 0)
    → sums ≡ totals_of f
totals_summed f own held sums bytes p o e =
    file_totals f bytes (good_file 0 f p) held sums (e ∙ ap (λ (n : List ℕ). walked sum_step (gates_of f) (n, replicate most_groups 0)) o)
