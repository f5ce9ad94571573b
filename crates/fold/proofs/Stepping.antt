-- One gate, as the code does it: what is left of it.
use Rattle.std.proofs.Common.{◌≡◌, ℕ, zero, suc, List, [], ◌∷◌, length, refl, ap₂, length-set}
use Rattle.circuit.specs.declared.Gate.{Gate}
use Rattle.circuit.specs.declared.Gate.TheVariants.{Phase}
use Rattle.running.specs.Working.{Met, Unmet, At, numbers_after, met}
use Rattle.fold.specs.Fold.{kept}
use Rattle.fold.specs.Working.{found, taken_from, left, fold_step}

pub keeps : (i t : ℕ) → (t ≡ 0 → ⊥) → Phase i t ∷ [] ≡ kept i t
keeps i zero h = absurd (h refl)
keeps i (suc t) h = refl

-- what `fold_gate` is to show of a gate, for what it leaves
abbrev Takes : Gate → List ℕ → List ℕ → List ℕ → List ℕ → List Gate → Type 0
Takes g held held' totals totals' l = (held' ≡ numbers_after g held) × ((totals' ≡ taken_from (met g held) totals) × (l ≡ left (found (met g held) totals) g))

pub fold_stepped : (g : Gate) (held totals held' totals' : List ℕ) → held' ≡ numbers_after g held → totals' ≡ taken_from (met g held) totals → (held', totals') ≡ fold_step g (held, totals)
fold_stepped g held totals held' totals' p q = ap₂ (λ (m n : List ℕ). (m, n)) p q

pub length_taken : (x : Met) (totals : List ℕ) → length (taken_from x totals) ≡ length totals
length_taken Unmet totals = refl
length_taken (At m a) totals = length-set totals m 0
