-- What an angle scores, and the counts, gate by gate.
use Rattle.std.proofs.Common.{◌≡◌, ℕ, ◌+◌, ◌%◌, ◌≤◌, not, eqb, List, [], ◌∷◌, length, sym, refl, ap, add-zero, zero-add, arith, eq-eqb, ne_eqb}
use Prim.Native.Nat.{◌∣◌}
use native.Mathlib.Nat.{mod-eq-zero_of_dvd, dvd_of_mod-eq-zero}
use native.Mathlib.Decide.{ℕ_discrete}
use Rattle.numbers.specs.Bits.{indicator}
use Rattle.numbers.proofs.Parity.{indicator_at_most_one}
use Rattle.circuit.specs.declared.Gate.{Gate}
use Rattle.circuit.specs.declared.Gate.TheVariants.{Cnot, Phase, Inverter}
use Rattle.running.specs.Run.{free_turn, scores, score_by, cnots, phases, score, inverters}

pub cnots_cons : (g : Gate) (gs : List Gate) → cnots (g ∷ gs) ≡ cnots (g ∷ []) + cnots gs
unfolding cnots
cnots_cons (Cnot c t) gs = refl
cnots_cons (Phase i a) gs = sym (zero-add (cnots gs))
cnots_cons (Inverter i) gs = sym (zero-add (cnots gs))

pub score_cons : (g : Gate) (gs : List Gate) → score (g ∷ gs) ≡ score (g ∷ []) + score gs
unfolding score_by
score_cons (Cnot c t) gs = sym (zero-add (score gs))
score_cons (Phase i a) gs = ap (◌+ score gs) (sym (add-zero (scores free_turn a)))
score_cons (Inverter i) gs = sym (zero-add (score gs))

pub inverters_cons : (g : Gate) (gs : List Gate) → inverters (g ∷ gs) ≡ inverters (g ∷ []) + inverters gs
unfolding inverters
inverters_cons (Cnot c t) gs = sym (zero-add (inverters gs))
inverters_cons (Phase i a) gs = sym (zero-add (inverters gs))
inverters_cons (Inverter i) gs = refl

-- an angle scores 0 or 1, and 0 exactly where it is a multiple
module _ (d a : ℕ) where
  pub scores_at_most_one : scores d a ≤ 1
  scores_at_most_one = indicator_at_most_one (not (eqb (a % d) 0))

  pub scores_nothing : a % d ≡ 0 → scores d a ≡ 0
  scores_nothing e = ap (λ b. indicator (not b)) (eq-eqb (a % d) 0 e)

  pub scores_one : ¬ (a % d ≡ 0) → scores d a ≡ 1
  scores_one n = ap (λ b. indicator (not b)) (ne_eqb (a % d) 0 n)

  pub multiple_is_free : d ∣ a → scores d a ≡ 0
  multiple_is_free h = scores_nothing (mod-eq-zero_of_dvd d h)

  pub free_is_multiple : scores d a ≡ 0 → d ∣ a
  free_is_multiple e = by (ℕ_discrete (a % d) 0)
    where
      by : Dec (a % d ≡ 0) → d ∣ a
      by (yes p) = dvd_of_mod-eq-zero d p
      by (no p) = absurd (omega (arith, scores_one p))

-- a gate is a CNOT, or an inverter, or may score, and no two of them
pub one_counted : (g : Gate) → cnots (g ∷ []) + score (g ∷ []) + inverters (g ∷ []) ≤ 1
unfolding cnots score_by inverters
one_counted (Cnot c t) = omega arith
one_counted (Phase i a) = let h = scores_at_most_one free_turn a in omega arith
one_counted (Inverter i) = omega arith

-- every gate is a CNOT, a phase gate or an inverter
pub gates_counted : (gs : List Gate) → cnots gs + phases gs + inverters gs ≡ length gs
unfolding cnots phases inverters
gates_counted [] = refl
gates_counted (Cnot c t ∷ gs) = let r = gates_counted gs in omega arith
gates_counted (Phase i a ∷ gs) = let r = gates_counted gs in omega arith
gates_counted (Inverter i ∷ gs) = let r = gates_counted gs in omega arith
