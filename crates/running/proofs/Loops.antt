-- The loops over a circuit's gates: what the walk comes to at its end, as the code answers it.
use Rattle.std.proofs.Common.{◌≡◌, ℕ, ◌+◌, ◌-◌, ◌%◌, ◌≤◌, List, length, ap, ◌∙◌, zero-add, arith}
use Rattle.circuit.specs.declared.Gate.{Gate}
use Rattle.circuit.specs.Working.{walked}
use Rattle.running.specs.declared.Counted.{Counted}
use Rattle.running.specs.Run.{end_from, total_from, phase_from, cnots, phases, score, inverters, counted}
use Rattle.running.specs.Working.{run_step, count_step}
use Rattle.running.proofs.Counts.{gates_counted}
use Rattle.running.proofs.Walks.{run_walked, count_walked}

module _ (gs : List Gate) where
  pub run_ends : (start : ℕ) {state phase : ℕ} → (state, phase) ≡ walked run_step gs (start, 0) → (state ≡ end_from gs start) × (phase ≡ phase_from gs start)
  run_ends start {state} {phase} w =
      let e = w ∙ run_walked gs start 0 (omega arith) in
      (ap (λ (s : ℕ × ℕ). s.0) e, ap (λ (s : ℕ × ℕ). s.1) e ∙ ap (◌% 65536) (zero-add (total_from gs start)))

  pub count_fits : {c s x : ℕ} → (c, s, x) ≡ walked count_step gs (0, 0, 0) → c + x ≤ length gs
  count_fits {c} {s} {x} w =
      let e = w ∙ count_walked gs 0 0 0 in
      omega (arith, ap (λ (t : ℕ × ℕ × ℕ). t.0) e, ap (λ (t : ℕ × ℕ × ℕ). t.2) e, gates_counted gs)

  pub count_ends : {gates c s x : ℕ} → gates ≡ length gs → (c, s, x) ≡ walked count_step gs (0, 0, 0)
      → ◌≡◌ {A = Counted} (record { cnots = c; phases = gates - (c + x); score = s; inverters = x }) (counted gs)
  count_ends {gates} {c} {s} {x} g w =
      let e = w ∙ count_walked gs 0 0 0 in
      let c' : c ≡ cnots gs = ap (λ (t : ℕ × ℕ × ℕ). t.0) e ∙ zero-add (cnots gs) in
      let s' : s ≡ score gs = ap (λ (t : ℕ × ℕ × ℕ). t.1) e ∙ zero-add (score gs) in
      let x' : x ≡ inverters gs = ap (λ (t : ℕ × ℕ × ℕ). t.2) e ∙ zero-add (inverters gs) in
      let p : gates - (c + x) ≡ phases gs = omega (arith, gates_counted gs) in
      λ i. record { cnots = c' i; phases = p i; score = s' i; inverters = x' i }
