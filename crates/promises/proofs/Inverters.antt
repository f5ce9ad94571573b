-- 02 §12: what a flipped mask adds; a run from its coefficients, the constant among them, and from the ends of start 0 and of each wire's own.
use Prim.Native.Nat.{ℕ, suc, ◌+◌, ◌-◌, ◌*◌, ◌%◌, ◌^◌, ◌<◌}
use native.Mathlib.Nat.{add-zero, one-mul}
use native.Mathlib.Omega.{arith}
use mathlib.Core.Path.{◌≡◌, ap, ◌∙◌}
use mathlib.Core.List.{List, [], ◌∷◌}
use lib.Bits.{bit_xor}
use lib.Count.{ones}
use Rattle.numbers.specs.Bits.{bit, dot, subset}
use Rattle.numbers.specs.Sums.{sum, sum_of}
use Rattle.numbers.specs.Turn.{difference}
use Rattle.numbers.specs.Working.{◌≈◌}
use Rattle.numbers.proofs.Digits.{by_bits}
use Rattle.numbers.proofs.Turns.{≈-of, ≈-mod, ≈_sym, ≈-add, ≈-mul, ≈-scale, ≈_refl, ≈-cancel, ≈-turns, ≈-small, difference_adds, ◌≈∙◌}
use Rattle.refusal.specs.Checks.{passed, outcome}
use Rattle.circuit.specs.declared.Gate.{Gate}
use Rattle.circuit.specs.declared.Gate.TheVariants.{Phase}
use Rattle.circuit.specs.Working.{AllSound}
use Rattle.circuit.specs.Bytes.{Bytes}
use Rattle.circuit.specs.File.{wires_of, gates_of, file_checks}
use Rattle.circuit.proofs.Callers.{good_file}
use Rattle.circuit.proofs.Files.{file_sound}
use Rattle.running.specs.Run.{end_from, total_from, phase_from}
use Rattle.running.specs.Masks.{Held, held, held_at, own_held, held_from, sum_met}
use Rattle.running.proofs.Runs.{end_xor, total_append}
use Rattle.running.proofs.Held.{held_parity, sum_behind}
use Rattle.coefficients.specs.Coefficients.{sign, coefficient}
use Rattle.coefficients.proofs.Polynomials.{flipped_mask as flipped-term, phase_polynomial}
use Rattle.promises.specs.Inverters.{with_phase, AddsFlipped}

-- minus a, as 65,535 times it
minus-≈ : (a : ℕ) → a < 65536 → 65535 * a ≈ difference 0 a
minus-≈ a h = ≈-cancel a (≈-of (let e : 65535 * a + a ≡ 0 + a * 65536 = omega arith in e) ≈∙ ≈-turns 0 a ≈∙ ≈_sym (difference_adds 0 a h))

module _ (w : ℕ) (gs : List Gate) (i a m : ℕ) (sound : AllSound w gs) (inside : i < w) (small : a < 65536) (holds : held_at (held_from gs (own_held w)) i ≡ held m 1) where
  -- what the gate behind the others adds to a sum over the phase gates
  one_more : (f : Held → ℕ → ℕ) → sum_met f (with_phase gs i a) (own_held w) ≡ sum_met f gs (own_held w) + f (held m 1) a
  unfolding sum_met
  one_more f = sum_behind f gs (Phase i a ∷ []) (own_held w) ∙ ap (sum_met f gs (own_held w) +◌) (add-zero (f (held_at (held_from gs (own_held w)) i) a) ∙ ap (λ (h : Held). f h a) holds)

  -- and to a run
  runs_on : (x : ℕ) → total_from (with_phase gs i a) x ≡ total_from gs x + a * ((1 + dot m x) % 2)
  unfolding total_from
  runs_on x =
      total_append gs (Phase i a ∷ []) x
      ∙ ap (total_from gs x +◌) (add-zero (a * bit (end_from gs x) i) ∙ ap (a *◌) (held_parity w gs sound x i inside ∙ ap (λ (h : Held). (h.flip + dot h.mask x) % 2) holds))

  -- "A phase of a on a flipped mask adds a constant a and minus a on the mask."
  pub flipped_mask : AddsFlipped w gs i a m
  unfolding coefficient
  flipped_mask = record {
    phase = λ x.
        (≈-of (runs_on x) ≈∙ ≈-add (≈_sym (≈-mod (total_from gs x))) (flipped-term a m x ≈∙ ≈-add (≈_refl {a = a}) (≈-scale (dot m x) (minus-≈ a small)))).alike;
    constant =
        (≈-of (one_more (λ h b. h.flip * b)) ≈∙ ≈-add (≈_sym (≈-mod (sum_met (λ h b. h.flip * b) gs (own_held w)))) (≈-of (one-mul a))).alike;
    sets = λ s.
        let k = 65534 ^ (ones (suc s) - 1) in
        let f : Held → ℕ → ℕ = λ h b. subset (suc s) h.mask * (sign h.flip * b) in
        let t = sum_met f gs (own_held w) in
        (≈-of (ap (k *◌) (one_more f) ∙ (let e : k * (t + subset (suc s) m * (65535 * a)) ≡ k * t + k * (subset (suc s) m * (65535 * a)) = omega arith in e))
        ≈∙ ≈-add (≈_sym (≈-mod (k * t))) (≈-mul (≈_refl {a = k}) (≈-mul (≈_refl {a = subset (suc s) m}) (minus-≈ a small)))).alike;
  }

module _ (f : List ℕ) (bytes : Bytes f) (good : outcome (file_checks 0 f) ≡ passed) (x : ℕ) (h : x < 2 ^ wires_of f) where
  -- a run's phase is the wrapped sum of the coefficients over the subsets of the start, the empty set among them
  pub phase_by_coefficients : phase_from (gates_of f) x ≡ sum (2 ^ wires_of f) (λ s. subset s x * coefficient (wires_of f) (gates_of f) s) % 65536
  phase_by_coefficients =
      ≈-small (omega arith) (omega arith)
      (phase_polynomial (wires_of f) (gates_of f) x (file_sound f bytes (good_file 0 f good)) h ≈∙ ≈_sym (≈-mod (sum (2 ^ wires_of f) (λ s. subset s x * coefficient (wires_of f) (gates_of f) s))))

  -- its end is the exclusive or of the single-wire starts' ends over the start's bits, with start 0's end where they are evenly many
  pub end_by_starts : end_from (gates_of f) x ≡ sum_of ((ones x + 1) % 2 * end_from (gates_of f) 0) bit_xor (wires_of f) (λ i. bit x i * end_from (gates_of f) (2 ^ i))
  end_by_starts = by_bits (end_from (gates_of f)) (end_xor (gates_of f)) (wires_of f) x h
