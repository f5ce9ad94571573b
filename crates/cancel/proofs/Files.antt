-- The new file: well-formed, of the same version, on the same wires, with what the steps leave; fewer gates by two for each pair, and the same runs.
use Prim.Native.Nat.{ℕ, ◌+◌, ◌*◌, ◌≤◌}
use native.Mathlib.Omega.{arith}
use mathlib.Core.Path.{◌≡◌, sym, ap, subst, ◌∙◌}
use mathlib.Core.List.{List}
use lib.ListN.{length}
use Rattle.refusal.specs.Checks.{passed, outcome}
use Rattle.circuit.specs.declared.Gate.{Gate}
use Rattle.circuit.specs.Bytes.{Bytes}
use Rattle.circuit.specs.Working.{AllSound, AllAdmitted}
use Rattle.circuit.specs.File.{version_of, wires_of, count_of, gates_of, file_checks}
use Rattle.circuit.proofs.Callers.{good_file}
use Rattle.circuit.proofs.FileBytes.{file_bytes}
use Rattle.circuit.proofs.Files.{file_sound, file_admitted, length-gates, length-file, version_written, wires_written, count_written, list_written, written_passes}
use Rattle.running.specs.Run.{end_from, phase_from}
use Rattle.cancel.specs.Cancel.{cancelled, steps, cancelled_file, most_allowed}
use Rattle.cancel.specs.Sentences.{Pair, Cancelling, others_of}
use Rattle.cancel.proofs.Steps.{falls_by_two, same_others, cancelled_admitted, cancelled_sound, same_end, same_phase}
use Rattle.cancel.proofs.Sentences.{cancelled_cancels}

module _ (f : List ℕ) (most : ℕ) where
  -- 02 §12, "Folding and §9 write the input's version"
  pub same_version : version_of (cancelled_file f most) ≡ version_of f
  same_version = version_written (version_of f) (wires_of f) (cancelled most (gates_of f))

  pub same_wires : wires_of (cancelled_file f most) ≡ wires_of f
  same_wires = wires_written (version_of f) (wires_of f) (cancelled most (gates_of f))

module _ (s : ℕ) (f : List ℕ) (bytes : Bytes f) (h : outcome (file_checks s f) ≡ passed) where
  sound : AllSound (wires_of f) (gates_of f)
  sound = file_sound f bytes (good_file s f h)

  module _ (most : ℕ) where
    abbrev left : List Gate
    left = cancelled most (gates_of f)

    still_sound : AllSound (wires_of f) left
    still_sound = cancelled_sound (wires_of f) most (gates_of f) sound

    still_admitted : AllAdmitted (version_of f) left
    still_admitted = cancelled_admitted (version_of f) most (gates_of f) (file_admitted f bytes (good_file s f h))

    pub few_gates : length left ≤ 2048
    few_gates = omega (arith, falls_by_two most (gates_of f), length-gates f bytes (good_file s f h), (good_file s f h).count)

    -- the new file passes every check
    pub cancelled_passes : (t : ℕ) → outcome (file_checks t (cancelled_file f most)) ≡ passed
    cancelled_passes t =
        let g = good_file s f h in
        written_passes (version_of f) (wires_of f) left still_sound still_admitted t g.versioned g.known g.some g.few few_gates

    pub gates_of_cancelled : gates_of (cancelled_file f most) ≡ left
    gates_of_cancelled = list_written (version_of f) (wires_of f) left still_sound still_admitted

    pub cancelled_bytes : Bytes (cancelled_file f most)
    cancelled_bytes = let g = good_file s f h in file_bytes (version_of f) (wires_of f) left (omega (arith, g.known)) (omega (arith, g.few)) (omega (arith, few_gates)) still_sound

    -- eight bytes go with each pair
    pub length-falls : length (cancelled_file f most) + 8 * steps most (gates_of f) ≡ length f
    length-falls =
        let g = good_file s f h in
        omega (arith, length-file (version_of f) (wires_of f) left, falls_by_two most (gates_of f), length-gates f bytes g, g.whole)

    -- so it is never longer than the file was
    pub file_shorter : length (cancelled_file f most) ≤ length f
    file_shorter = omega (arith, length-falls)

    -- "the gate count falls by twice the number"
    pub count_falls : count_of (cancelled_file f most) + 2 * steps most (gates_of f) ≡ count_of f
    count_falls = omega (arith, count_written (version_of f) (wires_of f) left, falls_by_two most (gates_of f), length-gates f bytes (good_file s f h))

    -- the number and the new file's gates are what 02 says of them
    pub file_cancels : Cancelling most (gates_of f) (steps most (gates_of f)) (gates_of (cancelled_file f most))
    file_cancels = subst (Cancelling most (gates_of f) (steps most (gates_of f))) (sym gates_of_cancelled) (cancelled_cancels most (gates_of f))

    -- phase gates and inverters are the file's, in order
    pub file_others : others_of (gates_of (cancelled_file f most)) ≡ others_of (gates_of f)
    file_others = ap others_of gates_of_cancelled ∙ same_others most (gates_of f)

    -- every start ends in the same state with the same phase
    pub file_end : (x : ℕ) → end_from (gates_of (cancelled_file f most)) x ≡ end_from (gates_of f) x
    file_end x = ap (λ (gs : List Gate). end_from gs x) gates_of_cancelled ∙ same_end (wires_of f) most (gates_of f) sound x

    pub file_phase : (x : ℕ) → phase_from (gates_of (cancelled_file f most)) x ≡ phase_from (gates_of f) x
    file_phase x = ap (λ (gs : List Gate). phase_from gs x) gates_of_cancelled ∙ same_phase (wires_of f) most (gates_of f) sound x

  -- a file has at most 1,024 pairs to lose, so from there on the allowance leaves none
  pub never_spent : (most : ℕ) → steps most (gates_of f) ≤ 1024
  never_spent most = omega (arith, falls_by_two most (gates_of f), length-gates f bytes (good_file s f h), (good_file s f h).count)

  pub all_gone : (p : ℕ) → Pair (gates_of (cancelled_file f most_allowed)) p → ⊥
  all_gone = (file_cancels most_allowed).none (omega (arith, never_spent most_allowed))
