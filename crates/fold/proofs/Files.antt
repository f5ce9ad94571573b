-- The folded file: well-formed, of the same version, on the same wires, with the folded gates; the same runs; and folded again it is itself.
use Rattle.std.proofs.Common.{◌≡◌, ℕ, ◌≤◌, List, length, ap, ◌∙◌, ap₂, arith}
use Rattle.refusal.specs.Checks.{passed, outcome}
use Rattle.refusal.proofs.Rooms.{room_suffices}
use Rattle.circuit.specs.declared.Gate.{Gate}
use Rattle.circuit.specs.Working.{AllSound, AllAdmitted}
use Rattle.circuit.specs.File.{version_of, wires_of, gates_of, file_checks, file_of}
use Rattle.running.specs.Run.{end_from, phase_from}
use Rattle.running.specs.Ends.{lowest_loose}
use Rattle.circuit.specs.Bytes.{Bytes}
use Rattle.circuit.proofs.Callers.{good_file}
use Rattle.circuit.proofs.FileBytes.{file_bytes}
use Rattle.circuit.proofs.Files.{file_sound, file_admitted, length-gates, length-file, version_written, wires_written, list_written, written_passes}
use Rattle.fold.specs.Working.{moves_of}
use Rattle.fold.specs.Fold.{folded, folded_file, fold_checks}
use Rattle.fold.proofs.Folding.{folded_sound, folded_admitted, folded_shorter, folded_twice, same_moves, same_loose, same_end, same_phase}

-- 02 §12, "Folding .. write[s] the input's version"
pub same_version : (f : List ℕ) → version_of (folded_file f) ≡ version_of f
same_version f = version_written (version_of f) (wires_of f) (folded (wires_of f) (gates_of f))

pub same_wires : (f : List ℕ) → wires_of (folded_file f) ≡ wires_of f
same_wires f = wires_written (version_of f) (wires_of f) (folded (wires_of f) (gates_of f))

module _ (s : ℕ) (f : List ℕ) (bytes : Bytes f) (h : outcome (file_checks s f) ≡ passed) where
  sound : AllSound (wires_of f) (gates_of f)
  sound = file_sound f bytes (good_file s f h)

  still_sound : AllSound (wires_of f) (folded (wires_of f) (gates_of f))
  still_sound = folded_sound (wires_of f) (gates_of f) sound

  still_admitted : AllAdmitted (version_of f) (folded (wires_of f) (gates_of f))
  still_admitted = folded_admitted (wires_of f) (gates_of f) (version_of f) (file_admitted f bytes (good_file s f h))

  -- at most 2,048 gates, as before
  pub few_gates : length (folded (wires_of f) (gates_of f)) ≤ 2048
  few_gates = omega (arith, folded_shorter (wires_of f) (gates_of f), length-gates f bytes (good_file s f h), (good_file s f h).count)

  -- the folded file passes every check
  pub folded_passes : (t : ℕ) → outcome (file_checks t (folded_file f)) ≡ passed
  folded_passes t =
      let g = good_file s f h in
      written_passes (version_of f) (wires_of f) (folded (wires_of f) (gates_of f)) still_sound still_admitted t g.versioned g.known g.some g.few few_gates

  pub folded_bytes : Bytes (folded_file f)
  folded_bytes = let g = good_file s f h in file_bytes (version_of f) (wires_of f) (folded (wires_of f) (gates_of f)) (omega (arith, g.known)) (omega (arith, g.few)) (omega (arith, few_gates)) still_sound

  -- it is never longer than the file was
  pub file_shorter : length (folded_file f) ≤ length f
  file_shorter =
      let g = good_file s f h in
      omega (arith, length-file (version_of f) (wires_of f) (folded (wires_of f) (gates_of f)), folded_shorter (wires_of f) (gates_of f), length-gates f bytes g, g.whole)

  pub gates_of_folded : gates_of (folded_file f) ≡ folded (wires_of f) (gates_of f)
  gates_of_folded = list_written (version_of f) (wires_of f) (folded (wires_of f) (gates_of f)) still_sound still_admitted

  pub file_moves : moves_of (gates_of (folded_file f)) ≡ moves_of (gates_of f)
  file_moves = ap moves_of gates_of_folded ∙ same_moves (wires_of f) (gates_of f)

  -- and the lowest loose wire is the file's
  pub file_loose : lowest_loose (wires_of (folded_file f)) (gates_of (folded_file f)) ≡ lowest_loose (wires_of f) (gates_of f)
  file_loose = ap₂ lowest_loose (same_wires f) gates_of_folded ∙ same_loose (wires_of f) (gates_of f)

  -- every start ends in the same state with the same phase
  pub file_end : (x : ℕ) → end_from (gates_of (folded_file f)) x ≡ end_from (gates_of f) x
  file_end x = ap (λ (gs : List Gate). end_from gs x) gates_of_folded ∙ same_end (wires_of f) (gates_of f) x

  pub file_phase : (x : ℕ) → phase_from (gates_of (folded_file f)) x ≡ phase_from (gates_of f) x
  file_phase x = ap (λ (gs : List Gate). phase_from gs x) gates_of_folded ∙ same_phase (wires_of f) (gates_of f) sound x

  -- "folding the folded file changes nothing"
  pub file_twice : folded_file (folded_file f) ≡ folded_file f
  file_twice =
      ap₂ (λ (w : ℕ) (gs : List Gate). file_of (version_of (folded_file f)) w (folded w gs)) (same_wires f) gates_of_folded
      ∙ ap₂ (λ (v : ℕ) (gs : List Gate). file_of v (wires_of f) gs) (same_version f) (folded_twice (wires_of f) (gates_of f))

-- 8,200 bytes are room for every file's folding: only the file can be refused
pub fold_room : (f : List ℕ) → Bytes f → (room : ℕ) → 8200 ≤ room → outcome (fold_checks f room) ≡ outcome (file_checks 0 f)
fold_room f bytes room h = room_suffices (file_checks 0 f) room (length (folded_file f)) (λ e. let g = good_file 0 f e in omega (arith, file_shorter 0 f bytes e, g.whole, g.count))
