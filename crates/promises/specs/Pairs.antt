-- 02 §9, "Cancel CNOT pairs.", as a statement about the operation: its sentences and 02 §12's, and nothing of how the result is found.
use Rattle.std.specs.Prelude.{ℕ, ◌+◌, ◌*◌, ◌^◌, ◌≤◌, ◌≡◌, List, ◌++◌, length, drop, Result, Ok}
use Rattle.refusal.specs.declared.Refusal.{Refusal}
use Rattle.refusal.specs.Checks.{passed, outcome}
use Rattle.circuit.specs.Bytes.{Bytes}
use Rattle.circuit.specs.File.{version_of, wires_of, count_of, gates_of, file_checks}
use Rattle.verdict.specs.declared.Verdict.TheVariants.{Same}
use Rattle.verdict.specs.declared.Verdict.{Verdict}
use Rattle.verdict.specs.Judging.{Compares}
use Rattle.cancel.specs.declared.Cancelled.{Cancelled}
use Rattle.cancel.specs.Sentences.{Cancelling, others_of}

-- of a call that passes its checks: what it is given, what it answers, and the slice afterwards
pub record PaperCancelled (f : List ℕ) (most : ℕ) (out : List ℕ) (answer : Result Cancelled Refusal) (after : List ℕ) : Type 0 where
  pub file : List ℕ
  pub pairs : ℕ
  -- the new file's length; "the answer says how many pairs went"
  pub answers : answer ≡ Ok (record { length = length file; pairs = pairs })
  -- the new file, and nothing else, is written
  pub holds : after ≡ file ++ drop (length file) out
  -- it is a good file
  pub bytes : Bytes file
  pub good : (side : ℕ) → outcome (file_checks side file) ≡ passed
  -- 02 §12, "Folding and §9 write the input's version", on the same wires
  pub version : version_of file ≡ version_of f
  pub wires : wires_of file ≡ wires_of f
  -- "Remove the pair .. that begins at the lowest position; repeat on what remains.", "the number of such single steps", "if it is below the allowance no pair is left"
  pub cancels : Cancelling most (gates_of f) pairs (gates_of file)
  -- "The result is Same as its input": whatever compare answers of the two, with room enough
  pub same : (work : List ℕ) → 2 ^ wires_of f ≤ length work → (c : Result Verdict Refusal) (left : List ℕ) → Compares f file work c left → c ≡ Ok Same
  -- "the gate count falls by twice the number"
  pub falls : count_of file + 2 * pairs ≡ count_of f
  -- phase gates and inverters are those of the input, in order
  pub others : others_of (gates_of file) ≡ others_of (gates_of f)
