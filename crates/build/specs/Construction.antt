-- 01, "The built circuit": its gates "in this order", its file, and what the operation answers.
use Rattle.std.specs.Prelude.{ℕ, zero, suc, ◌+◌, ◌^◌, List, [], ◌∷◌, ◌++◌, length}
use Rattle.numbers.specs.Sums.{sum_of}
use Rattle.numbers.specs.Turn.{difference}
use Rattle.refusal.specs.Checks.{Check, outcome, room_check}
use Rattle.refusal.specs.Contract.{Said, answer_says, Meets}
use Rattle.table.specs.Table.{table_checks, value_at}
use Rattle.spectrum.specs.Spectrum.{theta}
use Rattle.circuit.specs.declared.Gate.{Gate}
use Rattle.circuit.specs.declared.Gate.TheVariants.{Cnot, Phase}
use Rattle.circuit.specs.File.{file_of}
use Rattle.std.specs.Prelude.{Result}
use Rattle.refusal.specs.declared.Refusal.{Refusal}
use Rattle.build.specs.Gray.{turned, word}

-- one list of gates after another
abbrev pub in_turn : ℕ → (ℕ → List Gate) → List Gate
in_turn = sum_of [] ◌++◌

-- "then CNOT from wire d_k to wire i (none for i = 0)"
abbrev pub cnot_after : ℕ → ℕ → List Gate
cnot_after zero k = []
cnot_after (suc j) k = Cnot (turned (suc j) k) (suc j) ∷ []

-- "for k = 0 to 2^i - 1": a phase on wire i by the angle at v_k, "then CNOT"
abbrev pub block : ℕ → (ℕ → ℕ) → List Gate
block i angle_at = in_turn (2 ^ i) (λ k. Phase i (angle_at (word i k)) ∷ cnot_after i k)

-- an angle's opposite
abbrev pub minus : ℕ → ℕ
minus = difference 0

-- "1. phase 16,384 on wire n"
abbrev pub first_quarter : ℕ → List Gate
first_quarter n = Phase n 16384 ∷ []

-- "2. for i = 0 to n-1 ..: phase theta at (2^i + v_k) on wire i, then CNOT"
abbrev pub variables : ℕ → (ℕ → ℕ) → List Gate
variables n angle_at = in_turn n (λ i. block i (λ v. angle_at (2 ^ i + v)))

-- "3. .. with the words of n bits: phase minus theta at v_k on wire n, then CNOT"
abbrev pub target : ℕ → (ℕ → ℕ) → List Gate
target n angle_at = block n (λ v. minus (angle_at v))

-- "In this order"
unfoldable pub construction : ℕ → (ℕ → ℕ) → List Gate
construction n f = first_quarter n ++ variables n (theta n f) ++ target n (theta n f)

-- "Wires 0 to n-1 carry the variables, wire n the target y."; 02 §12, "the builders write 1"
abbrev pub built_file : ℕ → List ℕ → List ℕ
built_file n t = file_of 1 (n + 1) (construction n (value_at t))

-- rows 1 to 3, then 13 where out is shorter than the file: "the file is 2^(n+4) bytes"
abbrev pub build_checks : ℕ → List ℕ → ℕ → List Check
build_checks n t room = table_checks n t ++ room_check room (2 ^ (n + 4))

-- the answer is the file's length
abbrev pub built_says : Result ℕ Refusal → Said
built_says = answer_says (λ (l : ℕ). l ∷ [])

-- the contract of build
abbrev pub Builds : ℕ → List ℕ → List ℕ → Result ℕ Refusal → List ℕ → Type 0
Builds n t out answer after = Meets built_says (outcome (build_checks n t (length out))) (2 ^ (n + 4) ∷ []) (built_file n t) out answer after
