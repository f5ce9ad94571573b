-- 01, "Running, counting, folding": the folded gate list, gate by gate and by position, and what the operation answers.
use Rattle.std.specs.Prelude.{ℕ, zero, suc, List, [], ◌∷◌, ◌++◌, length}
use Rattle.refusal.specs.Checks.{Check, outcome, room_check}
use Rattle.refusal.specs.Contract.{Said, answer_says, Meets}
use Rattle.circuit.specs.declared.Gate.{Gate}
use Rattle.circuit.specs.declared.Gate.TheVariants.{Cnot, Phase, Inverter}
use Rattle.circuit.specs.File.{version_of, wires_of, gates_of, file_checks, file_of}
use Rattle.running.specs.Run.{score}
use Rattle.running.specs.Groups.{group_total, held_before, earlier}
use Rattle.std.specs.Prelude.{Result}
use Rattle.refusal.specs.declared.Refusal.{Refusal}
use Rattle.fold.specs.declared.Folded.{Folded}

-- "if the sum is 0 the first goes too"
abbrev pub kept : ℕ → ℕ → List Gate
kept i zero = []
kept i (suc a) = Phase i (suc a) ∷ []

-- "The group's first gate stays ..; the others go"
abbrev pub first_only : ℕ → List Gate → List Gate
first_only zero gs = gs
first_only (suc n) gs = []

-- "The group's first gate stays in its place with the wrapped sum of the group"; "CNOTs stay", and so do inverters
abbrev pub becomes : ℕ → List Gate → ℕ → Gate → List Gate
becomes w gs p (Cnot c t) = Cnot c t ∷ []
becomes w gs p (Phase i a) = first_only (earlier w gs p (held_before w gs p i)) (kept i (group_total w gs (held_before w gs p i)))
becomes w gs p (Inverter i) = Inverter i ∷ []

-- "in order": what becomes of the gates from position p on
unfoldable pub folded_from : ℕ → List Gate → ℕ → List Gate → List Gate
folded_from w gs p [] = []
folded_from w gs p (g ∷ rest) = becomes w gs p g ++ folded_from w gs (suc p) rest

-- "Folding: phase gates met at the same mask are one group", by 02 §12 "where mask and flip both agree": all gates of a list on w wires
abbrev pub folded : ℕ → List Gate → List Gate
folded w gs = folded_from w gs 0 gs

-- "the new file", on the same wires; 02 §12, "Folding .. write[s] the input's version"
abbrev pub folded_file : List ℕ → List ℕ
folded_file f = file_of (version_of f) (wires_of f) (folded (wires_of f) (gates_of f))

-- rows 4 to 10, then 13 "output slice shorter than this call's result"
abbrev pub fold_checks : List ℕ → ℕ → List Check
fold_checks f room = file_checks 0 f ++ room_check room (length (folded_file f))

-- "It answers the new file's length with the scores before and after."
abbrev pub folded_says : Result Folded Refusal → Said
folded_says = answer_says (λ (a : Folded). a.length ∷ a.before ∷ a.after ∷ [])

-- the contract of fold
abbrev pub Folds : List ℕ → List ℕ → Result Folded Refusal → List ℕ → Type 0
Folds f out answer after =
    Meets folded_says (outcome (fold_checks f (length out))) (length (folded_file f) ∷ score (gates_of f) ∷ score (folded (wires_of f) (gates_of f)) ∷ []) (folded_file f) out answer after
