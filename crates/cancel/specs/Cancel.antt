-- 02 §9, "Cancel CNOT pairs": a single step, the steps that are made, and what the operation answers.
use Rattle.std.specs.Prelude.{ℕ, zero, suc, Bool, false, ◌||◌, ◌&&◌, cond, List, [], ◌∷◌, ◌++◌, eqb, length, drop}
use Rattle.refusal.specs.Names.{refusal, ALLOW}
use Rattle.refusal.specs.Checks.{Check, check, less, outcome, room_check}
use Rattle.refusal.specs.Contract.{Said, answer_says, Meets}
use Rattle.circuit.specs.declared.Gate.{Gate}
use Rattle.circuit.specs.declared.Gate.TheVariants.{Cnot, Phase, Inverter}
use Rattle.circuit.specs.File.{version_of, wires_of, gates_of, file_checks, file_of}
use Rattle.std.specs.Prelude.{Result}
use Rattle.refusal.specs.declared.Refusal.{Refusal}
use Rattle.cancel.specs.declared.Cancelled.{Cancelled}

-- "equal .. CNOTs": the same control and the same target
abbrev pub twins : Gate → Gate → Bool
twins (Cnot c t) (Cnot d u) = eqb c d && eqb t u
twins (Cnot c t) (Phase i a) = false
twins (Cnot c t) (Inverter i) = false
twins (Phase i a) h = false
twins (Inverter i) h = false

-- "neighbouring": a pair begins with a gate whose twin comes next
abbrev pub begins : Gate → List Gate → Bool
begins g [] = false
begins g (h ∷ gs) = twins g h

-- whether there is a pair
unfoldable pub paired : List Gate → Bool
paired [] = false
paired (g ∷ gs) = begins g gs || paired gs

-- "Remove the pair of equal neighbouring CNOTs that begins at the lowest position": the first that is met from position 0 on
unfoldable pub removed : List Gate → List Gate
removed [] = []
removed (g ∷ gs) = cond (begins g gs) (drop 1 gs) (g ∷ removed gs)

-- "repeat on what remains": a single step more for each removal that is allowed, while there is a pair
unfoldable pub cancelled : ℕ → List Gate → List Gate
cancelled zero gs = gs
cancelled (suc most) gs = cond (paired gs) (cancelled most (removed gs)) gs

-- "how many pairs went": "the number of such single steps"
unfoldable pub steps : ℕ → List Gate → ℕ
steps zero gs = 0
steps (suc most) gs = cond (paired gs) (suc (steps most (removed gs))) 0

-- the new file, on the same wires; 02 §12, "§9 write[s] the input's version"
abbrev pub cancelled_file : List ℕ → ℕ → List ℕ
cancelled_file f most = file_of (version_of f) (wires_of f) (cancelled most (gates_of f))

-- "the most removals allowed, 0 to 2,048"
abbrev pub most_allowed : ℕ
most_allowed = 2048

-- "18 ALLOW above 2,048"
abbrev pub allow_check : ℕ → List Check
allow_check most = check (less most_allowed most) (refusal ALLOW) ∷ []

-- "Refusals: the file's own, then 18 ALLOW above 2,048, then 13."
abbrev pub cancel_checks : List ℕ → ℕ → ℕ → List Check
cancel_checks f most room = file_checks 0 f ++ (allow_check most ++ room_check room (length (cancelled_file f most)))

-- the new file's length, and "the answer says how many pairs went"
abbrev pub cancelled_says : Result Cancelled Refusal → Said
cancelled_says = answer_says (λ (a : Cancelled). a.length ∷ a.pairs ∷ [])

-- the contract of cancel
abbrev pub Cancels : List ℕ → ℕ → List ℕ → Result Cancelled Refusal → List ℕ → Type 0
Cancels f most out answer after =
    Meets cancelled_says (outcome (cancel_checks f most (length out))) (length (cancelled_file f most) ∷ steps most (gates_of f) ∷ []) (cancelled_file f most) out answer after
