-- Rules that 02 §9 does not name: what a program that follows one of them leaves.
use Rattle.std.specs.Prelude.{ℕ, zero, suc, ◌*◌, ◌≡◌, Bool, false, cond, List, [], ◌∷◌, ◌++◌, length, drop, Result, Ok}
use Rattle.refusal.specs.declared.Refusal.{Refusal}
use Rattle.circuit.specs.declared.Gate.{Gate}
use Rattle.circuit.specs.declared.Gate.TheVariants.{Cnot, Phase, Inverter}
use Rattle.circuit.specs.File.{version_of, wires_of, gates_of, file_of}
use Rattle.cancel.specs.declared.Cancelled.{Cancelled}
use Rattle.cancel.specs.Cancel.{twins, begins, paired, steps}

-- a step, so many times
abbrev pub repeated : (List Gate → List Gate) → ℕ → List Gate → List Gate
repeated step zero gs = gs
repeated step (suc most) gs = repeated step most (step gs)

-- not "at the lowest position": the highest pair first
unfoldable pub highest_removed : List Gate → List Gate
highest_removed [] = []
highest_removed (g ∷ gs) = cond (paired gs) (g ∷ highest_removed gs) (cond (begins g gs) (drop 1 gs) (g ∷ gs))

-- not "neighbouring": whether a gate's twin comes behind phase gates alone ..
unfoldable pub begins_across : Gate → List Gate → Bool
begins_across g [] = false
begins_across g (Cnot c t ∷ gs) = twins g (Cnot c t)
begins_across g (Phase i a ∷ gs) = begins_across g gs
begins_across g (Inverter i ∷ gs) = false

-- .. which stay
unfoldable pub first_cnot_removed : List Gate → List Gate
first_cnot_removed [] = []
first_cnot_removed (Cnot c t ∷ gs) = gs
first_cnot_removed (Phase i a ∷ gs) = Phase i a ∷ first_cnot_removed gs
first_cnot_removed (Inverter i ∷ gs) = Inverter i ∷ first_cnot_removed gs

unfoldable pub across_removed : List Gate → List Gate
across_removed [] = []
across_removed (g ∷ gs) = cond (begins_across g gs) (first_cnot_removed gs) (g ∷ across_removed gs)

-- not "repeat on what remains": one way through the gates, which never goes back to what is left; `waiting` is the gate before, where it has not gone
unfoldable pub swept : List Gate → List Gate → List Gate
swept waiting [] = waiting
swept [] (g ∷ gs) = swept (g ∷ []) gs
swept (h ∷ none) (g ∷ gs) = cond (twins h g) (swept [] gs) (h ∷ swept (g ∷ []) gs)

-- a program that leaves what a rule leaves; the inputs are the file, the allowance and the buffer
abbrev pub LeavesBy : {Answer : Type 0} → (ℕ → List Gate → List Gate) → List ℕ × ℕ × List ℕ → Answer → List ℕ → Type 0
LeavesBy rule input answer after =
    let file = file_of (version_of input.0) (wires_of input.0) (rule input.1 (gates_of input.0)) in
    after ≡ file ++ drop (length file) input.2

-- one that says how many gates went
abbrev pub CountsGates : List ℕ × ℕ × List ℕ → Result Cancelled Refusal → List ℕ → Type 0
CountsGates input answer after = (l : ℕ) × (answer ≡ Ok (record { length = l; pairs = 2 * steps input.1 (gates_of input.0) }))
