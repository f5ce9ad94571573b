-- 01, "Running, counting": a run as a recursion over the gates, and the counts; the score is by 02 §2, inverters are by 02 §12.
use Rattle.std.specs.Prelude.{ℕ, ◌+◌, ◌*◌, ◌%◌, ◌^◌, not, List, [], ◌∷◌, ◌++◌, ◌==◌, bit_xor, Result}
use Rattle.numbers.specs.Bits.{bit, indicator}
use Rattle.refusal.specs.declared.Refusal.{Refusal}
use Rattle.refusal.specs.Names.{refusal, STATE}
use Rattle.refusal.specs.Checks.{Check, check, at_least, outcome}
use Rattle.refusal.specs.Contract.{Said, answer_says, Says}
use Rattle.circuit.specs.declared.Gate.{Gate}
use Rattle.circuit.specs.declared.Gate.TheVariants.{Cnot, Phase, Inverter}
use Rattle.running.specs.declared.Ran.{Ran}
use Rattle.running.specs.declared.Counted.{Counted}
use Rattle.circuit.specs.File.{file_checks, wires_of, gates_of}

-- "CNOT: the target bit becomes target XOR control."; an inverter flips its wire's bit
abbrev pub stepped : Gate → ℕ → ℕ
stepped (Cnot c t) s = bit_xor s (bit s c * 2 ^ t)
stepped (Phase i a) s = s
stepped (Inverter i) s = bit_xor s (2 ^ i)

-- "Phase: if the wire's bit is 1, the angle is added"
abbrev pub added : Gate → ℕ → ℕ
added (Cnot c t) s = 0
added (Phase i a) s = a * bit s i
added (Inverter i) s = 0

-- the end state of a run from s
unfoldable pub end_from : List Gate → ℕ → ℕ
end_from [] s = s
end_from (g ∷ gs) s = end_from gs (stepped g s)

-- the total of a run from s, before it wraps
unfoldable pub total_from : List Gate → ℕ → ℕ
total_from [] s = 0
total_from (g ∷ gs) s = added g s + total_from gs (stepped g s)

-- "the angle is added, wrapping"
abbrev pub phase_from : List Gate → ℕ → ℕ
phase_from gs s = total_from gs s % 65536

-- the file's rows, then "start not below 2^w"
abbrev pub run_checks : List ℕ → ℕ → List Check
run_checks f start = file_checks 0 f ++ (check (at_least start (2 ^ wires_of f)) (refusal STATE) ∷ [])

-- "A run answers the end state and the total."
abbrev pub ran_says : Result Ran Refusal → Said
ran_says = answer_says (λ (r : Ran). r.state ∷ r.phase ∷ [])

-- the contract of run
abbrev pub Runs : List ℕ → ℕ → Result Ran Refusal → Type 0
Runs f start answer = Says ran_says (outcome (run_checks f start)) (end_from (gates_of f) start ∷ phase_from (gates_of f) start ∷ []) answer

-- "The count answers CNOTs, phase gates, and score."
unfoldable pub cnots : List Gate → ℕ
cnots [] = 0
cnots (Cnot c t ∷ gs) = 1 + cnots gs
cnots (Phase i a ∷ gs) = cnots gs
cnots (Inverter i ∷ gs) = cnots gs

unfoldable pub phases : List Gate → ℕ
phases [] = 0
phases (Cnot c t ∷ gs) = phases gs
phases (Phase i a ∷ gs) = 1 + phases gs
phases (Inverter i ∷ gs) = phases gs

-- 02 §12, "The count answers the X gates too"
unfoldable pub inverters : List Gate → ℕ
inverters [] = 0
inverters (Cnot c t ∷ gs) = inverters gs
inverters (Phase i a ∷ gs) = inverters gs
inverters (Inverter i ∷ gs) = 1 + inverters gs

-- 02 §2, "Quarter and half turns cost nothing": the free angles are the multiples of this one
abbrev pub free_turn : ℕ
free_turn = 16384

-- 02 §2, 1 for an angle that "isn't a multiple of" d
abbrev pub scores : ℕ → ℕ → ℕ
scores d a = indicator (not (a % d == 0))

-- 02 §2, "the number of phase gates whose angle isn't a multiple of" d
unfoldable pub score_by : ℕ → List Gate → ℕ
score_by d [] = 0
score_by d (Cnot c t ∷ gs) = score_by d gs
score_by d (Phase i a ∷ gs) = scores d a + score_by d gs
score_by d (Inverter i ∷ gs) = score_by d gs

-- 02 §2, "The score becomes the number of phase gates whose angle isn't a multiple of 16,384."
abbrev pub score : List Gate → ℕ
score gs = score_by free_turn gs

abbrev pub counted : List Gate → Counted
counted gs = record { cnots = cnots gs; phases = phases gs; score = score gs; inverters = inverters gs }

abbrev pub counted_says : Result Counted Refusal → Said
counted_says = answer_says (λ (c : Counted). c.cnots ∷ c.phases ∷ c.score ∷ c.inverters ∷ [])

-- the contract of count
abbrev pub Counts : List ℕ → Result Counted Refusal → Type 0
Counts f answer = Says counted_says (outcome (file_checks 0 f)) (cnots (gates_of f) ∷ phases (gates_of f) ∷ score (gates_of f) ∷ inverters (gates_of f) ∷ []) answer
