-- 01, "Listing": the text of a circuit, line by line, and what the operation answers.
use Rattle.std.specs.Prelude.{ℕ, ◌-◌, Bool, true, false, List, [], ◌∷◌, ◌++◌, length}
use Rattle.refusal.specs.Names.{refusal, LOOSE}
use Rattle.refusal.specs.Checks.{Check, check, less, outcome, room_check}
use Rattle.refusal.specs.Contract.{Said, answer_says, Meets}
use Rattle.circuit.specs.declared.Gate.{Gate}
use Rattle.circuit.specs.declared.Gate.TheVariants.{Cnot, Phase, Inverter}
use Rattle.circuit.specs.File.{wires_of, gates_of, file_checks}
use Rattle.running.specs.Ends.{lowest_loose}
use Rattle.std.specs.Prelude.{Result}
use Rattle.refusal.specs.declared.Refusal.{Refusal}
use Rattle.listing.specs.Text.{numbered}
use Rattle.listing.specs.Words.{words}
use Rattle.listing.specs.Fractions.{Fraction, fraction_of}

-- "`OPENQASM 2.0;`, `include "qelib1.inc";`, `qreg q[W];`"
unfoldable pub head_lines : ℕ → List ℕ
head_lines w = words.version ++ (words.include ++ (numbered words.register w ++ words.closing))

-- "if wrapped `h q[W-1];`"
unfoldable pub wrap_line : Bool → ℕ → List ℕ
wrap_line false w = []
wrap_line true w = numbered words.hadamard (w - 1) ++ words.closing

-- "CNOT: `cx q[c],q[t];`"
unfoldable pub cnot_line : ℕ → ℕ → List ℕ
cnot_line c t = numbered words.cnot c ++ (numbered words.target t ++ words.closing)

-- "Phase: `u1(K*pi/D) q[i];`"
unfoldable pub phase_line : ℕ → Fraction → List ℕ
phase_line i f = numbered words.phase f.above ++ (numbered words.over f.below ++ (numbered words.wire i ++ words.closing))

-- 02 §12, "the text forms say `x q[i];`"
unfoldable pub inverter_line : ℕ → List ℕ
inverter_line i = numbered words.inverter i ++ words.closing

-- the line of a gate
abbrev pub gate_line : Gate → List ℕ
gate_line (Cnot c t) = cnot_line c t
gate_line (Phase i a) = phase_line i (fraction_of a)
gate_line (Inverter i) = inverter_line i

-- "one line a gate"
unfoldable pub gate_lines : List Gate → List ℕ
gate_lines [] = []
gate_lines (g ∷ gs) = gate_line g ++ gate_lines gs

-- the header, "if wrapped `h q[W-1];`, one line a gate, if wrapped the h line again"
unfoldable pub listing_of : Bool → ℕ → List Gate → List ℕ
listing_of wrapped w gs = head_lines w ++ (wrap_line wrapped w ++ (gate_lines gs ++ wrap_line wrapped w))

-- the listing of a file
abbrev pub listing_of_file : Bool → List ℕ → List ℕ
listing_of_file wrapped f = listing_of wrapped (wires_of f) (gates_of f)

-- 02 §8, "The wrapped listing is refused unless every wire ends on its own mask." "17 LOOSE, .. wrapped listing only"
abbrev pub loose_check : Bool → ℕ → List Gate → List Check
loose_check false w gs = []
loose_check true w gs = check (less (lowest_loose w gs) w) (refusal LOOSE) ∷ []

-- rows 4 to 10, then 17 "after 10 and before 13", then 13 "output slice shorter than this call's result"
abbrev pub list_checks : Bool → List ℕ → ℕ → List Check
list_checks wrapped f room = file_checks 0 f ++ (loose_check wrapped (wires_of f) (gates_of f) ++ room_check room (length (listing_of_file wrapped f)))

-- the answer is the text's length
abbrev pub listed_says : Result ℕ Refusal → Said
listed_says = answer_says (λ (l : ℕ). l ∷ [])

-- the contract of list
abbrev pub Lists : Bool → List ℕ → List ℕ → Result ℕ Refusal → List ℕ → Type 0
Lists wrapped f out answer after =
    Meets listed_says (outcome (list_checks wrapped f (length out))) (length (listing_of_file wrapped f) ∷ []) (listing_of_file wrapped f) out answer after

-- "`refused N` and a newline"
unfoldable pub refused_line : ℕ → List ℕ
refused_line number = numbered words.refused number ++ words.newline

-- the contract of a function that writes a text and has nothing else to refuse: row 13 where out is shorter
abbrev pub Writes : List ℕ → List ℕ → Result ℕ Refusal → List ℕ → Type 0
Writes text out answer after = Meets listed_says (outcome (room_check (length out) (length text))) (length text ∷ []) text out answer after
