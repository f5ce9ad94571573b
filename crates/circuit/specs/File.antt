-- 01, "Circuit file": the header, the gate list, the checks of the table's rows 4 to 10, and the reader's answer.
use Rattle.std.specs.Prelude.{ℕ, ◌+◌, ◌*◌, ◌/◌, ◌%◌, cond, List, [], ◌∷◌, ◌++◌, leb, length, get_or, drop, Option, Result, Err}
use Rattle.refusal.specs.Names.{refusal_at, bad_gate, SHORT, MARK, VERSION, WIRES, COUNT, LENGTH}
use Rattle.refusal.specs.Checks.{Check, check, less, same, other, outcome}
use Rattle.refusal.specs.Contract.{Said, answer_says, Says}
use Rattle.circuit.specs.declared.Gate.{Gate}
use Rattle.refusal.specs.declared.Reason.{Reason}
use Rattle.refusal.specs.declared.Reason.TheVariants.{Kind}
use Rattle.refusal.specs.declared.Refusal.{Refusal}
use Rattle.circuit.specs.declared.Header.{Header}
use Rattle.circuit.specs.Gates.{Decoded, decoded_at, reason_of, first_bad, gates_from, bytes_of}

-- "Bytes 50 48 47 ("PHG"), version 1 (16 bits), wires (1 byte), gate count (16 bits), then 4 bytes a gate; high byte first"; 02 §12 adds version 2
abbrev pub mark_of : List ℕ → ℕ
mark_of f = (get_or f 0 0 * 256 + get_or f 1 0) * 256 + get_or f 2 0

abbrev pub version_of : List ℕ → ℕ
version_of f = get_or f 3 0 * 256 + get_or f 4 0

abbrev pub wires_of : List ℕ → ℕ
wires_of f = get_or f 5 0

abbrev pub count_of : List ℕ → ℕ
count_of f = get_or f 6 0 * 256 + get_or f 7 0

-- the gate list of a file
abbrev pub gates_of : List ℕ → List Gate
gates_of f = gates_from (version_of f) (wires_of f) (count_of f) 0 (drop 8 f)

-- "the position of the first bad gate"; the gate count where none is bad
abbrev pub bad_of : List ℕ → ℕ
bad_of f = first_bad (version_of f) (wires_of f) (count_of f) 0 (drop 8 f)

-- the i-th four bytes after the header, as the gate at position i; without a kind where they do not all lie in the file
abbrev pub gate_at : List ℕ → ℕ → Decoded
gate_at f i = cond (leb (12 + 4 * i) (length f)) (decoded_at (version_of f) (wires_of f) i (drop (8 + 4 * i) f)) (Err Kind)

-- 02 §4: the reason of the gate at position i
abbrev pub reason_at : List ℕ → ℕ → Option Reason
reason_at f i = reason_of (gate_at f i)

-- rows 4 to 10 of the table, for the file that is given as side s; 02 §12, "Refusal 6 is for versions other than 1 and 2"
abbrev pub file_checks : ℕ → List ℕ → List Check
file_checks s f =
    check (less (length f) 8) (refusal_at SHORT s 0)
    ∷ check (other (mark_of f) 0x504847) (refusal_at MARK s 0)
    ∷ check (same (version_of f) 0) (refusal_at VERSION s 0)
    ∷ check (less 2 (version_of f)) (refusal_at VERSION s 0)
    ∷ check (same (wires_of f) 0) (refusal_at WIRES s 0)
    ∷ check (less 10 (wires_of f)) (refusal_at WIRES s 0)
    ∷ check (less 2048 (count_of f)) (refusal_at COUNT s 0)
    ∷ check (other (length f) (8 + 4 * count_of f)) (refusal_at LENGTH s 0)
    ∷ check (less (bad_of f) (count_of f)) (bad_gate s (bad_of f) (reason_at f (bad_of f)))
    ∷ []

-- "Bytes 50 48 47 .., version .., wires .., gate count ..; high byte first"
abbrev pub header_bytes : ℕ → ℕ → ℕ → List ℕ
header_bytes version w g = 0x50 ∷ 0x48 ∷ 0x47 ∷ version / 256 ∷ version % 256 ∷ w ∷ g / 256 ∷ g % 256 ∷ []

-- the file of a gate list on w wires, of a version: the header, "then 4 bytes a gate"
unfoldable pub file_of : ℕ → ℕ → List Gate → List ℕ
file_of version w gs = header_bytes version w (length gs) ++ bytes_of gs

-- "The reader answers w and the gate count."
abbrev pub reading_says : Result Header Refusal → Said
reading_says = answer_says (λ (h : Header). h.wires ∷ h.gates ∷ [])

-- the contract of read_side: of the file that is given as side s
abbrev pub ReadsSide : ℕ → List ℕ → Result Header Refusal → Type 0
ReadsSide s f answer = Says reading_says (outcome (file_checks s f)) (wires_of f ∷ count_of f ∷ []) answer

-- the contract of read: a call's only file is side 0
abbrev pub Reads : List ℕ → Result Header Refusal → Type 0
Reads = ReadsSide 0
