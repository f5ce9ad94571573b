-- 01, "Circuit file": a gate's four bytes, which of them are bad and why, and the gates of a row of bytes.
use Rattle.std.specs.Prelude.{ℕ, zero, suc, ◌+◌, ◌*◌, ◌/◌, ◌%◌, Bool, not, ◌||◌, ◌&&◌, cond, List, [], ◌∷◌, ◌++◌, leb, eqb, get_or, drop, Option, Some, None, Result, Ok, Err}
use Rattle.circuit.specs.declared.Gate.{Gate}
use Rattle.circuit.specs.declared.Gate.TheVariants.{Cnot, Phase, Inverter}
use Rattle.refusal.specs.declared.Reason.{Reason}
use Rattle.refusal.specs.declared.Reason.TheVariants.{Kind, Wire, Equal, Spare}
use Rattle.circuit.specs.declared.Placed.{Placed}

-- "A gate is bad if its kind is neither 1 nor 2, .."; 02 §12, "File version 2 admits kind 3", and no other version does
abbrev pub bad_kind : ℕ → ℕ → Bool
bad_kind version kind = (not (eqb kind 1) && not (eqb kind 2)) && (not (eqb kind 3) || not (eqb version 2))

-- ".. a wire isn't below w, ..": the second byte, and of a CNOT the third too
abbrev pub bad_wire : ℕ → ℕ → ℕ → ℕ → Bool
bad_wire w kind a b = leb w a || (eqb kind 1 && leb w b)

-- ".. control equals target, .."
abbrev pub equal_wires : ℕ → ℕ → ℕ → Bool
equal_wires kind a b = eqb kind 1 && eqb a b

-- ".. or a CNOT's last byte isn't 0."; 02 §4, "the spare byte only for a CNOT"; 02 §12, "a nonzero byte in the last two of kind 3 is the spare reason"
abbrev pub bad_spare : ℕ → ℕ → ℕ → Bool
bad_spare kind b c = (eqb kind 1 && not (eqb c 0)) || (eqb kind 3 && (not (eqb b 0) || not (eqb c 0)))

-- "CNOT: 01, control, target, 00. Phase: 02, wire, angle in 16 bits", "high byte first"; 02 §12, "03, wire, 00, 00": the gate that four bytes say, where they are good
abbrev pub gate_said : ℕ → ℕ → ℕ → ℕ → Gate
gate_said kind a b c = cond (eqb kind 1) (Cnot a b) (cond (eqb kind 3) (Inverter a) (Phase a (b * 256 + c)))

-- a gate "held with its position from 0", or the reason why it is none
abbrev pub Decoded : Type 0
Decoded = Result Placed Reason

abbrev pub good : ℕ → Gate → Decoded
good p g = Ok (record { position = p; gate = g })

-- 02 §4, "The gate decoder answers its reason: kind, wire, equal wires, spare byte, tried in that order"; 02 §12, it "takes the version too"; 01, "The zero angle is good."
unfoldable pub decoded : ℕ → ℕ → ℕ → ℕ → ℕ → ℕ → ℕ → Decoded
decoded version w p kind a b c =
    cond (bad_kind version kind) (Err Kind)
    (cond (bad_wire w kind a b) (Err Wire)
    (cond (equal_wires kind a b) (Err Equal)
    (cond (bad_spare kind b c) (Err Spare)
    (good p (gate_said kind a b c)))))

-- what is wrong with a gate; nothing where it is good
abbrev pub reason_of : Decoded → Option Reason
reason_of (Ok g) = None
reason_of (Err x) = Some x

-- the next four bytes as the gate at position p
abbrev pub decoded_at : ℕ → ℕ → ℕ → List ℕ → Decoded
decoded_at version w p bs = decoded version w p (get_or bs 0 0) (get_or bs 1 0) (get_or bs 2 0) (get_or bs 3 0)

abbrev pub first_if : Decoded → ℕ → ℕ → ℕ
first_if (Ok g) p rest = rest
first_if (Err x) p rest = p

-- "the position of the first bad gate" of n from position p on; p + n where none is bad
unfoldable pub first_bad : ℕ → ℕ → ℕ → ℕ → List ℕ → ℕ
first_bad version w zero p bs = p
first_bad version w (suc n) p bs = first_if (decoded_at version w p bs) p (first_bad version w n (suc p) (drop 4 bs))

abbrev pub cons_if : Decoded → List Gate → List Gate
cons_if (Ok g) gs = g.gate ∷ gs
cons_if (Err x) gs = gs

-- the gates of n fours of bytes, in order
unfoldable pub gates_from : ℕ → ℕ → ℕ → ℕ → List ℕ → List Gate
gates_from version w zero p bs = []
gates_from version w (suc n) p bs = cons_if (decoded_at version w p bs) (gates_from version w n (suc p) (drop 4 bs))

-- "4 bytes a gate; high byte first"
abbrev pub gate_bytes : Gate → List ℕ
gate_bytes (Cnot c t) = 1 ∷ c ∷ t ∷ 0 ∷ []
gate_bytes (Phase i a) = 2 ∷ i ∷ a / 256 ∷ a % 256 ∷ []
gate_bytes (Inverter i) = 3 ∷ i ∷ 0 ∷ 0 ∷ []

unfoldable pub bytes_of : List Gate → List ℕ
bytes_of [] = []
bytes_of (g ∷ gs) = gate_bytes g ++ bytes_of gs
