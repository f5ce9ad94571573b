-- 02 §4, "The gate decoder answers its reason: kind, wire, equal wires, spare byte, tried in that order, and the spare byte only for a CNOT. Refusal 10 hands the reason on everywhere.": as statements.
use Rattle.std.specs.Prelude.{ℕ, ◌≤◌, ◌<◌, ◌≡◌, ◌⊎◌, ◌↔◌, List, None, Ok, Err}
use Rattle.refusal.specs.declared.Refusal.{Refusal}
use Rattle.refusal.specs.Names.{reason_number, reason_said, GATE}
use Rattle.circuit.specs.declared.Placed.{Placed}
use Rattle.refusal.specs.declared.Reason.{Reason}
use Rattle.refusal.specs.declared.Reason.TheVariants.{Kind, Wire, Equal, Spare}
use Rattle.circuit.specs.Gates.{decoded, good, gate_said}
use Rattle.circuit.specs.File.{count_of, gate_at}

-- 01, "A gate is bad if its kind is neither 1 nor 2, a wire isn't below w, control equals target, or a CNOT's last byte isn't 0.": the four faults, as facts
-- 02 §12, "File version 2 admits kind 3"
abbrev pub BadKind : ℕ → ℕ → Type 0
BadKind version kind = (¬ (kind ≡ 1) × ¬ (kind ≡ 2)) × (¬ (kind ≡ 3) ⊎ ¬ (version ≡ 2))

abbrev pub BadWire : ℕ → ℕ → ℕ → ℕ → Type 0
BadWire w kind a b = (w ≤ a) ⊎ ((kind ≡ 1) × (w ≤ b))

abbrev pub EqualWires : ℕ → ℕ → ℕ → Type 0
EqualWires kind a b = (kind ≡ 1) × (a ≡ b)

-- 02 §12, "a nonzero byte in the last two of kind 3 is the spare reason"
abbrev pub BadSpare : ℕ → ℕ → ℕ → Type 0
BadSpare kind b c = ((kind ≡ 1) × ¬ (c ≡ 0)) ⊎ ((kind ≡ 3) × (¬ (b ≡ 0) ⊎ ¬ (c ≡ 0)))

-- "tried in that order": of several faults the first is the reason; without one the gate is good
pub record FirstFault (version w p kind a b c : ℕ) : Type 0 where
  pub kind_first : (decoded version w p kind a b c ≡ Err Kind) ↔ BadKind version kind
  pub then_wire : (decoded version w p kind a b c ≡ Err Wire) ↔ (¬ (BadKind version kind) × BadWire w kind a b)
  pub then_equal : (decoded version w p kind a b c ≡ Err Equal) ↔ (¬ (BadKind version kind) × ¬ (BadWire w kind a b) × EqualWires kind a b)
  pub then_spare : (decoded version w p kind a b c ≡ Err Spare) ↔ (¬ (BadKind version kind) × ¬ (BadWire w kind a b) × ¬ (EqualWires kind a b) × BadSpare kind b c)
  pub else_good : (decoded version w p kind a b c ≡ good p (gate_said kind a b c)) ↔ (¬ (BadKind version kind) × ¬ (BadWire w kind a b) × ¬ (EqualWires kind a b) × ¬ (BadSpare kind b c))

-- the gate at position p is the file's first bad one, and x the number of its reason
pub record FirstBadGate (f : List ℕ) (p x : ℕ) : Type 0 where
  pub inside : p < count_of f
  pub reason : Reason
  pub bad : gate_at f p ≡ Err reason
  pub number : x ≡ reason_number reason
  pub before : (i : ℕ) → i < p → (g : Placed) × (gate_at f i ≡ Ok g)

-- "Refusal 10 hands the reason on", and no other number has one; `file` is what the call is given as each side
pub record HandsOn (file : ℕ → List ℕ) (r : Refusal) : Type 0 where
  pub gate : r.cause ≡ GATE → FirstBadGate (file r.side) r.position (reason_said r.reason)
  pub none : ¬ (r.cause ≡ GATE) → r.reason ≡ None

-- of a call that is given no file
pub record NoReason (r : Refusal) : Type 0 where
  pub other : ¬ (r.cause ≡ GATE)
  pub none : r.reason ≡ None
