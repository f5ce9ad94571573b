-- A gate's bytes as the code takes them, walks over gates, and what is written at a place.
use Rattle.std.specs.Prelude.{ℕ, ◌+◌, ◌*◌, ◌<◌, ◌≡◌, Bool, not, ◌||◌, ◌&&◌, cond, List, [], ◌∷◌, ◌++◌, leb, eqb, length, get_or}
use Rattle.circuit.specs.Bytes.{put_at}
use Rattle.circuit.specs.declared.Gate.{Gate}
use Rattle.circuit.specs.declared.Gate.TheVariants.{Cnot, Phase, Inverter}
use Rattle.circuit.specs.Gates.{bad_kind, bad_wire, equal_wires, bad_spare, gate_said}
use Rattle.circuit.specs.File.{version_of, wires_of, header_bytes}

-- whether four bytes are bad on w wires in a file of a version, for whatever reason
abbrev pub bad : ℕ → ℕ → ℕ → ℕ → ℕ → ℕ → Bool
bad version w kind a b c = ((bad_kind version kind || bad_wire w kind a b) || equal_wires kind a b) || bad_spare kind b c

-- the same of a kind below 3, and of one from 3 on, as the code asks it
abbrev pub low_bad : ℕ → ℕ → ℕ → ℕ → ℕ → Bool
low_bad w kind a b c = ((eqb kind 0 || bad_wire w kind a b) || equal_wires kind a b) || (eqb kind 1 && not (eqb c 0))

abbrev pub high_bad : ℕ → ℕ → ℕ → ℕ → ℕ → ℕ → Bool
high_bad version w kind a b c = ((bad_kind version kind || leb w a) || not (eqb b 0)) || not (eqb c 0)

-- the i-th four bytes after the header
abbrev pub four_at : List ℕ → ℕ → List ℕ
four_at f i = get_or f (8 + 4 * i) 0 ∷ get_or f (8 + 4 * i + 1) 0 ∷ get_or f (8 + 4 * i + 2) 0 ∷ get_or f (8 + 4 * i + 3) 0 ∷ []

-- the gate that they say; a phase of 0 where they do not all lie in the file
abbrev pub said_at : List ℕ → ℕ → Gate
said_at f i = cond (leb (12 + 4 * i) (length f)) (gate_said (get_or f (8 + 4 * i) 0) (get_or f (8 + 4 * i + 1) 0) (get_or f (8 + 4 * i + 2) 0) (get_or f (8 + 4 * i + 3) 0)) (Phase 0 0)

-- the gates that good bytes say, four a gate; what is left over says none
unfoldable pub said_gates : List ℕ → List Gate
said_gates (kind ∷ a ∷ b ∷ c ∷ bs) = gate_said kind a b c ∷ said_gates bs
said_gates [] = []
said_gates (a ∷ []) = []
said_gates (a ∷ b ∷ []) = []
said_gates (a ∷ b ∷ c ∷ []) = []

-- a file's header with another gate count; nothing where the file has no header
abbrev pub header_of : List ℕ → ℕ → List ℕ
header_of f g = cond (leb 8 (length f)) (header_bytes (version_of f) (wires_of f) g) []

-- a walk over gates: what a state becomes, one step a gate
unfoldable pub walked : {S : Type 0} → (Gate → S → S) → List Gate → S → S
walked step [] s = s
walked step (g ∷ gs) s = walked step gs (step g s)

-- and what is written on the way
unfoldable pub written : {S : Type 0} → (Gate → S → S) → (Gate → S → List ℕ) → List Gate → S → List ℕ
written step put [] s = []
written step put (g ∷ gs) s = put g s ++ written step put gs (step g s)

-- a gate that the decoder can answer on w wires
abbrev pub Sound : ℕ → Gate → Type 0
Sound w (Cnot c t) = (c < w) × (t < w) × (c ≡ t → ⊥)
Sound w (Phase i a) = (i < w) × (a < 65536)
Sound w (Inverter i) = i < w

unfoldable pub AllSound : ℕ → List Gate → Type 0
AllSound w [] = Unit {0}
AllSound w (g ∷ gs) = Sound w g × AllSound w gs

-- and that it can answer in a file of a version: an inverter in version 2 alone
abbrev pub Admitted : ℕ → Gate → Type 0
Admitted version (Cnot c t) = Unit {0}
Admitted version (Phase i a) = Unit {0}
Admitted version (Inverter i) = version ≡ 2

unfoldable pub AllAdmitted : ℕ → List Gate → Type 0
AllAdmitted version [] = Unit {0}
AllAdmitted version (g ∷ gs) = Admitted version g × AllAdmitted version gs

-- entries written at a place, and the place behind them
pub record Wrote (text : List ℕ) (at : ℕ) (before : List ℕ) (behind : ℕ) (after : List ℕ) : Type 0 where
  pub ends : behind ≡ at + length text
  pub written : after ≡ put_at text at before
