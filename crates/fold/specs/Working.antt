-- 01, "Folding", as one pass does it: a row of totals by the number of mask and flip, from which a group's first gate takes the sum.
use Rattle.std.specs.Prelude.{ℕ, not, List, [], ◌∷◌, length, ◌==◌, slice_index, slice_set}
use Rattle.numbers.specs.Bits.{indicator}
use Rattle.numbers.specs.Sums.{sum}
use Rattle.circuit.specs.declared.Gate.{Gate}
use Rattle.circuit.specs.declared.Gate.TheVariants.{Cnot, Phase, Inverter}
use Rattle.circuit.specs.Gates.{bytes_of}
use Rattle.running.specs.Run.{free_turn, scores}
use Rattle.running.specs.Working.{Met, Unmet, At, numbers_after, met}
use Rattle.std.specs.Prelude.{Option}
use Rattle.std.specs.Prelude.{Some, None}
use Rattle.fold.specs.Fold.{kept}

-- 1 for a total with which a gate stays: "if the sum is 0 the first goes too"
abbrev pub staying : ℕ → ℕ
staying t = indicator (not (t == 0))

-- how many totals of a row stay, and what they score
abbrev pub kept_in : List ℕ → ℕ
kept_in ts = sum (length ts) (λ n. staying (slice_index ts n))

abbrev pub score_in : List ℕ → ℕ
score_in ts = sum (length ts) (λ n. scores free_turn (slice_index ts n))

-- "the wrapped sum of the group" that a gate finds at the number that it meets
abbrev pub found : Met → List ℕ → ℕ
found Unmet ts = 0
found (At n a) ts = slice_index ts n

-- the total is taken once: "the others go"
abbrev pub taken_from : Met → List ℕ → List ℕ
taken_from Unmet ts = ts
taken_from (At n a) ts = slice_set ts n 0

-- "stays in its place with the wrapped sum of the group"; "CNOTs stay", and so do inverters
abbrev pub left : ℕ → Gate → List Gate
left t (Cnot c u) = Cnot c u ∷ []
left t (Phase i a) = kept i t
left t (Inverter i) = Inverter i ∷ []

-- what stays of a gate: itself, or nothing where it "goes"
abbrev pub leaves : Option Gate → List Gate
leaves (Some g) = g ∷ []
leaves None = []

-- the pass: what the wires hold and the totals that are still open, and what is written of a gate
abbrev pub fold_step : Gate → List ℕ × List ℕ → List ℕ × List ℕ
fold_step g s = (numbers_after g s.0, taken_from (met g s.0) s.1)

abbrev pub fold_put : Gate → List ℕ × List ℕ → List ℕ
fold_put g s = bytes_of (left (found (met g s.0) s.1) g)

-- "CNOTs stay in order", and inverters among them: the gates of a list that move states
unfoldable pub moves_of : List Gate → List Gate
moves_of [] = []
moves_of (Cnot c t ∷ gs) = Cnot c t ∷ moves_of gs
moves_of (Phase i a ∷ gs) = moves_of gs
moves_of (Inverter i ∷ gs) = Inverter i ∷ moves_of gs
