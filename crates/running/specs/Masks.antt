-- 01, "Running, counting, folding": "Each wire holds a parity of the starting bits: a mask."; 02 §12, "A wire now holds a mask and a flip."
use Rattle.std.specs.Prelude.{ℕ, ◌+◌, ◌%◌, ◌^◌, List, [], ◌∷◌, bit_xor, slice_index_or, slice_set}
use Rattle.numbers.specs.Sums.{list}
use Rattle.circuit.specs.declared.Gate.{Gate}
use Rattle.circuit.specs.declared.Gate.TheVariants.{Cnot, Phase, Inverter}

-- "Wires w: 1 to 10"
abbrev pub most_wires : ℕ
most_wires = 10

-- and as many masks as ten wires can hold: 2^10
abbrev pub most_masks : ℕ
most_masks = 1024

-- 02 §12, "A wire now holds a mask and a flip.": its bit at start x is mask.x, turned where the flip is 1
pub record Held : Type 0 where
  pub mask : ℕ
  pub flip : ℕ

abbrev pub held : ℕ → ℕ → Held
held m f = record { mask = m; flip = f }

-- what wire i holds
abbrev pub held_at : List Held → ℕ → Held
held_at hs i = slice_index_or hs i (held 0 0)

-- before the first gate wire i holds starting bit i alone
abbrev pub own_held : ℕ → List Held
own_held w = list w (λ i. held (2 ^ i) 0)

-- the parity of both together
abbrev pub mixed : Held → Held → Held
mixed h k = held (bit_xor h.mask k.mask) ((h.flip + k.flip) % 2)

-- a CNOT makes the target's parity that of target and control together; an inverter turns its wire's flip
abbrev pub held_after : Gate → List Held → List Held
held_after (Cnot c t) hs = slice_set hs t (mixed (held_at hs t) (held_at hs c))
held_after (Phase i a) hs = hs
held_after (Inverter i) hs = slice_set hs i (mixed (held_at hs i) (held 0 1))

-- what the wires hold after all of a list of gates
unfoldable pub held_from : List Gate → List Held → List Held
held_from [] hs = hs
held_from (g ∷ gs) hs = held_from gs (held_after g hs)

-- a phase gate meets what its wire holds
abbrev pub meets : (Held → ℕ → ℕ) → Gate → List Held → ℕ
meets f (Cnot c t) hs = 0
meets f (Phase i a) hs = f (held_at hs i) a
meets f (Inverter i) hs = 0

-- a sum over the phase gates, each by what it meets and its angle
unfoldable pub sum_met : (Held → ℕ → ℕ) → List Gate → List Held → ℕ
sum_met f [] hs = 0
sum_met f (g ∷ gs) hs = meets f g hs + sum_met f gs (held_after g hs)
