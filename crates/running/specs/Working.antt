-- What a wire holds as the code keeps it, one number: twice the mask, and the flip. What a gate does to the state of each walk.
use Rattle.std.specs.Prelude.{ℕ, suc, ◌+◌, ◌*◌, ◌/◌, ◌%◌, ◌^◌, List, [], ◌∷◌, bit_xor, slice_index, slice_set}
use Rattle.numbers.specs.Bits.{dot}
use Rattle.numbers.specs.Sums.{list}
use Rattle.circuit.specs.declared.Gate.{Gate}
use Rattle.circuit.specs.declared.Gate.TheVariants.{Cnot, Phase, Inverter}
use Rattle.circuit.specs.File.{wires_of, gates_of}
use Rattle.running.specs.Run.{stepped, added, cnots, score, inverters}
use Rattle.running.specs.Masks.{Held, held}
use Rattle.running.specs.Groups.{group_total}

-- mask and flip as one number, and back
abbrev pub number_of : Held → ℕ
number_of h = 2 * h.mask + h.flip

abbrev pub held_of : ℕ → Held
held_of n = held (n / 2) (n % 2)

-- the numbers before the first gate, and the masks alone
abbrev pub own_numbers : ℕ → List ℕ
own_numbers w = list w (λ i. 2 ^ suc i)

abbrev pub own_masks : ℕ → List ℕ
own_masks w = list w (λ i. 2 ^ i)

-- a CNOT mixes two numbers; an inverter is one from a wire that no file names and that always holds 1
abbrev pub numbers_after : Gate → List ℕ → List ℕ
numbers_after (Cnot c t) ns = slice_set ns t (bit_xor (slice_index ns t) (slice_index ns c))
numbers_after (Phase i a) ns = ns
numbers_after (Inverter i) ns = slice_set ns i (bit_xor (slice_index ns i) 1)

unfoldable pub numbers_from : List Gate → List ℕ → List ℕ
numbers_from [] ns = ns
numbers_from (g ∷ gs) ns = numbers_from gs (numbers_after g ns)

-- what a gate meets: nothing, or a number with an angle
pub data Met : Type 0 where
  Unmet : Met
  At : ℕ → ℕ → Met

abbrev pub met : Gate → List ℕ → Met
met (Cnot c t) ns = Unmet
met (Phase i a) ns = At (slice_index ns i) a
met (Inverter i) ns = Unmet

abbrev pub met_by : (ℕ → ℕ → ℕ) → Met → ℕ
met_by f Unmet = 0
met_by f (At n a) = f n a

-- a sum over the phase gates, each by the number that it meets and its angle
unfoldable pub sum_numbers : (ℕ → ℕ → ℕ) → List Gate → List ℕ → ℕ
sum_numbers f [] ns = 0
sum_numbers f (g ∷ gs) ns = met_by f (met g ns) + sum_numbers f gs (numbers_after g ns)

-- the start x with the bit of the wire that always holds 1
abbrev pub start_of : ℕ → ℕ
start_of x = 2 * x + 1

-- the total from a start by numbers: each phase gate adds its angle where its number's parity is odd
abbrev pub total_by : List Gate → List ℕ → ℕ → ℕ
total_by gs ns x = sum_numbers (λ n a. a * dot n x) gs ns

-- a run: the state and the phase so far
abbrev pub run_step : Gate → ℕ × ℕ → ℕ × ℕ
run_step g s = (stepped g s.0, (s.1 + added g s.0) % 65536)

-- a count: the CNOTs, the score and the inverters so far
abbrev pub count_step : Gate → ℕ × ℕ × ℕ → ℕ × ℕ × ℕ
count_step g s = (s.0 + cnots (g ∷ []), s.1 + score (g ∷ []), s.2 + inverters (g ∷ []))

-- a phase gate's angle added, wrapping, at the number that it meets
abbrev pub add_met : Met → List ℕ → List ℕ
add_met Unmet row = row
add_met (At n a) row = slice_set row n ((slice_index row n + a) % 65536)

-- the sums at numbers: the numbers, and the totals so far
abbrev pub sum_step : Gate → List ℕ × List ℕ → List ℕ × List ℕ
sum_step g s = (numbers_after g s.0, add_met (met g s.0) s.1)

-- a file's totals, group by group, each at its number; ten wires have twice 2^10 such numbers
abbrev pub most_groups : ℕ
most_groups = 2048

unfoldable pub totals_of : List ℕ → List ℕ
totals_of f = list most_groups (λ n. group_total (wires_of f) (gates_of f) (held_of n))
