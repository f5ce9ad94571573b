-- What the working computes on the way to a summary; the laws show that it is the paper's.
use Rattle.std.specs.Prelude.{ℕ, zero, suc, ◌+◌, ◌*◌, ◌/◌, ◌%◌, ◌^◌, Bool, true, false, List, ◌++◌, length, take, drop, bit_xor, count_ones, slice_index, slice_set}
use Rattle.numbers.specs.Bits.{bit, subset}
use Rattle.numbers.specs.Turn.{difference}
use Rattle.numbers.specs.Sums.{sum, list}
use Rattle.circuit.specs.declared.Gate.{Gate}
use Rattle.running.specs.Working.{numbers_after, Met, Unmet, At, met, met_by}

abbrev pub entry : List ℕ → ℕ → ℕ
entry v i = slice_index v i

-- whether the entry at m counts at s: the sets that contain s, or those that lie in s
abbrev pub counts : Bool → ℕ → ℕ → ℕ
counts true s m = subset s m
counts false s m = subset m s

-- at each set of n wires the sum, wrapped, of the entries that count there
unfoldable pub gathered : Bool → ℕ → List ℕ → List ℕ
gathered up n v = list (2 ^ n) (λ s. sum (2 ^ n) (λ m. counts up s m * entry v m) % 65536)

-- one half added to the other
unfoldable pub joined : Bool → ℕ → List ℕ → List ℕ
joined true h v = list h (λ i. (entry v i + entry v (h + i)) % 65536) ++ list h (λ i. entry v (h + i))
joined false h v = list h (λ i. entry v i) ++ list h (λ i. (entry v (h + i) + entry v i) % 65536)

-- f on each of the first c blocks of s entries
unfoldable pub in_blocks : (List ℕ → List ℕ) → ℕ → ℕ → List ℕ → List ℕ
in_blocks f s zero v = v
in_blocks f s (suc c) v = f (take s v) ++ in_blocks f s c (drop s v)

-- (-2)^(k-1) for a set of k wires, and nothing for the empty set
abbrev pub weight_of : ℕ → ℕ
weight_of zero = 0
weight_of (suc k) = 65534 ^ k

-- the weight of set s, wrapped
abbrev pub weight_at : ℕ → ℕ
weight_at s = weight_of (count_ones s) % 65536

-- the constant at the empty set, else a sum by the weight of its set
abbrev pub weighed_at : ℕ → ℕ → ℕ → ℕ
weighed_at constant zero x = constant
weighed_at constant (suc s) x = weight_of (count_ones (suc s)) * x % 65536

abbrev pub weighed : ℕ → List ℕ → ℕ → ℕ
weighed constant v s = weighed_at constant s (entry v s)

-- 02 §12, "A phase of a on a flipped mask adds a constant a and minus a on the mask.": what an angle makes of its mask's sum, by the flip
abbrev pub signed_by : ℕ → ℕ → ℕ → ℕ
signed_by zero x a = (x + a) % 65536
signed_by (suc f) x a = difference x a

-- and what it adds to the constant, by the number that it meets
abbrev pub turned_of : ℕ → ℕ → ℕ
turned_of n a = a * (n % 2)

-- a phase gate's angle, with its sign, at the mask that it meets
abbrev pub sign_met : Met → List ℕ → List ℕ
sign_met Unmet row = row
sign_met (At n a) row = slice_set row (n / 2) (signed_by (n % 2) (entry row (n / 2)) a)

-- the walk: the numbers, what each mask has, and the constant so far
abbrev pub sign_step : Gate → List ℕ × List ℕ × ℕ → List ℕ × List ℕ × ℕ
sign_step g s = (numbers_after g s.0, sign_met (met g s.0) s.1, (s.2 + met_by turned_of (met g s.0)) % 65536)

-- bit i of what each wire holds
abbrev pub column : List ℕ → ℕ → ℕ
column held i = sum (length held) (λ j. bit (entry held j) i * 2 ^ j)

-- the end of the i-th listed start: the flips, and for a wire's own start the masks that contain it
abbrev pub listed_column : List ℕ → ℕ → ℕ
listed_column held zero = column held 0
listed_column held (suc i) = bit_xor (column held (suc i)) (column held 0)
