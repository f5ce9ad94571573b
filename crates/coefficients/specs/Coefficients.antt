-- 01, "Coefficients and verdict": a circuit's coefficients and the ideal's, and what else a side's summary holds.
use Rattle.std.specs.Prelude.{ℕ, zero, suc, ◌+◌, ◌-◌, ◌*◌, ◌%◌, ◌^◌, List, count_ones}
use Rattle.numbers.specs.Bits.{bit, subset}
use Rattle.numbers.specs.Sums.{sum, list}
use Rattle.circuit.specs.declared.Gate.{Gate}
use Rattle.running.specs.Run.{end_from}
use Rattle.running.specs.Masks.{own_held, sum_met}

-- 02 §12, "A phase of a on a flipped mask adds .. minus a on the mask": -1 is 65,535
abbrev pub sign : ℕ → ℕ
sign zero = 1
sign (suc f) = 65535

-- "(-2)^(|S|-1) times the sum of the angles of all phase gates whose mask contains S, modulo 65,536": -2 is 65,534
-- 02 §12, "A phase of a on a flipped mask adds a constant a", "Entry 0 of the coefficients is the constant"
unfoldable pub coefficient : ℕ → List Gate → ℕ → ℕ
coefficient w gs zero = sum_met (λ h a. h.flip * a) gs (own_held w) % 65536
coefficient w gs (suc s) = 65534 ^ (count_ones (suc s) - 1) * sum_met (λ h a. subset (suc s) h.mask * (sign h.flip * a)) gs (own_held w) % 65536

-- "0 where S lacks wire n, else 32,768 times the number of x with f(x) = 1 whose one bits all lie in S, wrapped"
unfoldable pub ideal_coefficient : ℕ → (ℕ → ℕ) → ℕ → ℕ
ideal_coefficient n f s = bit s n * (32768 * sum (2 ^ n) (λ x. f x * subset x s) % 65536)

-- "For a non-empty set S of wires (a number 1 to 2^w - 1)", and the constant at 0: a circuit's coefficients, set by set
abbrev pub coefficients : ℕ → List Gate → List ℕ
coefficients w gs = list (2 ^ w) (coefficient w gs)

-- 02 §12, "the end of start 0, put first", then each wire's own start: the starts whose ends a summary lists
abbrev pub listed_start : ℕ → ℕ
listed_start zero = 0
listed_start (suc i) = 2 ^ i

-- so many on ten wires
abbrev pub most_starts : ℕ
most_starts = 11

-- "A run answers the end state": the ends of a circuit's listed starts
abbrev pub listed_ends : ℕ → List Gate → List ℕ
listed_ends w gs = list (suc w) (λ i. end_from gs (listed_start i))

-- the ideal's coefficients on n + 1 wires, set by set
abbrev pub ideal_coefficients : ℕ → (ℕ → ℕ) → List ℕ
ideal_coefficients n f = list (2 ^ (n + 1)) (ideal_coefficient n f)

-- "ends as it starts": the ends of the ideal's listed starts
abbrev pub ideal_ends : ℕ → List ℕ
ideal_ends n = list (n + 2) listed_start
