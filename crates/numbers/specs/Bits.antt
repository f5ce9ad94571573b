-- 01, "Numbers and conventions": bits, k.x and sets of wires, each a number.
use Rattle.std.specs.Prelude.{ℕ, ◌/◌, ◌%◌, ◌^◌, Bool, true, false, ◌==◌, bit_and, count_ones}

-- "bit i is wire i"; "variable i+1 in bit i"
abbrev pub bit : ℕ → ℕ → ℕ
bit s i = s / 2 ^ i % 2

-- "k.x is the parity of the ones common to k and x"
unfoldable pub dot : ℕ → ℕ → ℕ
dot k x = count_ones (bit_and k x) % 2

-- 1 where it holds and 0 where not, so that a condition is a factor
abbrev pub indicator : Bool → ℕ
indicator true = 1
indicator false = 0

-- whether two numbers are the same
abbrev pub equal : ℕ → ℕ → ℕ
equal a b = indicator (a == b)

-- whether the ones of s all lie in x ("whose one bits all lie in S", "whose mask contains S")
unfoldable pub subset : ℕ → ℕ → ℕ
subset s x = equal (bit_and s x) s
