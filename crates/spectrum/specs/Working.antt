-- The matrix H_n of document 000 on a row of numbers, by halves, and what keeps its working within 32 bits.
use Rattle.std.specs.Prelude.{ℕ, ◌+◌, ◌*◌, ◌^◌, ◌≤◌, ◌<◌, ◌≡◌, List, ◌++◌, length, get_or, set, ℤ, pos, nat_abs, ◌+ℤ◌, ◌-ℤ◌}
use Rattle.numbers.specs.Bits.{dot}
use Rattle.numbers.specs.Sums.{sumℤ, list}
use Rattle.numbers.specs.Turn.{flip}

-- entry k of H_n v: the sum over x of v_x, minus when k.x is odd
abbrev pub hadamard : ℕ → (ℕ → ℤ) → ℕ → ℤ
hadamard n v k = sumℤ (2 ^ n) (λ x. flip (dot k x) (v x))

abbrev pub entry : List ℤ → ℕ → ℤ
entry v i = get_or v i (pos 0)

unfoldable pub transformed : ℕ → List ℤ → List ℤ
transformed n v = list (2 ^ n) (hadamard n (entry v))

-- "then added and subtracted": two entries, their sum into one place and their difference into the other
abbrev pub sum_and_difference : ℕ → ℕ → List ℤ → List ℤ
sum_and_difference i j v = set (set v i (entry v i +ℤ entry v j)) j (entry v i -ℤ entry v j)

-- the sums of two halves' entries, then their differences
unfoldable pub sums_and_differences : ℕ → List ℤ → List ℤ
sums_and_differences h v = list h (λ i. entry v i +ℤ entry v (h + i)) ++ list h (λ i. entry v i -ℤ entry v (h + i))

-- a row of 2^bits entries, of which no sum of sizes passes 2^31 - 1
pub record Tame (v : List ℤ) : Type 0 where
  pub bits : ℕ
  pub long : length v ≡ 2 ^ bits
  pub most : ℕ
  pub each : (i : ℕ) → nat_abs (entry v i) ≤ most
  pub all : most * length v ≤ 2147483647

-- a pair's sizes together do not either
abbrev pub Paired : ℕ → List ℤ → Type 0
Paired h v = (i : ℕ) → i < h → nat_abs (entry v i) + nat_abs (entry v (h + i)) ≤ 2147483647
