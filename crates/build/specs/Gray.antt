-- 01, "The built circuit": "Gray words for i bits".
use Rattle.std.specs.Prelude.{ℕ, zero, suc, ◌-◌, ◌^◌, cond, ◌==◌, bit_xor}
use Rattle.std.specs.Int.Count.{count_trailing_zeros}

-- "d_k is the number of trailing zeros of k+1, except that the last is i-1"
unfoldable pub turned : ℕ → ℕ → ℕ
turned i k = cond (suc k == 2 ^ i) (i - 1) (count_trailing_zeros i (suc k))

-- "v_0 = 0, and v_(k+1) is v_k with bit d_k flipped"
unfoldable pub word : ℕ → ℕ → ℕ
word i zero = 0
word i (suc k) = bit_xor (word i k) (2 ^ turned i k)
