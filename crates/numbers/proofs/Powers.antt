-- Powers of two that fit a word, for callers of `power`.
use Rattle.std.proofs.Common.{◌≡◌, ℕ, ◌%◌, ◌^◌, ◌<◌, ◌≤◌, ◌∙◌, lt_of_le_of_lt, mod-eq_of_lt, lit<, pow_mono}
use lib.Pow.{pow-lt}

pub power_fits : {k : ℕ} → k < 64 → 2 ^ k % 2 ^ 64 ≡ 2 ^ k
power_fits {k} h = mod-eq_of_lt (pow-lt {i = k} {j = 64} h)

-- 2^w for at most 10 wires, as the code computes it
pub small_power : (w p : ℕ) → w ≤ 10 → p ≡ 2 ^ w % 2 ^ 64 → p ≡ 2 ^ w
small_power w p h e = e ∙ mod-eq_of_lt (lt_of_le_of_lt (pow_mono h) (lit< tt))
