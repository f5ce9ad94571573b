-- The least number at which a test holds.
use Rattle.std.specs.Prelude.{ℕ, zero, suc, Bool, cond}

-- the least of the n numbers from s on at which a test holds, else s + n
unfoldable pub least : (ℕ → Bool) → ℕ → ℕ → ℕ
least test zero s = s
least test (suc n) s = cond (test s) s (least test n (suc s))
