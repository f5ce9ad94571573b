use Rattle.std.proofs.Common.{◌≡◌, ℕ, ◌-◌, ◌*◌, ◌%◌, ◌^◌, ◌<◌, Option, None, Some, sym, ap, ◌∙◌, one-mul, arith, pow-add, SomeIff, unwrap_or}
use native.Mathlib.Nat.{mul-mod_left}
use Rattle.numbers.proofs.power.Goals as goal

-- a power that falls out of the word is a multiple of 2^64
shifted : (r : Option ℕ) (k : ℕ) → SomeIff r (k < 64) (1 * 2 ^ k % 2 ^ 64) → unwrap_or r 0 ≡ 2 ^ k % 2 ^ 64
shifted (Some x) k h = h.1 ∙ ap (◌% 2 ^ 64) (one-mul (2 ^ k))
shifted None k h = sym (ap (λ (j : ℕ). 2 ^ j % 2 ^ 64) (omega arith) ∙ ap (◌% 2 ^ 64) (pow-add 2 (k - 64) 64) ∙ mul-mod_left (2 ^ (k - 64)) (2 ^ 64))

pub returns : goal.returns
returns c = c.unwrap_or.ensures ∙ shifted c.checked_shl.result c.from.result c.checked_shl.ensures ∙ ap (λ (n : ℕ). 2 ^ n % 2 ^ 64) c.from.ensures
