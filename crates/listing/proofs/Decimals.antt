-- 01, "Decimal, no leading zeros": a number's text says the number, starts with no zero but for 0 itself, is its digits from the highest power of ten on, and is short.
use Prim.Native.Nat.{ℕ, zero, suc, ◌+◌, ◌-◌, ◌*◌, ◌/◌, ◌%◌, ◌^◌, ◌<◌, ◌≤◌}
use native.Mathlib.Decide.{dec_lt}
use native.Mathlib.Nat.{div-div-eq-div-mul, one-le-pow}
use native.Mathlib.Omega.{arith}
use mathlib.Core.Path.{◌≡◌, refl, sym, ap, ◌∙◌}
use mathlib.Core.Bool.{cond}
use mathlib.Core.List.{List, [], ◌∷◌, ◌++◌, append_assoc}
use lib.Dec.{ltb}
use lib.ListN.{length, get_or, length-append, get_or-append}
use borrow.Author.Tests.{lt-ltb, le-ltb}
use Rattle.listing.specs.Text.{digit, decimal_from, decimal}
use Rattle.listing.specs.Working.{value_after}

from_small : (k n : ℕ) → n < 10 → decimal_from k n ≡ digit n
unfolding decimal_from
from_small zero n h = refl
from_small (suc k) n h = rw (lt-ltb n 10 h)

from_more : (k n : ℕ) → 10 ≤ n → decimal_from (suc k) n ≡ decimal_from k (n / 10) ++ digit (n % 10)
unfolding decimal_from
from_more k n h = rw (le-ltb n 10 h)

-- any number that is large enough serves for the count of digits
from_same : (j k n : ℕ) → n ≤ j → n ≤ k → decimal_from j n ≡ decimal_from k n
from_same zero k n hj hk = from_small zero n (omega arith) ∙ sym (from_small k n (omega arith))
from_same (suc j) zero n hj hk = from_small (suc j) n (omega arith) ∙ sym (from_small zero n (omega arith))
from_same (suc j) (suc k) n hj hk = by (dec_lt n 10) (from_same j k (n / 10))
  where
    by : Dec (n < 10) → (n / 10 ≤ j → n / 10 ≤ k → decimal_from j (n / 10) ≡ decimal_from k (n / 10)) → decimal_from (suc j) n ≡ decimal_from (suc k) n
    by (yes h) ih = from_small (suc j) n h ∙ sym (from_small (suc k) n h)
    by (no h) ih =
        from_more j n (omega arith) ∙ ap (λ (ds : List ℕ). ds ++ digit (n % 10)) (ih (omega arith) (omega arith)) ∙ sym (from_more k n (omega arith))

pub decimal_small : (n : ℕ) → n < 10 → decimal n ≡ digit n
decimal_small n = from_small n n

pub decimal_more : (n : ℕ) → 10 ≤ n → decimal n ≡ decimal (n / 10) ++ digit (n % 10)
decimal_more zero h = absurd (omega arith)
decimal_more (suc m) h = from_more m (suc m) h ∙ ap (λ (ds : List ℕ). ds ++ digit (suc m % 10)) (from_same m (suc m / 10) (suc m / 10) (omega arith) (omega arith))

-- what holds of single digits, and of a longer number where it holds of the number without its last digit, holds of every number
module _ (P : ℕ → Type 0) (small : (n : ℕ) → n < 10 → P n) (more : (n : ℕ) → 10 ≤ n → P (n / 10) → P n) where
  by_digits_below : (k n : ℕ) → n ≤ k → P n
  by_digits_below zero n h = small n (omega arith)
  by_digits_below (suc k) n h = by (dec_lt n 10) (by_digits_below k (n / 10))
    where
      by : Dec (n < 10) → (n / 10 ≤ k → P (n / 10)) → P n
      by (yes l) ih = small n l
      by (no l) ih = more n (omega arith) (ih (omega arith))

  by_digits : (n : ℕ) → P n
  by_digits n = by_digits_below n n (omega arith)

value_more : (v : ℕ) (ds : List ℕ) (d : ℕ) → value_after v (ds ++ digit d) ≡ value_after v ds * 10 + d
unfolding value_after
value_more v [] d = omega arith
value_more v (x ∷ ds) d = value_more (v * 10 + (x - 48)) ds d

-- the text's value is the number
pub decimal_value : (n : ℕ) → value_after 0 (decimal n) ≡ n
unfolding value_after
decimal_value = by_digits (λ n. value_after 0 (decimal n) ≡ n) small (λ n h ih. ap (value_after 0) (decimal_more n h) ∙ value_more 0 (decimal (n / 10)) (n % 10) ∙ omega (arith, ih))
  where
    small : (n : ℕ) → n < 10 → value_after 0 (decimal n) ≡ n
    small n h = ap (value_after 0) (decimal_small n h) ∙ omega arith

-- a number's text is never empty
pub decimal_some : (n : ℕ) → 0 < length (decimal n)
decimal_some = by_digits (λ n. 0 < length (decimal n)) (λ n h. rw (decimal_small n h) (omega arith))
    (λ n h ih. rw (decimal_more n h) (omega (arith, ih, length-append (decimal (n / 10)) (digit (n % 10)))))

-- "no leading zeros": the first digit of a number but 0 is not `0`, which is 48
pub no_leading_zero : (n : ℕ) → 0 < n → 48 < get_or (decimal n) 0 0
no_leading_zero = by_digits (λ n. 0 < n → 48 < get_or (decimal n) 0 0) (λ n h k. rw (decimal_small n h) (omega arith))
    (λ n h ih k. rw (decimal_more n h, get_or-append (decimal (n / 10)) (digit (n % 10)) 0 0 (decimal_some (n / 10))) (ih (omega arith)))

-- the digits of a number but 0; of 0 none
abbrev shown : ℕ → List ℕ
shown n = cond (ltb 0 n) (decimal n) []

-- the last of them: of n / 10, n / 100 and so on, what stands at that power of ten in n
abbrev pub leading : ℕ → List ℕ
leading n = cond (ltb 0 n) (digit (n % 10)) []

-- the last digit, and what stands before it
before_last : (n : ℕ) → decimal n ≡ shown (n / 10) ++ digit (n % 10)
before_last n = by (dec_lt n 10)
  where
    by : Dec (n < 10) → decimal n ≡ shown (n / 10) ++ digit (n % 10)
    by (yes h) = let e : n % 10 ≡ n = omega arith in rw (le-ltb 0 (n / 10) (omega arith), e) (decimal_small n h)
    by (no h) = rw (lt-ltb 0 (n / 10) (omega arith)) (decimal_more n (omega arith))

shown_last : (n : ℕ) → shown n ≡ shown (n / 10) ++ leading n
shown_last n = by (dec_lt 0 n)
  where
    by : Dec (0 < n) → shown n ≡ shown (n / 10) ++ leading n
    by (yes h) = rw (lt-ltb 0 n h) (before_last n)
    by (no h) = rw (le-ltb 0 n (omega arith), le-ltb 0 (n / 10) (omega arith))

-- the digit at the power p, between those above it and those below
digit_at : (n p : ℕ) (below : List ℕ) → shown (n / p) ++ below ≡ shown (n / (p * 10)) ++ (leading (n / p) ++ below)
digit_at n p below =
    ap (◌++ below) (shown_last (n / p))
    ∙ append_assoc (shown (n / p / 10)) (leading (n / p)) below
    ∙ ap (λ (m : ℕ). shown m ++ (leading (n / p) ++ below)) (div-div-eq-div-mul n p 10)

-- at most five digits, the highest first
pub decimal_digits : (n : ℕ) → n < 100000 → decimal n ≡ leading (n / 10000) ++ (leading (n / 1000) ++ (leading (n / 100) ++ (leading (n / 10) ++ digit (n % 10))))
decimal_digits n h = before_last n ∙ digit_at n 10 _ ∙ digit_at n 100 _ ∙ digit_at n 1000 _ ∙ digit_at n 10000 _ ∙ rw (le-ltb 0 (n / 100000) (omega arith))

pub one_digit : (n : ℕ) → n < 10 → length (decimal n) ≡ 1
one_digit n h = ap length (decimal_small n h)

one_longer : (n : ℕ) → 10 ≤ n → length (decimal n) ≡ length (decimal (n / 10)) + 1
one_longer n h = ap length (decimal_more n h) ∙ length-append (decimal (n / 10)) (digit (n % 10))

-- how many digits a number has, by the powers of ten
digits_least : (k n : ℕ) → 10 ^ k ≤ n → k < length (decimal n)
digits_least zero n h = decimal_some n
digits_least (suc k) n h = omega (arith, one_longer n (omega (arith, one-le-pow k 10 (omega arith))), digits_least k (n / 10) (omega arith))

digits_most : (k n : ℕ) → n < 10 ^ suc k → length (decimal n) ≤ suc k
digits_most zero n h = omega (arith, one_digit n h)
digits_most (suc k) n h = by (dec_lt n 10) (digits_most k (n / 10))
  where
    by : Dec (n < 10) → (n / 10 < 10 ^ suc k → length (decimal (n / 10)) ≤ suc k) → length (decimal n) ≤ suc (suc k)
    by (yes l) ih = omega (arith, one_digit n l)
    by (no l) ih = omega (arith, one_longer n (omega arith), ih (omega arith))

pub digits_exactly : (k n : ℕ) → 10 ^ k ≤ n → n < 10 ^ suc k → suc k ≡ length (decimal n)
digits_exactly k n h l = omega (arith, digits_least k n h, digits_most k n l)

pub two_digits : (n : ℕ) → n < 100 → length (decimal n) ≤ 2
two_digits = digits_most 1

pub five_digits : (n : ℕ) → n < 100000 → length (decimal n) ≤ 5
five_digits = digits_most 4
