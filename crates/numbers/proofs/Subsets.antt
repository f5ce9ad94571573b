-- Sets of wires within one another, by the lowest bit and by the highest; and sums over an index that they pick from.
use Rattle.std.proofs.Common.{◌≡◌, ℕ, zero, suc, ◌+◌, ◌-◌, ◌*◌, ◌/◌, ◌%◌, ◌^◌, ◌<◌, sym, refl, ap, ◌∙◌, ap₂, add-zero, one-mul, mul-zero, zero-add, zero-mul, mul-one, mul-add, arith}
use native.Mathlib.Decide.{ℕ_discrete}
use lib.Bits.{bit_and, and_block, and_self, and_le_r, and_zero_l, and_lt}
use lib.Pow.{high, low}
use Rattle.numbers.specs.Bits.{equal, subset}
use Rattle.numbers.specs.Sums.{sum}
use Rattle.numbers.proofs.Sums.{ℕ-adds, sum_of-map, sum_of-pairs, sum_of-split}
use Rattle.numbers.proofs.Parity.{equal_yes, equal_no, subset_step}

pub subset_self : (s : ℕ) → subset s s ≡ 1
unfolding subset
subset_self s = equal_yes (and_self s)

-- a set within x is at most x
pub subset_above : (s x : ℕ) → x < s → subset s x ≡ 0
unfolding subset
subset_above s x h = equal_no {a = bit_and s x} {b = s} (λ e. omega (arith, and_le_r s x))

pub subset_none : (x : ℕ) → subset 0 x ≡ 1
unfolding subset
subset_none x = equal_yes (and_zero_l x)

-- one bit: a is in b
in_bit : (a b : ℕ) → a < 2 → b < 2 → equal (a * b) a ≡ 1 - a + a * b
in_bit zero b h k = rw (zero-mul b)
in_bit (suc zero) zero h k = refl
in_bit (suc zero) (suc zero) h k = refl
in_bit (suc zero) (suc (suc b)) h k = absurd (omega arith)
in_bit (suc (suc a)) b h k = absurd (omega arith)

by_low : (s x a b t y : ℕ) → s % 2 ≡ a → x % 2 ≡ b → s / 2 ≡ t → x / 2 ≡ y → a < 2 → b < 2 → subset s x ≡ subset t y * (1 - a + a * b)
by_low s x a b t y ea eb et ey ha hb =
    subset_step s x ∙ ap₂ ◌*◌ (ap₂ subset et ey) (ap₂ (λ (m n : ℕ). equal (m * n) m) ea eb ∙ in_bit a b ha hb)

-- the lowest bit of the inner set, or of the outer
pub subset_even : (t x : ℕ) → subset (t * 2) x ≡ subset t (x / 2)
subset_even t x =
    by_low (t * 2) x 0 (x % 2) t (x / 2) (omega arith) refl (omega arith) refl (omega arith) (omega arith)
    ∙ ap (subset t (x / 2) *◌) (let e : 1 - 0 + 0 * (x % 2) ≡ 1 = omega arith in e) ∙ mul-one (subset t (x / 2))

pub subset_odd : (t x : ℕ) → subset (t * 2 + 1) x ≡ subset t (x / 2) * (x % 2)
subset_odd t x =
    by_low (t * 2 + 1) x 1 (x % 2) t (x / 2) (omega arith) refl (omega arith) refl (omega arith) (omega arith)
    ∙ ap (subset t (x / 2) *◌) (let e : 1 - 1 + 1 * (x % 2) ≡ x % 2 = omega arith in e)

pub subset_in_even : (s y : ℕ) → subset s (y * 2) ≡ subset (s / 2) y * (1 - s % 2)
subset_in_even s y =
    by_low s (y * 2) (s % 2) 0 (s / 2) y refl (omega arith) refl (omega arith) (omega arith) (omega arith)
    ∙ ap (subset (s / 2) y *◌) (let e : 1 - s % 2 + s % 2 * 0 ≡ 1 - s % 2 = omega arith in e)

pub subset_in_odd : (s y : ℕ) → subset s (y * 2 + 1) ≡ subset (s / 2) y
subset_in_odd s y =
    by_low s (y * 2 + 1) (s % 2) 1 (s / 2) y refl (omega arith) refl (omega arith) (omega arith) (omega arith)
    ∙ ap (subset (s / 2) y *◌) (let e : 1 - s % 2 + s % 2 * 1 ≡ 1 = omega arith in e) ∙ mul-one (subset (s / 2) y)

-- high and low parts apart
equal_block : (n p q m r : ℕ) → m < 2 ^ n → r < 2 ^ n → equal (p * 2 ^ n + m) (q * 2 ^ n + r) ≡ equal p q * equal m r
equal_block n p q m r hm hr = by (ℕ_discrete p q) (ℕ_discrete m r)
  where
    upper : p * 2 ^ n + m ≡ q * 2 ^ n + r → p ≡ q
    upper e = sym (high p n hm) ∙ ap (◌/ 2 ^ n) e ∙ high q n hr

    lower : p * 2 ^ n + m ≡ q * 2 ^ n + r → m ≡ r
    lower e = sym (low p n hm) ∙ ap (◌% 2 ^ n) e ∙ low q n hr

    by : Dec (p ≡ q) → Dec (m ≡ r) → equal (p * 2 ^ n + m) (q * 2 ^ n + r) ≡ equal p q * equal m r
    by (yes e) (yes f) = rw (equal_yes e, equal_yes f, equal_yes {a = p * 2 ^ n + m} {b = q * 2 ^ n + r} (ap₂ (λ (x y : ℕ). x * 2 ^ n + y) e f))
    by (yes e) (no f) = rw (equal_no f, equal_no {a = p * 2 ^ n + m} {b = q * 2 ^ n + r} (λ h. f (lower h))) (omega arith)
    by (no e) d = rw (equal_no e, equal_no {a = p * 2 ^ n + m} {b = q * 2 ^ n + r} (λ h. e (upper h))) (omega arith)

-- the lowest bit and the rest apart
pub equal_low : (x y : ℕ) → equal x y ≡ equal (x / 2) (y / 2) * equal (x % 2) (y % 2)
equal_low x y =
    ap₂ equal (let e : x ≡ x / 2 * 2 ^ 1 + x % 2 = omega arith in e) (let e : y ≡ y / 2 * 2 ^ 1 + y % 2 = omega arith in e)
    ∙ equal_block 1 (x / 2) (y / 2) (x % 2) (y % 2) (omega arith) (omega arith)

pub subset_block : (n a b r s : ℕ) → r < 2 ^ n → s < 2 ^ n → subset (a * 2 ^ n + r) (b * 2 ^ n + s) ≡ subset a b * subset r s
unfolding subset
subset_block n a b r s hr hs =
    ap (λ (m : ℕ). equal m (a * 2 ^ n + r)) (and_block n a b r s hr hs) ∙ equal_block n (bit_and a b) a (bit_and r s) r (and_lt n r s hr hs) hr

module _ (n s x : ℕ) (hs : s < 2 ^ n) (hx : x < 2 ^ n) where
  -- of two sets with one more wire, that wire counts where the inner has it
  pub subset_low_high : subset s (2 ^ n + x) ≡ subset s x
  subset_low_high =
      ap₂ subset (let e : s ≡ 0 * 2 ^ n + s = omega arith in e) (let e : 2 ^ n + x ≡ 1 * 2 ^ n + x = omega arith in e)
      ∙ subset_block n 0 1 s x hs hx ∙ ap (◌* subset s x) (subset_none 1) ∙ one-mul (subset s x)

  pub subset_high_low : subset (2 ^ n + s) x ≡ 0
  subset_high_low = subset_above (2 ^ n + s) x (omega arith)

  pub subset_high_high : subset (2 ^ n + s) (2 ^ n + x) ≡ subset s x
  subset_high_high =
      ap₂ subset (let e : 2 ^ n + s ≡ 1 * 2 ^ n + s = omega arith in e) (let e : 2 ^ n + x ≡ 1 * 2 ^ n + x = omega arith in e)
      ∙ subset_block n 1 1 s x hs hx ∙ ap (◌* subset s x) (subset_self 1) ∙ one-mul (subset s x)

-- sums: a common factor, one entry picked, angle by angle, and by pairs
pub sum_scale : (c n : ℕ) (f : ℕ → ℕ) → c * sum n f ≡ sum n (λ i. c * f i)
sum_scale c n f = sum_of-map 0 ◌+◌ 0 ◌+◌ (c *◌) (mul-zero c) (mul-add c) n f

pub sum_zero : (n : ℕ) (f : ℕ → ℕ) → ((i : ℕ) → i < n → f i ≡ 0) → sum n f ≡ 0
sum_zero zero f h = refl
sum_zero (suc n) f h = ap₂ ◌+◌ (sum_zero n f (λ i l. h i (omega arith))) (h n (omega arith))

pub sum_pick : (n k : ℕ) (f : ℕ → ℕ) → k < n → sum n (λ i. f i * equal i k) ≡ f k
sum_pick zero k f h = absurd (omega arith)
sum_pick (suc n) k f h = by (sum_pick n k f) (ℕ_discrete n k)
  where
    by : (k < n → sum n (λ i. f i * equal i k) ≡ f k) → Dec (n ≡ k) → sum n (λ i. f i * equal i k) + f n * equal n k ≡ f k
    by before (yes e) =
        ap₂ ◌+◌ (sum_zero n (λ i. f i * equal i k) (λ i l. ap (f i *◌) (equal_no {a = i} {b = k} (λ d. omega (arith, d))) ∙ mul-zero (f i))) (ap₂ (λ (x y : ℕ). f x * y) e (equal_yes e) ∙ mul-one (f k))
        ∙ zero-add (f k)
    by before (no e) = ap₂ ◌+◌ (before (omega (arith, e))) (ap (f n *◌) (equal_no e) ∙ mul-zero (f n)) ∙ add-zero (f k)

pub sum_bits : (n : ℕ) (f : ℕ → ℕ) → sum (2 ^ suc n) f ≡ sum (2 ^ n) (λ t. f (t * 2) + f (t * 2 + 1))
sum_bits n f = ap (λ (m : ℕ). sum m f) (let e : 2 ^ suc n ≡ 2 ^ n * 2 = omega arith in e) ∙ sum_of-pairs 0 ◌+◌ ℕ-adds (2 ^ n) f

pub sum_halves : (n : ℕ) (f : ℕ → ℕ) → sum (2 ^ suc n) f ≡ sum (2 ^ n) f + sum (2 ^ n) (λ i. f (2 ^ n + i))
sum_halves n f = ap (λ (m : ℕ). sum m f) (let e : 2 ^ suc n ≡ 2 ^ n + 2 ^ n = omega arith in e) ∙ sum_of-split 0 ◌+◌ ℕ-adds (2 ^ n) (2 ^ n) f
