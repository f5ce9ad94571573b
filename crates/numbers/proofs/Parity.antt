-- k.x and sets of wires, bit by bit and block by block.
use Rattle.std.proofs.Common.{◌≡◌, ℕ, zero, suc, ◌+◌, ◌*◌, ◌/◌, ◌%◌, ◌^◌, ◌<◌, ◌≤◌, min, Bool, true, false, sym, refl, ap, ◌∙◌, ap₂, arith, eq-eqb, ne_eqb}
use native.Mathlib.Nat.{add-mod, add-mod-mod}
use lib.Bits.{bit_and, and_step, and_block, and_comm, and_lt}
use lib.Count.{ones, ones_in, ones_step, ones_cat}
use native.Mathlib.Decide.{ℕ_discrete}
use Rattle.numbers.specs.Bits.{dot, indicator, equal, subset}

pub dot_below : (k x : ℕ) → dot k x < 2
unfolding dot
dot_below k x = omega arith

pub dot_comm : (k x : ℕ) → dot k x ≡ dot x k
unfolding dot
dot_comm k x = ap (λ (n : ℕ). ones n % 2) (and_comm k x)

pub dot_none : (x : ℕ) → dot 0 x ≡ 0
unfolding dot ones ones_in
dot_none x = refl

-- high and low parts count apart
pub dot_block : (n a b r s : ℕ) → r < 2 ^ n → s < 2 ^ n → dot (a * 2 ^ n + r) (b * 2 ^ n + s) ≡ (dot a b + dot r s) % 2
unfolding dot
dot_block n a b r s hr hs =
    ap (λ (m : ℕ). ones m % 2) (and_block n a b r s hr hs) ∙ ap (◌% 2) (ones_cat n (bit_and a b) (bit_and r s) (and_lt n r s hr hs))
    ∙ add-mod (ones (bit_and a b)) (ones (bit_and r s)) 2

module _ (n k x : ℕ) (hk : k < 2 ^ n) (hx : x < 2 ^ n) where
  by_block : (a b d : ℕ) → dot a b ≡ d → dot (a * 2 ^ n + k) (b * 2 ^ n + x) ≡ (d + dot k x) % 2
  by_block a b d e = dot_block n a b k x hk hx ∙ ap (λ (m : ℕ). (m + dot k x) % 2) e

  at_low : (m : ℕ) → 0 * 2 ^ n + m ≡ m
  at_low m = omega arith

  at_high : (m : ℕ) → 1 * 2 ^ n + m ≡ 2 ^ n + m
  at_high m = omega arith

  -- of two numbers with one more bit, that bit counts only where both have it
  pub dot_low_high : dot k (2 ^ n + x) ≡ dot k x
  unfolding dot ones ones_in
  dot_low_high = ap₂ dot (sym (at_low k)) (sym (at_high x)) ∙ by_block 0 1 0 refl ∙ omega (arith, dot_below k x)

  pub dot_high_low : dot (2 ^ n + k) x ≡ dot k x
  unfolding dot ones ones_in
  dot_high_low = ap₂ dot (sym (at_high k)) (sym (at_low x)) ∙ by_block 1 0 0 refl ∙ omega (arith, dot_below k x)

  pub dot_high_high : dot (2 ^ n + k) (2 ^ n + x) ≡ (1 + dot k x) % 2
  unfolding dot ones ones_in
  dot_high_high = ap₂ dot (sym (at_high k)) (sym (at_high x)) ∙ by_block 1 1 1 refl

bits_and : (a b : ℕ) → a < 2 → b < 2 → min a b ≡ a * b
bits_and zero b h k = omega arith
bits_and (suc zero) b h k = omega arith
bits_and (suc (suc a)) b h k = absurd (omega arith)

-- the lowest bit and the rest count apart
pub dot_step : (k x : ℕ) → dot k x ≡ (k % 2 * (x % 2) + dot (k / 2) (x / 2)) % 2
unfolding dot
dot_step k x =
    let m = min (k % 2) (x % 2) in
    let q = bit_and (k / 2) (x / 2) in
    let e : m ≡ k % 2 * (x % 2) = bits_and (k % 2) (x % 2) (omega arith) (omega arith) in
    let low : (q * 2 + m) % 2 ≡ m = omega arith in
    let high : (q * 2 + m) / 2 ≡ q = omega arith in
    ap (λ (n : ℕ). ones n % 2) (and_step k x) ∙ ap (◌% 2) (ones_step (q * 2 + m) ∙ ap₂ (λ (y z : ℕ). y + ones z) low high)
    ∙ ap (λ (n : ℕ). (n + ones q) % 2) e ∙ sym (add-mod-mod (k % 2 * (x % 2)) (ones q) 2)

pub indicator_at_most_one : (b : Bool) → indicator b ≤ 1
indicator_at_most_one true = omega arith
indicator_at_most_one false = omega arith

pub equal_yes : {a b : ℕ} → a ≡ b → equal a b ≡ 1
equal_yes {a} {b} p = ap indicator (eq-eqb a b p)

pub equal_no : {a b : ℕ} → (a ≡ b → ⊥) → equal a b ≡ 0
equal_no {a} {b} n = ap indicator (ne_eqb a b n)

pub equal_sym : (a b : ℕ) → equal a b ≡ equal b a
equal_sym a b = by (ℕ_discrete a b)
  where
    by : Dec (a ≡ b) → equal a b ≡ equal b a
    by (yes e) = equal_yes e ∙ sym (equal_yes (sym e))
    by (no e) = equal_no e ∙ sym (equal_no (λ d. e (sym d)))

-- numbers are equal where their lowest digits and their rests are
equal_digits : (p q m r : ℕ) → m < 2 → r < 2 → equal (p * 2 + m) (q * 2 + r) ≡ equal p q * equal m r
equal_digits p q m r hm hr = by (ℕ_discrete p q) (ℕ_discrete m r)
  where
    by : Dec (p ≡ q) → Dec (m ≡ r) → equal (p * 2 + m) (q * 2 + r) ≡ equal p q * equal m r
    by (yes e) (yes f) = rw (equal_yes e, equal_yes f, equal_yes {a = p * 2 + m} {b = q * 2 + r} (omega arith))
    by (yes e) (no f) = rw (equal_no f, equal_no {a = p * 2 + m} {b = q * 2 + r} (λ h. f (omega arith))) (omega arith)
    by (no e) d = rw (equal_no e, equal_no {a = p * 2 + m} {b = q * 2 + r} (λ h. e (omega arith))) (omega arith)

pub subset_step : (s x : ℕ) → subset s x ≡ subset (s / 2) (x / 2) * equal (s % 2 * (x % 2)) (s % 2)
unfolding subset
subset_step s x =
    let m = min (s % 2) (x % 2) in
    let e : m ≡ s % 2 * (x % 2) = bits_and (s % 2) (x % 2) (omega arith) (omega arith) in
    ap₂ equal (and_step s x) (let d : s ≡ s / 2 * 2 + s % 2 = omega arith in d)
    ∙ equal_digits (bit_and (s / 2) (x / 2)) (s / 2) m (s % 2) (omega arith) (omega arith)
    ∙ ap (λ (n : ℕ). equal (bit_and (s / 2) (x / 2)) (s / 2) * equal n (s % 2)) e
