-- A number's bits: under exclusive or, of a power of two, and that they make the number.
use Rattle.std.proofs.Common.{◌≡◌, ℕ, zero, suc, ◌+◌, ◌-◌, ◌*◌, ◌/◌, ◌%◌, ◌^◌, ◌<◌, sym, refl, ap, ◌∙◌, ap₂, add-zero, add_assoc, mod-lt, mod-eq_of_lt, mul_assoc, one-mul, mul-zero, mul-one, one-add, arith, pow_pos, pow-add, shr-shr}
use native.Mathlib.Nat.{add-mod, add-mod-mod, mod-add-mod, div-eq_of_lt}
use native.Mathlib.Decide.{dec_lt}
use lib.Arith.{bin_ind}
use lib.Pow.{pow-lt, shl-shr, split}
use lib.Bits.{differ, bit_xor, xor_step, xor_shr, xor_block, xor_lt, xor_zero_l, xor_comm, shifted_even}
use Rattle.numbers.specs.Bits.{bit, dot}
use Rattle.numbers.proofs.Sums.{Adds}
use Rattle.numbers.proofs.Parity.{dot_below, dot_none, dot_step, dot_block}

bits_differ : (a b : ℕ) → a < 2 → b < 2 → differ a b ≡ (a + b) % 2
bits_differ zero b h k = omega arith
bits_differ (suc zero) zero h k = refl
bits_differ (suc zero) (suc zero) h k = refl
bits_differ (suc zero) (suc (suc b)) h k = absurd (omega arith)
bits_differ (suc (suc a)) b h k = absurd (omega arith)

-- the lowest bit of an exclusive or, and the others
xor_digits : (a b : ℕ) → (bit_xor a b % 2 ≡ (a + b) % 2) × (bit_xor a b / 2 ≡ bit_xor (a / 2) (b / 2))
xor_digits a b =
    let e = xor_step a b in
    let d = bits_differ (a % 2) (b % 2) (omega arith) (omega arith) in
    omega arith

pub xor_low : (a b : ℕ) → bit_xor a b % 2 ≡ (a + b) % 2
xor_low a b = (xor_digits a b).0

pub xor_half : (a b : ℕ) → bit_xor a b / 2 ≡ bit_xor (a / 2) (b / 2)
xor_half a b = (xor_digits a b).1

pub bit-xor : (a b i : ℕ) → bit (bit_xor a b) i ≡ (bit a i + bit b i) % 2
bit-xor a b i = ap (◌% 2) (xor_shr a b i) ∙ xor_low (a / 2 ^ i) (b / 2 ^ i) ∙ add-mod (a / 2 ^ i) (b / 2 ^ i) 2

-- exclusive or is a sum, so `Sums.interchange` regroups it
xor_assoc : (a b c : ℕ) → bit_xor (bit_xor a b) c ≡ bit_xor a (bit_xor b c)
xor_assoc = bin_ind (λ a. (b c : ℕ) → bit_xor (bit_xor a b) c ≡ bit_xor a (bit_xor b c)) (λ b c. ap (λ (n : ℕ). bit_xor n c) (xor_zero_l b) ∙ sym (xor_zero_l (bit_xor b c))) step
  where
    step : (a : ℕ) → ((b c : ℕ) → bit_xor (bit_xor (a / 2) b) c ≡ bit_xor (a / 2) (bit_xor b c)) → (b c : ℕ) → bit_xor (bit_xor a b) c ≡ bit_xor a (bit_xor b c)
    step a ih b c =
        let l : bit_xor (bit_xor a b) c % 2 ≡ (a + (b + c)) % 2 =
        xor_low (bit_xor a b) c ∙ sym (mod-add-mod (bit_xor a b) 2 c) ∙ ap (λ (n : ℕ). (n + c) % 2) (xor_low a b) ∙ mod-add-mod (a + b) 2 c
        ∙ ap (◌% 2) (add_assoc a b c) in
        let r : bit_xor a (bit_xor b c) % 2 ≡ (a + (b + c)) % 2 =
        xor_low a (bit_xor b c) ∙ sym (add-mod-mod a (bit_xor b c) 2) ∙ ap (λ (n : ℕ). (a + n) % 2) (xor_low b c) ∙ add-mod-mod a (b + c) 2 in
        let h : bit_xor (bit_xor a b) c / 2 ≡ bit_xor a (bit_xor b c) / 2 =
        xor_half (bit_xor a b) c ∙ ap (λ (n : ℕ). bit_xor n (c / 2)) (xor_half a b) ∙ ih (b / 2) (c / 2)
        ∙ ap (bit_xor (a / 2)) (sym (xor_half b c)) ∙ sym (xor_half a (bit_xor b c)) in
        omega arith

pub xor_adds : Adds 0 bit_xor
xor_adds = record { unit = xor_zero_l; assoc = xor_assoc; comm = xor_comm }

-- a bit's weight: 2^t or nothing
pub bit_own : (b t : ℕ) → b < 2 → bit (b * 2 ^ t) t ≡ b
bit_own b t h = ap (◌% 2) (shl-shr b t) ∙ mod-eq_of_lt h

pub bit_other : (b t i : ℕ) → b < 2 → (i ≡ t → ⊥) → bit (b * 2 ^ t) i ≡ 0
bit_other b t i h n = by (dec_lt i t)
  where
    at : (d : ℕ) → suc d + i ≡ t → bit (b * 2 ^ t) i ≡ 0
    at d e =
        ap (◌% 2) (ap (◌/ 2 ^ i) (ap (λ (m : ℕ). b * 2 ^ m) (sym e) ∙ ap (b *◌) (pow-add 2 (suc d) i) ∙ sym (mul_assoc b (2 ^ suc d) (2 ^ i))) ∙ shl-shr (b * 2 ^ suc d) i)
        ∙ shifted_even b d

    by : Dec (i < t) → bit (b * 2 ^ t) i ≡ 0
    by (yes l) = at (t - suc i) (omega arith)
    by (no l) =
        let k : 2 ^ t < 2 ^ i = pow-lt (omega (arith, n)) in
        ap (◌% 2) (div-eq_of_lt (small b h k))
      where
        small : (b : ℕ) → b < 2 → 2 ^ t < 2 ^ i → b * 2 ^ t < 2 ^ i
        small zero h k = omega arith
        small (suc zero) h k = omega arith
        small (suc (suc b)) h k = absurd (omega arith)

-- two weights at one place
pub xor_weights : (p q t : ℕ) → p < 2 → q < 2 → bit_xor (p * 2 ^ t) (q * 2 ^ t) ≡ (p + q) % 2 * 2 ^ t
xor_weights p q t hp hq =
    ap₂ bit_xor (sym (add-zero (p * 2 ^ t))) (sym (add-zero (q * 2 ^ t))) ∙ xor_block t p q 0 0 (pow_pos t) (pow_pos t) ∙ add-zero (bit_xor p q * 2 ^ t) ∙ ap (◌* 2 ^ t) (one_bit p q hp hq)
  where
    one_bit : (p q : ℕ) → p < 2 → q < 2 → bit_xor p q ≡ (p + q) % 2
    one_bit p q hp hq =
        let l = xor_lt 1 p q hp hq in
        let e = xor_low p q in
        omega arith

-- numbers of w bits are the same where their bits are
pub same_bits : (w a b : ℕ) → a < 2 ^ w → b < 2 ^ w → ((i : ℕ) → i < w → bit a i ≡ bit b i) → a ≡ b
same_bits zero a b ha hb h = omega arith
same_bits (suc w) a b ha hb h =
    let low = h 0 (omega arith) in
    let high : a / 2 ≡ b / 2 = same_bits w (a / 2) (b / 2) (omega arith) (omega arith) (λ i k. above a i ∙ h (suc i) (omega arith) ∙ sym (above b i)) in
    omega arith
  where
    above : (a i : ℕ) → bit (a / 2) i ≡ bit a (suc i)
    above a i = ap (◌% 2) (shr-shr a 1 i ∙ ap (λ (n : ℕ). a / 2 ^ n) (one-add i))

-- k.x adds up, and at a single bit it is the bit
pub dot_xor : (a b x : ℕ) → dot (bit_xor a b) x ≡ (dot a x + dot b x) % 2
dot_xor = bin_ind (λ a. (b x : ℕ) → dot (bit_xor a b) x ≡ (dot a x + dot b x) % 2) base step
  where
    base : (b x : ℕ) → dot (bit_xor 0 b) x ≡ (dot 0 x + dot b x) % 2
    base b x = let e = dot_none x in let h = dot_below b x in ap (λ (n : ℕ). dot n x) (xor_zero_l b) ∙ omega arith

    mix : (p q t u v : ℕ) → t < 2 → ((p + q) % 2 * t + (u + v) % 2) % 2 ≡ ((p * t + u) % 2 + (q * t + v) % 2) % 2
    mix p q zero u v h = rw (mul-zero, mul-zero, mul-zero) (simp (mod-add-mod, add-mod-mod) (ap (◌% 2) (omega arith)))
    mix p q (suc zero) u v h = simp (mul-one, mod-add-mod, add-mod-mod) (ap (◌% 2) (omega arith))
    mix p q (suc (suc t)) u v h = absurd (omega arith)

    step : (a : ℕ) → ((b x : ℕ) → dot (bit_xor (a / 2) b) x ≡ (dot (a / 2) x + dot b x) % 2) → (b x : ℕ) → dot (bit_xor a b) x ≡ (dot a x + dot b x) % 2
    step a ih b x =
        dot_step (bit_xor a b) x
        ∙ ap₂ (λ (m n : ℕ). (m * (x % 2) + n) % 2) (xor_low a b ∙ add-mod a b 2) (ap (λ (n : ℕ). dot n (x / 2)) (xor_half a b) ∙ ih (b / 2) (x / 2))
        ∙ mix (a % 2) (b % 2) (x % 2) (dot (a / 2) (x / 2)) (dot (b / 2) (x / 2)) (omega arith)
        ∙ ap₂ (λ (m n : ℕ). (m + n) % 2) (sym (dot_step a x)) (sym (dot_step b x))

pub dot_power : (i x : ℕ) → dot (2 ^ i) x ≡ bit x i
dot_power i x =
    ap₂ dot (sym (add-zero (1 * 2 ^ i) ∙ one-mul (2 ^ i))) (sym (split x i)) ∙ dot_block i 1 (x / 2 ^ i) 0 (x % 2 ^ i) (pow_pos i) (mod-lt x (pow_pos i))
    ∙ ap₂ (λ (m n : ℕ). (m + n) % 2) (lowest (x / 2 ^ i)) (dot_none (x % 2 ^ i)) ∙ omega arith
  where
    lowest : (y : ℕ) → dot 1 y ≡ y % 2
    lowest y = let e = dot_none (y / 2) in dot_step 1 y ∙ omega arith
