-- 01, "K/D being angle/32,768 in lowest terms": K/D equals the angle, no number but 1 divides both, and no other fraction is so; the zeros below the lowest digit find it.
use Prim.Native.Nat.{ℕ, zero, suc, ◌+◌, ◌-◌, ◌*◌, ◌/◌, ◌%◌, ◌^◌, ◌<◌, ◌≤◌}
use native.Mathlib.Decide.{ℕ_discrete, dec_lt}
use native.Mathlib.Omega.{arith}
use native.Mathlib.Nat.{div-add-mod', mod-lt, eq_of_mul-eq-mul_left, max-zero, max-eq_right, div-div-eq-div-mul}
use Rattle.std.proofs.Math.Nat.{eq-one_of_dvd-one, dvd-mul_right}
use mathlib.Core.Path.{◌≡◌, refl, sym, ap, ap₂, ◌∙◌}
use mathlib.Core.Logic.{◌⊎◌, inl, inr, ⊎_elim}
use lib.Bits.{bit_or, or_step}
use lib.Count.{count_trailing_zeros}
use lib.Pow.{pow-add, shl-shr}
use borrow.Author.Tests.{eqb-true, eqb-false}
use Rattle.numbers.specs.Search.{least}
use Rattle.numbers.proofs.Search.{Least, least_found}
use Rattle.listing.specs.Fractions.{over, whole, denominator, fraction_of}

module _ (angle : ℕ) where
  found : Least (whole angle) 32768 1 (denominator angle)
  unfolding denominator
  found = least_found (whole angle) 32768 1

  -- D is the least: below it only 0 gives a multiple
  pub denominator_least : (d : ℕ) → angle * d % 32768 ≡ 0 → d < denominator angle → d ≡ 0
  denominator_least zero e h = refl
  denominator_least (suc d) e h = absurd (eqb-false (angle * suc d % 32768) 0 (found.before (suc d) (omega arith) h) e)

  pub denominator_most : denominator angle ≤ 32768
  denominator_most = by (dec_lt 32768 (denominator angle))
    where
      by : Dec (32768 < denominator angle) → denominator angle ≤ 32768
      by (yes h) = let z = denominator_least 32768 (omega arith) h in absurd (omega arith)
      by (no h) = omega arith

  -- K/D equals the angle over 32,768
  pub fraction_equals : (fraction_of angle).above * 32768 ≡ angle * (fraction_of angle).below
  fraction_equals =
      let e : angle * denominator angle % 32768 ≡ 0 = eqb-true (angle * denominator angle % 32768) 0 (found.there (omega (arith, denominator_most))) in
      omega arith

  -- "in lowest terms": what divides K and D is 1
  pub fraction_lowest : (g a b : ℕ) → (fraction_of angle).above ≡ g * a → (fraction_of angle).below ≡ g * b → g ≡ 1
  fraction_lowest zero a b p q = absurd (omega (arith, found.from))
  fraction_lowest (suc zero) a b p q = refl
  fraction_lowest (suc (suc g)) a b p q =
      let e : a * 32768 ≡ angle * b = eq_of_mul-eq-mul_left (suc (suc g)) (omega arith) (a * 32768) (angle * b) (omega (arith, ap (◌* 32768) p, ap (angle *◌) q, fraction_equals)) in
      let z = denominator_least b (omega arith) (omega (arith, found.from)) in
      absurd (omega (arith, found.from, ap (g *◌) z))

  -- no other fraction is so
  pub fraction_one : (k d : ℕ) → k * 32768 ≡ angle * d → ((g a b : ℕ) → k ≡ g * a → d ≡ g * b → g ≡ 1) → over k d ≡ fraction_of angle
  fraction_one k d e l =
      let n = denominator angle in
      let q = d / n in
      let r = d % n in
      let above = (fraction_of angle).above in
      let s : q * n + r ≡ d = div-add-mod' d n in
      let m : angle * d ≡ q * above * 32768 + angle * r = ap (angle *◌) (sym s) ∙ omega (arith, ap (q *◌) fraction_equals) in
      let z : r ≡ 0 = denominator_least r (omega arith) (mod-lt d (omega (arith, found.from))) in
      let t : d ≡ q * n = omega arith in
      let u : k ≡ q * above = omega (arith, ap (angle *◌) z) in
      let o : q ≡ 1 = l q above n u t in
      ap₂ over (u ∙ ap (◌* above) o ∙ omega arith) (t ∙ ap (◌* n) o ∙ omega arith)

-- "zero is `0*pi/1`"
pub fraction_zero : fraction_of 0 ≡ over 0 1
unfolding denominator least
fraction_zero = refl

divides_one : (g b : ℕ) → 1 ≡ g * b → g ≡ 1
divides_one g b e = eq-one_of_dvd-one (rw e (dvd-mul_right g b))

-- an odd number that divides a power of two is 1
odd_divides_power : (e g b : ℕ) → g % 2 ≡ 1 → 2 ^ e ≡ g * b → g ≡ 1
odd_divides_power zero g b h q = divides_one g b q
odd_divides_power (suc e) g b h q =
    let m : g * b ≡ (g / 2 * 2 + 1) * b = ap (◌* b) (omega arith) in
    let y : b ≡ b / 2 * 2 = omega arith in
    odd_divides_power e g (b / 2) h (omega (arith, ap (g *◌) y))

-- what divides an odd number is odd
odd_divisor : (k g a : ℕ) → k % 2 ≡ 1 → k ≡ g * a → g % 2 ≡ 1
odd_divisor k g a h p = by (ℕ_discrete (g % 2) 0)
  where
    by : Dec (g % 2 ≡ 0) → g % 2 ≡ 1
    by (yes x) = let y : g * a ≡ g / 2 * 2 * a = ap (◌* a) (omega arith) in absurd (omega arith)
    by (no x) = omega arith

-- k over 2^e that is the angle over 32,768 is in lowest terms where k is odd or e is 0
pub halved : (angle k e : ℕ) → (k % 2 ≡ 1) ⊎ (e ≡ 0) → k * 32768 ≡ angle * 2 ^ e → over k (2 ^ e) ≡ fraction_of angle
halved angle k e h q = fraction_one angle k (2 ^ e) q (by h)
  where
    by : (k % 2 ≡ 1) ⊎ (e ≡ 0) → (g a b : ℕ) → k ≡ g * a → 2 ^ e ≡ g * b → g ≡ 1
    by (inl o) g a b p d = odd_divides_power e g b (odd_divisor k g a o p) d
    by (inr o) g a b p d = divides_one g b (ap (2 ^◌) (sym o) ∙ d)

-- 2^t is the largest power of two that divides a and 2^k
record Twos (k a t : ℕ) : Type 0 where
  pub within : t ≤ k
  pub divides : a / 2 ^ t * 2 ^ t ≡ a
  pub largest : (a / 2 ^ t % 2 ≡ 1) ⊎ (t ≡ k)

trailing_odd : (k m : ℕ) → count_trailing_zeros (suc k) (m * 2 + 1) ≡ 0
unfolding count_trailing_zeros
trailing_odd k m = let e : (m * 2 + 1) % 2 ≡ 1 = omega arith in rw e

trailing_even : (k m : ℕ) → count_trailing_zeros (suc k) (m * 2 + 0) ≡ suc (count_trailing_zeros k m)
unfolding count_trailing_zeros
trailing_even k m = let e : (m * 2 + 0) % 2 ≡ 0 = omega arith in let q : (m * 2 + 0) / 2 ≡ m = omega arith in rw (e, q)

twos_none : (k a : ℕ) → (a % 2 ≡ 1) ⊎ (0 ≡ k) → Twos k a 0
twos_none k a h = record { within = omega arith; divides = omega arith; largest = ⊎_elim (λ o. inl (omega arith)) inr h }

twos_more : (k a t : ℕ) → a % 2 ≡ 0 → Twos k (a / 2) t → Twos (suc k) a (suc t)
twos_more k a t e w =
    let p : 2 ^ suc t ≡ 2 * 2 ^ t = omega arith in
    let q : a / 2 ^ suc t ≡ a / 2 / 2 ^ t = ap (a /◌) p ∙ sym (div-div-eq-div-mul a 2 (2 ^ t)) in
    record {
      within = omega (arith, w.within);
      divides = ap₂ (◌*◌) q p ∙ omega (arith, w.divides);
      largest = ⊎_elim (λ o. inl (ap (◌% 2) q ∙ o)) (λ o. inr (ap suc o)) w.largest;
    }

or_half : (k a : ℕ) → bit_or a (2 ^ suc k) ≡ bit_or (a / 2) (2 ^ k) * 2 + a % 2
or_half k a =
    let q : 2 ^ suc k / 2 ≡ 2 ^ k = omega arith in
    let r : 2 ^ suc k % 2 ≡ 0 = omega arith in
    or_step a (2 ^ suc k) ∙ rw (q, r, max-zero (a % 2))

-- t is the number of zeros below the lowest digit that is set in a or 2^k
trailing_twos : (k a : ℕ) → Twos k a (count_trailing_zeros (suc k) (bit_or a (2 ^ k)))
trailing_twos zero a =
    let e : bit_or a 1 ≡ bit_or (a / 2) 0 * 2 + 1 = or_step a 1 ∙ ap (bit_or (a / 2) 0 * 2 +◌) (max-eq_right (omega arith)) in
    rw (e, trailing_odd 0 (bit_or (a / 2) 0)) (twos_none 0 a (inr refl))
trailing_twos (suc k) a = by (a % 2) refl (trailing_twos k (a / 2))
  where
    by : (b : ℕ) → a % 2 ≡ b → Twos k (a / 2) (count_trailing_zeros (suc k) (bit_or (a / 2) (2 ^ k))) → Twos (suc k) a (count_trailing_zeros (suc (suc k)) (bit_or a (2 ^ suc k)))
    by zero e ih = rw (or_half k a, e, trailing_even (suc k) (bit_or (a / 2) (2 ^ k))) (twos_more k a _ e ih)
    by (suc zero) e ih = rw (or_half k a, e, trailing_odd (suc k) (bit_or (a / 2) (2 ^ k))) (twos_none (suc k) a (inl e))
    by (suc (suc b)) e ih = absurd (omega arith)

-- so that both are divided by it
pub lowest_terms : (angle t : ℕ) → t ≡ count_trailing_zeros 16 (bit_or angle 32768) → (t ≤ 15) × (over (angle / 2 ^ t) (32768 / 2 ^ t) ≡ fraction_of angle)
lowest_terms angle t e =
    let w : Twos 15 angle t = rw e (trailing_twos 15 angle) in
    let s : 15 - t + t ≡ 15 = omega (arith, w.within) in
    let m : 2 ^ (15 - t) * 2 ^ t ≡ 32768 = sym (pow-add 2 (15 - t) t) ∙ ap (2 ^◌) s in
    let q : angle / 2 ^ t * 32768 ≡ angle * 2 ^ (15 - t) = omega (arith, ap (angle / 2 ^ t *◌) m, ap (◌* 2 ^ (15 - t)) w.divides) in
    let d : 32768 / 2 ^ t ≡ 2 ^ (15 - t) = ap (◌/ 2 ^ t) (sym m) ∙ shl-shr (2 ^ (15 - t)) t in
    (w.within, ap (over (angle / 2 ^ t)) d ∙ halved angle (angle / 2 ^ t) (15 - t) (⊎_elim (λ o. inl o) (λ o. inr (omega arith)) w.largest) q)
