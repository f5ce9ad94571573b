-- A number of w bits as the sum of its digits; and a map that respects exclusive or, but for what it makes of 0, is fixed by what it does to that and to single bits.
use Rattle.std.proofs.Common.{◌≡◌, ℕ, zero, suc, ◌+◌, ◌-◌, ◌*◌, ◌/◌, ◌%◌, ◌^◌, ◌<◌, sym, refl, ap, ◌∙◌, ap₂, mod-lt, mod-eq_of_lt, add_comm, one-mul, zero-mul, one-add, arith, pow_pos}
use native.Mathlib.Nat.{mod-one}
use lib.Bits.{bit_xor, xor_self, xor_shifted, xor_comm, xor_zero_r}
use lib.Count.{ones, ones_in, ones_cat}
use lib.Pow.{field, mod-mod-pow, mod-pow-add}
use Rattle.numbers.specs.Bits.{bit}
use Rattle.numbers.specs.Sums.{sum, sum_of}
use Rattle.numbers.proofs.Sums.{sum_of-ext}
use Rattle.numbers.proofs.Wires.{xor_adds}

-- a lower bit stays where the upper ones are cut off
pub bit_low : (x i w : ℕ) → i < w → bit (x % 2 ^ w) i ≡ bit x i
bit_low x i w h =
    ap (λ (n : ℕ). x % 2 ^ n / 2 ^ i % 2) (let e : w ≡ (w - suc i) + 1 + i = omega arith in e)
    ∙ ap (◌% 2) (field x (w - suc i + 1) i) ∙ mod-mod-pow (x / 2 ^ i) (w - suc i) 1

-- the highest bit and the rest
pub top_bit : (x w : ℕ) → x % 2 ^ suc w ≡ bit x w * 2 ^ w + x % 2 ^ w
top_bit x w = ap (λ (n : ℕ). x % 2 ^ n) (let e : suc w ≡ 1 + w = omega arith in e) ∙ mod-pow-add x 1 w

pub digits : (w x : ℕ) → sum w (λ j. bit x j * 2 ^ j) ≡ x % 2 ^ w
digits zero x = sym (mod-one x)
digits (suc w) x = ap (◌+ bit x w * 2 ^ w) (digits w x) ∙ add_comm (x % 2 ^ w) (bit x w * 2 ^ w) ∙ sym (top_bit x w)

-- what a sum starts with, taken out of it
from_start : (b c w : ℕ) (f : ℕ → ℕ) → sum_of (bit_xor b c) bit_xor w f ≡ bit_xor (sum_of b bit_xor w f) c
from_start b c zero f = refl
from_start b c (suc w) f =
    let s = sum_of b bit_xor w f in
    ap (λ (n : ℕ). bit_xor n (f w)) (from_start b c w f) ∙ xor_adds.assoc s c (f w) ∙ ap (bit_xor s) (xor_comm c (f w)) ∙ sym (xor_adds.assoc s (f w) c)

-- nothing for an odd number, c for an even one: the next number's is this one's with c
turn_about : (k c : ℕ) → (suc k + 1) % 2 * c ≡ bit_xor ((k + 1) % 2 * c) c
turn_about k c = by ((k + 1) % 2) (omega arith) ((suc k + 1) % 2) (omega arith)
  where
    by : (p : ℕ) → p < 2 → (q : ℕ) → q ≡ (p + 1) % 2 → q * c ≡ bit_xor (p * c) c
    by zero h q e = ap (◌* c) e ∙ one-mul c ∙ sym (ap (λ (n : ℕ). bit_xor n c) (zero-mul c) ∙ xor_adds.unit c)
    by (suc zero) h q e = ap (◌* c) e ∙ zero-mul c ∙ sym (ap (λ (n : ℕ). bit_xor n c) (one-mul c) ∙ xor_self c)
    by (suc (suc p)) h q e = absurd (omega arith)

one_one : ones 1 ≡ 1
unfolding ones ones_in
one_one = refl

-- a map that respects exclusive or, but for what it makes of 0
module _ (e : ℕ → ℕ) (affine : (x y : ℕ) → e (bit_xor x y) ≡ bit_xor (bit_xor (e x) (e y)) (e 0)) where
  abbrev made : ℕ → ℕ → ℕ
  made w x = sum_of ((ones x + 1) % 2 * e 0) bit_xor w (λ i. bit x i * e (2 ^ i))

  -- one bit more, which is 0 or 1
  with_bit : (w x r b : ℕ) → b < 2 → bit x w ≡ b → x ≡ b * 2 ^ w + r → r < 2 ^ w → e r ≡ made w r → ((i : ℕ) → i < w → bit r i ≡ bit x i) → e x ≡ made (suc w) x
  with_bit w x r zero h p q l ih low =
      let same : x ≡ r = omega arith in
      ap e same ∙ ih ∙ ap (λ (n : ℕ). made w n) (sym same) ∙ sym (ap (bit_xor (made w x)) (ap (◌* e (2 ^ w)) p ∙ zero-mul (e (2 ^ w))) ∙ xor_zero_r (made w x))
  with_bit w x r (suc zero) h p q l ih low =
      let f : ℕ → ℕ = λ i. bit x i * e (2 ^ i) in
      let s = sum_of ((ones r + 1) % 2 * e 0) bit_xor w f in
      let more : ones x ≡ suc (ones r) = ap ones q ∙ ones_cat w 1 r l ∙ ap (◌+ ones r) one_one ∙ one-add (ones r) in
      ap e (q ∙ sym (xor_shifted 1 w r l) ∙ xor_comm (1 * 2 ^ w) r) ∙ affine r (1 * 2 ^ w)
      ∙ ap₂ (λ (m n : ℕ). bit_xor (bit_xor m n) (e 0)) (ih ∙ sum_of-ext ((ones r + 1) % 2 * e 0) bit_xor w (λ i. bit r i * e (2 ^ i)) f (λ i k. ap (◌* e (2 ^ i)) (low i k))) (ap e (one-mul (2 ^ w)))
      ∙ xor_adds.assoc s (e (2 ^ w)) (e 0) ∙ ap (bit_xor s) (xor_comm (e (2 ^ w)) (e 0)) ∙ sym (xor_adds.assoc s (e 0) (e (2 ^ w)))
      ∙ sym (ap₂ bit_xor (ap (λ (k : ℕ). sum_of ((k + 1) % 2 * e 0) bit_xor w f) more ∙ ap (λ (b : ℕ). sum_of b bit_xor w f) (turn_about (ones r) (e 0)) ∙ from_start ((ones r + 1) % 2 * e 0) (e 0) w f) (ap (◌* e (2 ^ w)) p ∙ one-mul (e (2 ^ w))))
  with_bit w x r (suc (suc b)) h p q l ih low = absurd (omega arith)

  -- the exclusive or of what it makes of each bit, and of 0 where these are evenly many
  pub by_bits : (w x : ℕ) → x < 2 ^ w → e x ≡ made w x
  unfolding ones ones_in
  by_bits zero x h = let z : x ≡ 0 = omega arith in ap e z ∙ sym (ap (λ (n : ℕ). (ones n + 1) % 2 * e 0) z ∙ one-mul (e 0))
  by_bits (suc w) x h =
      let r = x % 2 ^ w in
      let l : r < 2 ^ w = mod-lt x (pow_pos w) in
      with_bit w x r (bit x w) (omega arith) refl (sym (mod-eq_of_lt h) ∙ top_bit x w) l (by_bits w r l) (λ i k. bit_low x i w k)

-- digits make a number of as many bits
pub digits_below : (w : ℕ) (b : ℕ → ℕ) → ((j : ℕ) → b j < 2) → sum w (λ j. b j * 2 ^ j) < 2 ^ w
digits_below zero b h = omega arith
digits_below (suc w) b h = top (b w) (h w) (digits_below w b h)
  where
    top : (d : ℕ) → d < 2 → sum w (λ j. b j * 2 ^ j) < 2 ^ w → sum w (λ j. b j * 2 ^ j) + d * 2 ^ w < 2 ^ suc w
    top zero k l = omega arith
    top (suc zero) k l = omega arith
    top (suc (suc d)) k l = absurd (omega arith)
