-- The transform twice is 2^n times what it began with; so the spectrum gives its table back.
use Prim.Native.Nat.{ℕ, zero, suc, ◌+◌, ◌-◌, ◌^◌, ◌<◌}
use native.Mathlib.Nat.{two-pow-succ}
use native.Mathlib.Decide.{dec_lt}
use native.Mathlib.Omega.{arith}
use mathlib.Core.Path.{◌≡◌, refl, sym, ap, ap₂, subst, ◌∙◌}
use lib.IntN.{ℤ, pos, neg_ℤ, ◌+ℤ◌, ◌-ℤ◌, ◌*ℤ◌, +ℤ_idl, neg_ℤ-+ℤ}
use Rattle.numbers.specs.Bits.{dot}
use Rattle.numbers.specs.Sums.{sumℤ}
use Rattle.numbers.specs.Turn.{flip}
use Rattle.numbers.proofs.Sums.{ℤ-adds, sum_of-ext, sum_of-map, sum_of-plus}
use Rattle.numbers.proofs.Integers.{flip_plus, flip_neg, sum_and_difference_lem, difference_of_both, multiple_plus, once}
use Rattle.numbers.proofs.Parity.{dot_comm, dot_none}
use Rattle.spectrum.specs.Spectrum.{coefficient}
use Rattle.spectrum.specs.Working.{hadamard}
use Rattle.spectrum.proofs.Halves.{later, hadamard_ext, hadamard_sum, hadamard_difference}
use Rattle.spectrum.proofs.Spectra.{sign, hadamard_sign}

module _ (n : ℕ) (a b : ℕ → ℤ) (x : ℕ) where
  hadamard_plus : hadamard n (λ k. a k +ℤ b k) x ≡ hadamard n a x +ℤ hadamard n b x
  hadamard_plus =
      sum_of-ext (pos 0) ◌+ℤ◌ (2 ^ n) (λ k. flip (dot x k) (a k +ℤ b k)) (λ k. flip (dot x k) (a k) +ℤ flip (dot x k) (b k)) (λ k h. flip_plus (dot x k) (a k) (b k))
      ∙ sum_of-plus (pos 0) ◌+ℤ◌ ℤ-adds (2 ^ n) (λ k. flip (dot x k) (a k)) (λ k. flip (dot x k) (b k))

hadamard_negative : (n : ℕ) (b : ℕ → ℤ) (x : ℕ) → hadamard n (λ k. neg_ℤ (b k)) x ≡ neg_ℤ (hadamard n b x)
hadamard_negative n b x =
    sum_of-ext (pos 0) ◌+ℤ◌ (2 ^ n) (λ k. flip (dot x k) (neg_ℤ (b k))) (λ k. neg_ℤ (flip (dot x k) (b k))) (λ k h. flip_neg (dot x k) (b k))
    ∙ sym (sum_of-map (pos 0) ◌+ℤ◌ (pos 0) ◌+ℤ◌ neg_ℤ refl neg_ℤ-+ℤ (2 ^ n) (λ k. flip (dot x k) (b k)))

module _ (n : ℕ) (v : ℕ → ℤ) where
  low : ℕ → ℤ
  low = hadamard n v

  high : ℕ → ℤ
  high = hadamard n (later n v)

  row : ℕ → ℤ
  row = hadamard (suc n) v

  -- the first half of the transformed row, transformed, and the second
  first_again : (x : ℕ) → hadamard n row x ≡ hadamard n low x +ℤ hadamard n high x
  unfolding low high row
  first_again x = hadamard_ext n row (λ k. low k +ℤ high k) x (λ k h. hadamard_sum n v k h) ∙ hadamard_plus n low high x

  second_again : (x : ℕ) → hadamard n (later n row) x ≡ hadamard n low x -ℤ hadamard n high x
  unfolding low high row
  second_again x =
      hadamard_ext n (later n row) (λ k. low k -ℤ high k) x (λ k h. hadamard_difference n v k h) ∙ hadamard_plus n low (λ k. neg_ℤ (high k)) x
      ∙ ap (λ (z : ℤ). hadamard n low x +ℤ z) (hadamard_negative n high x)

  doubled : (z : ℤ) → pos (2 ^ n) *ℤ z +ℤ pos (2 ^ n) *ℤ z ≡ pos (2 ^ suc n) *ℤ z
  doubled z = sym (ap (λ (m : ℕ). pos m *ℤ z) (two-pow-succ n) ∙ multiple_plus (2 ^ n) (2 ^ n) z)

  module _ (twice : (u : ℕ → ℤ) (y : ℕ) → y < 2 ^ n → hadamard n (hadamard n u) y ≡ pos (2 ^ n) *ℤ u y) where
    twice_low : (x : ℕ) → x < 2 ^ n → hadamard (suc n) (hadamard (suc n) v) x ≡ pos (2 ^ suc n) *ℤ v x
    unfolding low high row
    twice_low x h =
        hadamard_sum n row x h ∙ ap₂ ◌+ℤ◌ (first_again x) (second_again x) ∙ sum_and_difference_lem (hadamard n low x) (hadamard n high x)
        ∙ ap (λ (z : ℤ). z +ℤ z) (twice v x h) ∙ doubled (v x)

    twice_high : (x : ℕ) → x < 2 ^ n → hadamard (suc n) (hadamard (suc n) v) (2 ^ n + x) ≡ pos (2 ^ suc n) *ℤ v (2 ^ n + x)
    unfolding low high row
    twice_high x h =
        hadamard_difference n row x h ∙ ap₂ ◌-ℤ◌ (first_again x) (second_again x) ∙ difference_of_both (hadamard n low x) (hadamard n high x)
        ∙ ap (λ (z : ℤ). z +ℤ z) (twice (later n v) x h) ∙ doubled (v (2 ^ n + x))

hadamard_one : (v : ℕ → ℤ) → hadamard 0 v 0 ≡ v 0
hadamard_one v = +ℤ_idl (flip (dot 0 0) (v 0)) ∙ ap (λ (m : ℕ). flip m (v 0)) (dot_none 0)

-- "The transform twice is 2^n times the identity"
pub hadamard_twice : (n : ℕ) (v : ℕ → ℤ) (x : ℕ) → x < 2 ^ n → hadamard n (hadamard n v) x ≡ pos (2 ^ n) *ℤ v x
hadamard_twice zero v x h =
    let e : 0 ≡ x = omega arith in
    subst (λ (y : ℕ). hadamard 0 (hadamard 0 v) y ≡ pos 1 *ℤ v y) e (hadamard_one (hadamard 0 v) ∙ hadamard_one v ∙ sym (once (v 0)))
hadamard_twice (suc n) v x h = by (dec_lt x (2 ^ n)) (hadamard_twice n)
  where
    by : Dec (x < 2 ^ n) → ((u : ℕ → ℤ) (y : ℕ) → y < 2 ^ n → hadamard n (hadamard n u) y ≡ pos (2 ^ n) *ℤ u y) → hadamard (suc n) (hadamard (suc n) v) x ≡ pos (2 ^ suc n) *ℤ v x
    by (yes l) twice = twice_low n v twice x l
    by (no l) twice =
        let y : ℕ = x - 2 ^ n in
        let e : 2 ^ n + y ≡ x = omega arith in
        subst (λ (z : ℕ). hadamard (suc n) (hadamard (suc n) v) z ≡ pos (2 ^ suc n) *ℤ v z) e (twice_high n v twice y (omega arith))

-- the sum over k of (-1)^(k.x) s_k is 2^n (-1)^f(x)
pub spectrum_inverts : (n : ℕ) (f : ℕ → ℕ) (x : ℕ) → x < 2 ^ n → sumℤ (2 ^ n) (λ k. flip (dot k x) (coefficient n f k)) ≡ pos (2 ^ n) *ℤ flip (f x) (pos 1)
spectrum_inverts n f x h =
    sum_of-ext (pos 0) ◌+ℤ◌ (2 ^ n) (λ k. flip (dot k x) (coefficient n f k)) (λ k. flip (dot x k) (hadamard n (sign f) k))
    (λ k l. ap₂ flip (dot_comm k x) (sym (hadamard_sign n f k)))
    ∙ hadamard_twice n (sign f) x h
