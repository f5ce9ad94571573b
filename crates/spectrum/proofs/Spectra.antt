-- From a table's signs to its spectrum.
use Prim.Native.Nat.{ℕ, ◌+◌, ◌^◌, ◌<◌, ◌≤◌}
use native.Mathlib.Nat.{add_comm}
use native.Mathlib.Decide.{dec_lt}
use native.Mathlib.Omega.{arith}
use mathlib.Core.Path.{◌≡◌, sym, ap, ap₂, subst, ◌∙◌}
use mathlib.Core.List.{List, ◌++◌}
use lib.ListN.{length, take, drop, get_or-eq_default}
use lib.Seq.{length-take-le, take_at, drop_at}
use lib.Pow.{pow_mono}
use lib.IntN.{ℤ, pos, nat_abs, ◌+ℤ◌}
use Rattle.numbers.specs.Bits.{dot}
use Rattle.numbers.specs.Sums.{list}
use Rattle.numbers.specs.Turn.{flip}
use Rattle.numbers.proofs.Sums.{sum_of-ext}
use Rattle.numbers.proofs.Lists.{length-list, get_or-list, list_ext}
use Rattle.numbers.proofs.Integers.{flip_add, nat_abs-flip}
use Rattle.table.specs.Table.{value_at}
use Rattle.spectrum.specs.Spectrum.{coefficient, spectrum_of}
use Rattle.spectrum.specs.Working.{hadamard, entry, transformed, Tame}
use Rattle.spectrum.proofs.Callers.{length-spectrum}
use Rattle.spectrum.proofs.Halves.{hadamard_ext}

-- +1, or -1 where f(x) is 1
abbrev pub sign : (ℕ → ℕ) → ℕ → ℤ
sign f x = flip (f x) (pos 1)

pub hadamard_sign : (n : ℕ) (f : ℕ → ℕ) (k : ℕ) → hadamard n (sign f) k ≡ coefficient n f k
hadamard_sign n f k =
    sum_of-ext (pos 0) ◌+ℤ◌ (2 ^ n) (λ x. flip (dot k x) (sign f x)) (λ x. flip (f x + dot k x) (pos 1))
    (λ x h. sym (ap (λ (m : ℕ). flip m (pos 1)) (add_comm (f x) (dot k x)) ∙ flip_add (dot k x) (f x) (pos 1)))

-- the transform of the signs is the spectrum
pub transformed_signs : (n : ℕ) (t : List ℕ) → transformed n (list (2 ^ n) (sign (value_at t))) ≡ spectrum_of n t
unfolding transformed spectrum_of
transformed_signs n t =
    list_ext (2 ^ n) (hadamard n (entry (list (2 ^ n) (sign (value_at t))))) (coefficient n (value_at t))
    (λ k h. hadamard_ext n (entry (list (2 ^ n) (sign (value_at t)))) (sign (value_at t)) k (λ x l. get_or-list (2 ^ n) (sign (value_at t)) x (pos 0) l) ∙ hadamard_sign n (value_at t) k)

sign_size : (m : ℕ) (f : ℕ → ℕ) (i : ℕ) → nat_abs (entry (list m (sign f)) i) ≤ 1
sign_size m f i = by (dec_lt i m)
  where
    by : Dec (i < m) → nat_abs (entry (list m (sign f)) i) ≤ 1
    by (yes h) = omega (arith, ap nat_abs (get_or-list m (sign f) i (pos 0) h), nat_abs-flip (f i) (pos 1))
    by (no h) = omega (arith, ap nat_abs (get_or-eq_default (list m (sign f)) (pos 0) {n = i} (omega (arith, length-list m (sign f)))))

-- the signs stand at the front of a slice that has room
pub record Signs (n : ℕ) (t : List ℕ) (out signs : List ℤ) (entries : ℕ) : Type 0 where
  pub small : n ≤ 8
  pub count : entries ≡ 2 ^ n
  pub fits : entries ≤ length out
  pub each : signs ≡ list (length (take entries out)) (sign (value_at t))

module _ {n : ℕ} {t : List ℕ} {out signs : List ℤ} {entries : ℕ} (s : Signs n t out signs entries) where
  are_signs : signs ≡ list (2 ^ n) (sign (value_at t))
  are_signs = s.each ∙ ap (λ (m : ℕ). list m (sign (value_at t))) (length-take-le entries out s.fits ∙ s.count)

  signs_long : length signs ≡ entries
  signs_long = ap length are_signs ∙ length-list (2 ^ n) (sign (value_at t)) ∙ sym s.count

  first_part : take entries (signs ++ drop entries out) ≡ list (2 ^ n) (sign (value_at t))
  first_part = take_at signs (drop entries out) entries signs_long ∙ are_signs

  pub part_long : entries ≡ length (take entries (signs ++ drop entries out))
  part_long = sym (ap length (take_at signs (drop entries out) entries signs_long) ∙ signs_long)

  pub signs_tame : Tame (take entries (signs ++ drop entries out))
  signs_tame =
      let l = length-list (2 ^ n) (sign (value_at t)) in
      let b : 2 ^ n ≤ 2 ^ 8 = pow_mono {i = n} {j = 8} s.small in
      subst Tame (sym first_part) (record { bits = n; long = l; most = 1; each = sign_size (2 ^ n) (value_at t); all = omega arith })

  -- what the call leaves: the spectrum, then what stood there
  pub leaves_spectrum : (part : List ℤ) → ((m : ℕ) → length (take entries (signs ++ drop entries out)) ≡ 2 ^ m → part ≡ transformed m (take entries (signs ++ drop entries out)))
      → part ++ drop entries (signs ++ drop entries out) ≡ spectrum_of n t ++ drop (length (spectrum_of n t)) out
  leaves_spectrum part h =
      ap₂ ◌++◌ (h n (sym part_long ∙ s.count) ∙ ap (transformed n) first_part ∙ transformed_signs n t)
      (drop_at signs (drop entries out) entries signs_long ∙ ap (λ (m : ℕ). drop m out) (s.count ∙ sym (length-spectrum n t)))
