-- The ideal's coefficients from half turns at the table's ones.
use Rattle.std.proofs.Common.{◌≡◌, ℕ, ◌+◌, ◌-◌, ◌*◌, ◌%◌, ◌^◌, ◌<◌, ◌≤◌, false, List, ◌++◌, length, take, replicate, sym, ap, ◌∙◌, ap₂, append_assoc, add-one, arith, length-append, length-take-le, get_or-take, take_at}
use native.Mathlib.Nat.{two-pow-succ}
use lib.ListN.{length-replicate}
use borrow.Rule.Slice.PartMut.{post_of, put_mid}
use Rattle.numbers.specs.Bits.{subset}
use Rattle.numbers.specs.Sums.{sum, list}
use Rattle.numbers.proofs.Sums.{sum_of-ext}
use Rattle.numbers.proofs.Lists.{length-list, get_or-list, is_list, list_ext, list_split}
use Rattle.numbers.proofs.Subsets.{sum_scale}
use Rattle.table.specs.Table.{value_at}
use Rattle.running.specs.Masks.{most_masks}
use Rattle.running.proofs.Masks.{zeros}
use Rattle.coefficients.specs.Coefficients.{listed_start, most_starts, ideal_coefficient, ideal_coefficients}
use Rattle.coefficients.specs.Working.{entry, gathered}
use Rattle.coefficients.proofs.Ideals.{below_mark, with_mark}

-- half turns at the ones, gathered downwards, are the ideal's coefficients of the sets with wire n
turns_at : (t v : List ℕ) (n : ℕ) → v ≡ list (2 ^ n) (λ x. 32768 * value_at t x) → (s : ℕ) → s < 2 ^ n → sum (2 ^ n) (λ m. subset m s * entry v m) % 65536 ≡ ideal_coefficient n (value_at t) (2 ^ n + s)
turns_at t v n e s h =
    ap (◌% 65536)
    (sum_of-ext 0 ◌+◌ (2 ^ n) (λ m. subset m s * entry v m) (λ m. 32768 * (value_at t m * subset m s))
    (λ m k. ap (subset m s *◌) (ap (λ (l : List ℕ). entry l m) e ∙ get_or-list (2 ^ n) (λ x. 32768 * value_at t x) m 0 k) ∙ turn (subset m s) (value_at t m))
    ∙ sym (sum_scale 32768 (2 ^ n) (λ m. value_at t m * subset m s)))
    ∙ sym (with_mark n (value_at t) s h)
  where
    turn : (p q : ℕ) → p * (32768 * q) ≡ 32768 * (q * p)
    turn p q = omega arith

pub turns_ideal : (t before v after : List ℕ) → v ≡ list (length before) (λ x. 32768 * value_at t x) → ((n : ℕ) → length v ≡ 2 ^ n → after ≡ gathered false n v)
    → (n : ℕ) → length before ≡ 2 ^ n → after ≡ list (2 ^ n) (λ s. ideal_coefficient n (value_at t) (2 ^ n + s))
unfolding gathered
turns_ideal t before v after e g n l =
    let d : v ≡ list (2 ^ n) (λ x. 32768 * value_at t x) = e ∙ ap (λ (m : ℕ). list m (λ x. 32768 * value_at t x)) l in
    g n (ap length d ∙ length-list (2 ^ n) (λ x. 32768 * value_at t x))
    ∙ list_ext (2 ^ n) (λ s. sum (2 ^ n) (λ m. subset m s * entry v m) % 65536) (λ s. ideal_coefficient n (value_at t) (2 ^ n + s)) (turns_at t v n d)

-- put behind as many that are nothing, they are all of the ideal's
module _ (n half : ℕ) (h : half ≡ 2 ^ n) (f : ℕ → ℕ) (row upper : List ℕ) (none : row ≡ replicate most_masks 0) (fits : half + half ≤ most_masks)
    (e : upper ≡ list (2 ^ n) (λ s. ideal_coefficient n f (2 ^ n + s))) where
  abbrev whole : List ℕ
  whole = put_mid half (half + half - half) row upper

  row_long : length row ≡ most_masks
  row_long = ap length none ∙ length-replicate {A = ℕ} most_masks 0

  lower : take half row ≡ list (2 ^ n) (ideal_coefficient n f)
  lower =
      is_list 0 (take half row) (2 ^ n) (ideal_coefficient n f) (length-take-le half row (omega (arith, row_long)) ∙ h)
      (λ s k. get_or-take half row s 0 (omega arith) ∙ ap (λ (l : List ℕ). entry l s) none ∙ zeros most_masks s ∙ sym (below_mark n f s k))

  both_long : length (take half row ++ upper) ≡ half + half
  both_long =
      length-append (take half row) upper
      ∙ ap₂ ◌+◌ (length-take-le half row (omega (arith, row_long))) (ap length e ∙ length-list (2 ^ n) (λ s. ideal_coefficient n f (2 ^ n + s)) ∙ sym h)

  apart : whole ≡ (take half row ++ upper) ++ post_of half (half + half - half) row
  apart = sym (append_assoc (take half row) upper (post_of half (half + half - half) row))

  pub ideal_row : take (half + half) whole ≡ ideal_coefficients n f
  ideal_row =
      ap (take (half + half)) apart ∙ take_at (take half row ++ upper) (post_of half (half + half - half) row) (half + half) both_long ∙ ap₂ ◌++◌ lower e
      ∙ sym (ap (λ (m : ℕ). list (2 ^ m) (ideal_coefficient n f)) (add-one n) ∙ ap (λ (m : ℕ). list m (ideal_coefficient n f)) (two-pow-succ n) ∙ list_split (2 ^ n) (2 ^ n) (ideal_coefficient n f))

-- "ends as it starts": the first of the listed starts
pub some_starts : (starts : List ℕ) (m : ℕ) → starts ≡ list most_starts listed_start → m ≤ most_starts → take m starts ≡ list m listed_start
some_starts starts m e h =
    is_list 0 (take m starts) m listed_start (length-take-le m starts (omega (arith, ap length e)))
    (λ i k. get_or-take m starts i 0 k ∙ ap (λ (l : List ℕ). entry l i) e ∙ get_or-list most_starts listed_start i 0 (omega arith))
