-- Adding and subtracting two rows, entry by entry.
use Rattle.std.proofs.Common.{◌≡◌, ℕ, ◌+◌, ◌<◌, ◌≤◌, List, ◌++◌, length, ℤ, pos, nat_abs, ◌+ℤ◌, ◌-ℤ◌, sym, ap, ap₂, ◌∙◌}
use lib.ListN.{get_or-append}
use lib.Seq.{get_or-append-add}
use Rattle.numbers.specs.Sums.{list}
use Rattle.numbers.proofs.Lists.{filled, fill_ends, list_ext}
use Rattle.numbers.proofs.Rows.{filled_at}
use Rattle.spectrum.specs.Working.{entry, sums_and_differences, Paired}

abbrev pub sum_of : List ℤ → List ℤ → ℕ → ℤ
sum_of front back i = entry front i +ℤ entry back i

abbrev pub difference_of : List ℤ → List ℤ → ℕ → ℤ
difference_of front back i = entry front i -ℤ entry back i

module _ (front back : List ℤ) where
  in_front : (i : ℕ) → i < length front → entry (front ++ back) i ≡ entry front i
  in_front i h = get_or-append front back (pos 0) i h

  in_back : (i : ℕ) → entry (front ++ back) (length front + i) ≡ entry back i
  in_back i = get_or-append-add front back i (pos 0)

  module _ (now after : List ℤ) (i : ℕ) (f : now ≡ filled i (sum_of front back) front) (b : after ≡ filled i (difference_of front back) back) where
    -- the next pair's sum and difference fit, since neither was touched
    pub pair_fits : Paired (length front) (front ++ back) → i < length front → nat_abs (entry now i) + nat_abs (entry after i) ≤ 2147483647
    pair_fits p h =
        rw (filled_at i (sum_of front back) front now (pos 0) f, filled_at i (difference_of front back) back after (pos 0) b, sym (in_front i h), sym (in_back i)) (p i h)

    pub adding_ends : i ≡ length front → length back ≡ length front → now ++ after ≡ sums_and_differences (length front) (front ++ back)
    unfolding sums_and_differences
    adding_ends e same =
        ap₂ ◌++◌
        (fill_ends i (sum_of front back) front now e f
        ∙ list_ext (length front) (sum_of front back) (λ j. entry (front ++ back) j +ℤ entry (front ++ back) (length front + j)) (λ j h. ap₂ ◌+ℤ◌ (sym (in_front j h)) (sym (in_back j))))
        (fill_ends i (difference_of front back) back after (e ∙ sym same) b ∙ ap (λ (n : ℕ). list n (difference_of front back)) same
        ∙ list_ext (length front) (difference_of front back) (λ j. entry (front ++ back) j -ℤ entry (front ++ back) (length front + j)) (λ j h. ap₂ ◌-ℤ◌ (sym (in_front j h)) (sym (in_back j))))
