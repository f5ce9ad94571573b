-- One half of a row added to the other, entry by entry.
use Rattle.std.proofs.Common.{◌≡◌, ℕ, ◌+◌, ◌%◌, ◌<◌, true, false, List, ◌++◌, length, take, drop, ap, ◌∙◌, ap₂, arith, length-drop, length-take-le, get_or-drop, get_or-take, get_or-append-add, add-zero}
use Rattle.numbers.specs.Sums.{list}
use Rattle.numbers.proofs.Lists.{length-list, is_list, list_ext, filled}
use Rattle.coefficients.specs.Working.{entry, joined}

-- each entry of `a` with the one of `b` at its place
abbrev pub added : List ℕ → List ℕ → ℕ → ℕ
added a b i = (entry a i + entry b i) % 65536

-- a loop's turn finds the entry as it was
pub still_there : (to from now : List ℕ) (i : ℕ) → now ≡ filled i (added to from) to → (entry now i + entry from i) % 65536 ≡ added to from i
still_there to from now i e =
    let done : List ℕ = list i (added to from) in
    let here : i ≡ length done + 0 = omega (arith, length-list i (added to from)) in
    ap (λ (n : ℕ). (n + entry from i) % 65536)
    (ap₂ entry e here ∙ get_or-append-add done (drop i to) 0 0 ∙ get_or-drop i to 0 0 ∙ ap (entry to) (add-zero i))

module _ (h : ℕ) (v : List ℕ) (fits : h + h ≡ length v) (lower upper : List ℕ) (front : lower ≡ take h v) (back : upper ≡ drop h v) where
  lower_long : length lower ≡ h
  lower_long = ap length front ∙ length-take-le h v (omega arith)

  upper_long : length upper ≡ h
  upper_long = ap length back ∙ length-drop h v ∙ omega arith

  lower_at : (i : ℕ) → i < h → entry lower i ≡ entry v i
  lower_at i k = ap (λ (l : List ℕ). entry l i) front ∙ get_or-take h v i 0 k

  upper_at : (i : ℕ) → entry upper i ≡ entry v (h + i)
  upper_at i = ap (λ (l : List ℕ). entry l i) back ∙ get_or-drop h v i 0

  -- the upper half added to the lower
  pub joined_up : (sums : List ℕ) → sums ≡ list (length lower) (added lower upper) → sums ++ upper ≡ joined true h v
  unfolding joined
  joined_up sums e =
      ap₂ ◌++◌
      (e ∙ ap (λ (n : ℕ). list n (added lower upper)) lower_long
      ∙ list_ext h (added lower upper) (λ i. (entry v i + entry v (h + i)) % 65536) (λ i k. ap₂ (λ (a b : ℕ). (a + b) % 65536) (lower_at i k) (upper_at i)))
      (is_list 0 upper h (λ i. entry v (h + i)) upper_long (λ i k. upper_at i))

  -- the lower half added to the upper
  pub joined_down : (sums : List ℕ) → sums ≡ list (length upper) (added upper lower) → lower ++ sums ≡ joined false h v
  unfolding joined
  joined_down sums e =
      ap₂ ◌++◌ (is_list 0 lower h (entry v) lower_long lower_at)
      (e ∙ ap (λ (n : ℕ). list n (added upper lower)) upper_long
      ∙ list_ext h (added upper lower) (λ i. (entry v (h + i) + entry v i) % 65536) (λ i k. ap₂ (λ (a b : ℕ). (a + b) % 65536) (upper_at i) (lower_at i k)))
