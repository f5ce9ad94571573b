-- Sums over the sets above or below, by halves.
use Rattle.std.proofs.Common.{◌≡◌, ℕ, suc, ◌+◌, ◌*◌, ◌%◌, ◌^◌, ◌<◌, Bool, true, false, List, ◌++◌, length, take, drop, sym, ap, ◌∙◌, ap₂, add-zero, add_comm, zero-add, zero-mul, arith, get_or-drop, get_or-take, get_or-append-add}
use native.Mathlib.Nat.{add-mod, two-pow-succ}
use lib.ListN.{get_or-append}
use Rattle.numbers.specs.Bits.{subset}
use Rattle.numbers.specs.Sums.{sum, list}
use Rattle.numbers.proofs.Sums.{sum_of-ext}
use Rattle.numbers.proofs.Lists.{length-list, get_or-list, list_ext, list_split}
use Rattle.numbers.proofs.Subsets.{subset_low_high, subset_high_low, subset_high_high, sum_zero, sum_halves}
use Rattle.coefficients.specs.Working.{entry, counts, gathered, joined}

-- the sum at s, before it wraps
abbrev pub sum_around : Bool → ℕ → (ℕ → ℕ) → ℕ → ℕ
sum_around up n v s = sum (2 ^ n) (λ m. counts up s m * v m)

abbrev upper : ℕ → (ℕ → ℕ) → ℕ → ℕ
upper n v m = v (2 ^ n + m)

around_ext : (up : Bool) (n : ℕ) (v u : ℕ → ℕ) (s : ℕ) → ((m : ℕ) → m < 2 ^ n → v m ≡ u m) → sum_around up n v s ≡ sum_around up n u s
around_ext up n v u s h = sum_of-ext 0 ◌+◌ (2 ^ n) (λ m. counts up s m * v m) (λ m. counts up s m * u m) (λ m l. ap (counts up s m *◌) (h m l))

module _ (n : ℕ) (v : ℕ → ℕ) (s : ℕ) (hs : s < 2 ^ n) where
  same_counts : (up : Bool) (u : ℕ → ℕ) (f : ℕ → ℕ) → ((m : ℕ) → m < 2 ^ n → f m ≡ counts up s m) → sum (2 ^ n) (λ m. f m * u m) ≡ sum_around up n u s
  same_counts up u f h = sum_of-ext 0 ◌+◌ (2 ^ n) (λ m. f m * u m) (λ m. counts up s m * u m) (λ m l. ap (◌* u m) (h m l))

  no_counts : (u : ℕ → ℕ) (f : ℕ → ℕ) → ((m : ℕ) → m < 2 ^ n → f m ≡ 0) → sum (2 ^ n) (λ m. f m * u m) ≡ 0
  no_counts u f h = sum_zero (2 ^ n) (λ m. f m * u m) (λ m l. ap (◌* u m) (h m l) ∙ zero-mul (u m))

  -- the sets that contain s: with and without the highest wire, or with it alone
  up_low : sum_around true (suc n) v s ≡ sum_around true n v s + sum_around true n (upper n v) s
  up_low = sum_halves n (λ m. subset s m * v m) ∙ ap (sum_around true n v s +◌) (same_counts true (upper n v) (λ m. subset s (2 ^ n + m)) (λ m l. subset_low_high n s m hs l))

  up_high : sum_around true (suc n) v (2 ^ n + s) ≡ sum_around true n (upper n v) s
  up_high =
      sum_halves n (λ m. subset (2 ^ n + s) m * v m)
      ∙ ap₂ ◌+◌ (no_counts v (λ m. subset (2 ^ n + s) m) (λ m l. subset_high_low n s m hs l))
      (same_counts true (upper n v) (λ m. subset (2 ^ n + s) (2 ^ n + m)) (λ m l. subset_high_high n s m hs l))
      ∙ zero-add (sum_around true n (upper n v) s)

  -- the sets that lie in s
  down_low : sum_around false (suc n) v s ≡ sum_around false n v s
  down_low =
      sum_halves n (λ m. subset m s * v m) ∙ ap (sum_around false n v s +◌) (no_counts (upper n v) (λ m. subset (2 ^ n + m) s) (λ m l. subset_high_low n m s l hs))
      ∙ add-zero (sum_around false n v s)

  down_high : sum_around false (suc n) v (2 ^ n + s) ≡ sum_around false n v s + sum_around false n (upper n v) s
  down_high =
      sum_halves n (λ m. subset m (2 ^ n + s) * v m)
      ∙ ap₂ ◌+◌ (same_counts false v (λ m. subset m (2 ^ n + s)) (λ m l. subset_low_high n m s l hs))
      (same_counts false (upper n v) (λ m. subset (2 ^ n + m) (2 ^ n + s)) (λ m l. subset_high_high n m s l hs))

pub length-gathered : (up : Bool) (n : ℕ) (v : List ℕ) → length (gathered up n v) ≡ 2 ^ n
unfolding gathered
length-gathered up n v = length-list (2 ^ n) (λ s. sum_around up n (entry v) s % 65536)

pub entry_gathered : (up : Bool) (n : ℕ) (v : List ℕ) (s : ℕ) → s < 2 ^ n → entry (gathered up n v) s ≡ sum_around up n (entry v) s % 65536
unfolding gathered
entry_gathered up n v s h = get_or-list (2 ^ n) (λ s. sum_around up n (entry v) s % 65536) s 0 h

-- only the first 2^n entries count
pub gathered_front : (up : Bool) (n : ℕ) (v : List ℕ) → gathered up n (take (2 ^ n) v) ≡ gathered up n v
unfolding gathered
gathered_front up n v =
    list_ext (2 ^ n) (λ s. sum_around up n (entry (take (2 ^ n) v)) s % 65536) (λ s. sum_around up n (entry v) s % 65536)
    (λ s h. ap (◌% 65536) (around_ext up n (entry (take (2 ^ n) v)) (entry v) s (λ m l. get_or-take (2 ^ n) v m 0 l)))

module _ (up : Bool) (n : ℕ) (v : List ℕ) where
  -- both halves gathered
  unfoldable pub halves : List ℕ
  halves = gathered up n (take (2 ^ n) v) ++ gathered up n (drop (2 ^ n) v)

  first_half : (s : ℕ) → s < 2 ^ n → entry halves s ≡ sum_around up n (entry v) s % 65536
  unfolding halves
  first_half s h =
      get_or-append (gathered up n (take (2 ^ n) v)) (gathered up n (drop (2 ^ n) v)) 0 s (omega (arith, length-gathered up n (take (2 ^ n) v)))
      ∙ entry_gathered up n (take (2 ^ n) v) s h
      ∙ ap (◌% 65536) (around_ext up n (entry (take (2 ^ n) v)) (entry v) s (λ m l. get_or-take (2 ^ n) v m 0 l))

  second_half : (s : ℕ) → s < 2 ^ n → entry halves (2 ^ n + s) ≡ sum_around up n (upper n (entry v)) s % 65536
  unfolding halves
  second_half s h =
      ap (λ (k : ℕ). entry halves (k + s)) (sym (length-gathered up n (take (2 ^ n) v)))
      ∙ get_or-append-add (gathered up n (take (2 ^ n) v)) (gathered up n (drop (2 ^ n) v)) s 0
      ∙ entry_gathered up n (drop (2 ^ n) v) s h
      ∙ ap (◌% 65536) (around_ext up n (entry (drop (2 ^ n) v)) (upper n (entry v)) s (λ m l. get_or-drop (2 ^ n) v m 0))

module _ (n : ℕ) (v : List ℕ) where
  joined_list : (up : Bool) (f g : ℕ → ℕ) → ((s : ℕ) → s < 2 ^ n → f s ≡ sum_around up (suc n) (entry v) s % 65536) → ((s : ℕ) → s < 2 ^ n → g s ≡ sum_around up (suc n) (entry v) (2 ^ n + s) % 65536)
      → list (2 ^ n) f ++ list (2 ^ n) g ≡ gathered up (suc n) v
  unfolding gathered
  joined_list up f g p q =
      let t : ℕ → ℕ = λ s. sum_around up (suc n) (entry v) s % 65536 in
      ap₂ ◌++◌ (list_ext (2 ^ n) f t p) (list_ext (2 ^ n) g (λ s. t (2 ^ n + s)) q) ∙ sym (ap (λ (m : ℕ). list m t) (two-pow-succ n) ∙ list_split (2 ^ n) (2 ^ n) t)

  -- one half added to the other makes the whole
  pub by_halves : (up : Bool) → joined up (2 ^ n) (halves up n v) ≡ gathered up (suc n) v
  unfolding joined
  by_halves true =
      joined_list true (λ i. (entry (halves true n v) i + entry (halves true n v) (2 ^ n + i)) % 65536) (λ i. entry (halves true n v) (2 ^ n + i))
      (λ s h. ap₂ (λ (a b : ℕ). (a + b) % 65536) (first_half true n v s h) (second_half true n v s h)
      ∙ sym (ap (◌% 65536) (up_low n (entry v) s h) ∙ add-mod (sum_around true n (entry v) s) (sum_around true n (upper n (entry v)) s) 65536))
      (λ s h. second_half true n v s h ∙ sym (ap (◌% 65536) (up_high n (entry v) s h)))
  by_halves false =
      joined_list false (λ i. entry (halves false n v) i) (λ i. (entry (halves false n v) (2 ^ n + i) + entry (halves false n v) i) % 65536)
      (λ s h. first_half false n v s h ∙ sym (ap (◌% 65536) (down_low n (entry v) s h)))
      (λ s h. ap (◌% 65536) (add_comm (entry (halves false n v) (2 ^ n + s)) (entry (halves false n v) s)) ∙ ap₂ (λ (a b : ℕ). (a + b) % 65536) (first_half false n v s h) (second_half false n v s h)
      ∙ sym (ap (◌% 65536) (down_high n (entry v) s h) ∙ add-mod (sum_around false n (entry v) s) (sum_around false n (upper n (entry v)) s) 65536))
