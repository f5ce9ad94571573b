-- The transform by halves is the sum of the paper, at each k.
use Prim.Native.Nat.{ℕ, suc, ◌+◌, ◌^◌, ◌<◌}
use native.Mathlib.Nat.{two-pow-succ}
use native.Mathlib.Omega.{arith}
use mathlib.Core.Path.{◌≡◌, refl, sym, ap, ap₂, ◌∙◌}
use mathlib.Core.List.{List, ◌++◌}
use lib.ListN.{length, take, drop, get_or-append}
use lib.Seq.{get_or-take, get_or-drop, get_or-append-add}
use lib.IntN.{ℤ, pos, neg_ℤ, ◌+ℤ◌, ◌-ℤ◌, neg_ℤ-+ℤ, +ℤ_idl}
use Rattle.numbers.specs.Bits.{dot}
use Rattle.numbers.specs.Sums.{sumℤ, list}
use Rattle.numbers.specs.Turn.{flip}
use Rattle.numbers.proofs.Sums.{ℤ-adds, sum_of-ext, sum_of-map, sum_of-split}
use Rattle.numbers.proofs.Lists.{length-list, get_or-list, is_list, list_ext, list_split}
use Rattle.numbers.proofs.Integers.{flip_mod}
use Rattle.numbers.proofs.Parity.{dot_low_high, dot_high_low, dot_high_high, dot_none}
use Rattle.spectrum.specs.Working.{hadamard, entry, transformed, sums_and_differences}

-- the second half of a row
abbrev pub later : ℕ → (ℕ → ℤ) → ℕ → ℤ
later n v x = v (2 ^ n + x)

pub hadamard_ext : (n : ℕ) (v u : ℕ → ℤ) (k : ℕ) → ((x : ℕ) → x < 2 ^ n → v x ≡ u x) → hadamard n v k ≡ hadamard n u k
hadamard_ext n v u k h = sum_of-ext (pos 0) ◌+ℤ◌ (2 ^ n) (λ x. flip (dot k x) (v x)) (λ x. flip (dot k x) (u x)) (λ x l. ap (flip (dot k x)) (h x l))

hadamard_split : (n : ℕ) (v : ℕ → ℤ) (k : ℕ)
    → hadamard (suc n) v k ≡ sumℤ (2 ^ n) (λ x. flip (dot k x) (v x)) +ℤ sumℤ (2 ^ n) (λ x. flip (dot k (2 ^ n + x)) (later n v x))
hadamard_split n v k =
    ap (λ (m : ℕ). sumℤ m (λ x. flip (dot k x) (v x))) (two-pow-succ n)
    ∙ sum_of-split (pos 0) ◌+ℤ◌ ℤ-adds (2 ^ n) (2 ^ n) (λ x. flip (dot k x) (v x))

module _ (n : ℕ) (v : ℕ → ℤ) (k : ℕ) (h : k < 2 ^ n) where
  pub hadamard_sum : hadamard (suc n) v k ≡ hadamard n v k +ℤ hadamard n (later n v) k
  hadamard_sum =
      hadamard_split n v k
      ∙ ap (λ (z : ℤ). hadamard n v k +ℤ z)
      (sum_of-ext (pos 0) ◌+ℤ◌ (2 ^ n) (λ x. flip (dot k (2 ^ n + x)) (later n v x)) (λ x. flip (dot k x) (later n v x))
      (λ x l. ap (λ (m : ℕ). flip m (later n v x)) (dot_low_high n k x h l)))

  pub hadamard_difference : hadamard (suc n) v (2 ^ n + k) ≡ hadamard n v k -ℤ hadamard n (later n v) k
  hadamard_difference =
      hadamard_split n v (2 ^ n + k)
      ∙ ap₂ ◌+ℤ◌
      (sum_of-ext (pos 0) ◌+ℤ◌ (2 ^ n) (λ x. flip (dot (2 ^ n + k) x) (v x)) (λ x. flip (dot k x) (v x))
      (λ x l. ap (λ (m : ℕ). flip m (v x)) (dot_high_low n k x h l)))
      (sum_of-ext (pos 0) ◌+ℤ◌ (2 ^ n) (λ x. flip (dot (2 ^ n + k) (2 ^ n + x)) (later n v x)) (λ x. neg_ℤ (flip (dot k x) (later n v x)))
      (λ x l. ap (λ (m : ℕ). flip m (later n v x)) (dot_high_high n k x h l) ∙ flip_mod (1 + dot k x) (later n v x) ∙ one_more (dot k x) (later n v x))
      ∙ sym (sum_of-map (pos 0) ◌+ℤ◌ (pos 0) ◌+ℤ◌ neg_ℤ refl neg_ℤ-+ℤ (2 ^ n) (λ x. flip (dot k x) (later n v x))))
    where
      one_more : (m : ℕ) (z : ℤ) → flip (1 + m) z ≡ neg_ℤ (flip m z)
      one_more m z = ap (λ (j : ℕ). flip j z) (let e : 1 + m ≡ suc m = omega arith in e)

-- H_0 changes nothing
pub transformed_one : (v : List ℤ) → length v ≡ 1 → transformed 0 v ≡ v
unfolding transformed
transformed_one v e = sym (is_list (pos 0) v 1 (hadamard 0 (entry v)) e only)
  where
    only : (i : ℕ) → i < 1 → entry v i ≡ hadamard 0 (entry v) i
    only i l = ap (entry v) (let z : i ≡ 0 = omega arith in z) ∙ sym (+ℤ_idl (flip (dot i 0) (entry v 0)) ∙ ap (λ (m : ℕ). flip m (entry v 0)) (ap (λ (j : ℕ). dot j 0) (let z : i ≡ 0 = omega arith in z) ∙ dot_none 0))

pub length-transformed : (n : ℕ) (v : List ℤ) → length (transformed n v) ≡ 2 ^ n
unfolding transformed
length-transformed n v = length-list (2 ^ n) (hadamard n (entry v))

pub entry_transformed : (n : ℕ) (v : List ℤ) (k : ℕ) → k < 2 ^ n → entry (transformed n v) k ≡ hadamard n (entry v) k
unfolding transformed
entry_transformed n v k h = get_or-list (2 ^ n) (hadamard n (entry v)) k (pos 0) h

module _ (n : ℕ) (v : List ℤ) where
  -- both halves transformed
  unfoldable pub halves : List ℤ
  halves = transformed n (take (2 ^ n) v) ++ transformed n (drop (2 ^ n) v)

  pub first_half : (k : ℕ) → k < 2 ^ n → entry halves k ≡ hadamard n (entry v) k
  unfolding halves
  first_half k h =
      get_or-append (transformed n (take (2 ^ n) v)) (transformed n (drop (2 ^ n) v)) (pos 0) k (omega (arith, length-transformed n (take (2 ^ n) v)))
      ∙ entry_transformed n (take (2 ^ n) v) k h
      ∙ hadamard_ext n (entry (take (2 ^ n) v)) (entry v) k (λ x l. get_or-take (2 ^ n) v x (pos 0) l)

  pub second_half : (k : ℕ) → k < 2 ^ n → entry halves (2 ^ n + k) ≡ hadamard n (later n (entry v)) k
  unfolding halves
  second_half k h =
      ap (λ (m : ℕ). entry halves (m + k)) (sym (length-transformed n (take (2 ^ n) v)))
      ∙ get_or-append-add (transformed n (take (2 ^ n) v)) (transformed n (drop (2 ^ n) v)) k (pos 0)
      ∙ entry_transformed n (drop (2 ^ n) v) k h
      ∙ hadamard_ext n (entry (drop (2 ^ n) v)) (later n (entry v)) k (λ x l. get_or-drop (2 ^ n) v x (pos 0))

  -- "two halves .., each transformed the same way, then added and subtracted"
  pub by_halves : sums_and_differences (2 ^ n) halves ≡ transformed (suc n) v
  unfolding transformed sums_and_differences
  by_halves =
      ap₂ ◌++◌
      (list_ext (2 ^ n) (λ i. entry halves i +ℤ entry halves (2 ^ n + i)) (hadamard (suc n) (entry v))
      (λ i h. ap₂ ◌+ℤ◌ (first_half i h) (second_half i h) ∙ sym (hadamard_sum n (entry v) i h)))
      (list_ext (2 ^ n) (λ i. entry halves i -ℤ entry halves (2 ^ n + i)) (λ i. hadamard (suc n) (entry v) (2 ^ n + i))
      (λ i h. ap₂ ◌-ℤ◌ (first_half i h) (second_half i h) ∙ sym (hadamard_difference n (entry v) i h)))
      ∙ sym (ap (λ (m : ℕ). list m (hadamard (suc n) (entry v))) (two-pow-succ n) ∙ list_split (2 ^ n) (2 ^ n) (hadamard (suc n) (entry v)))
