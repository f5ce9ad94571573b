-- What a call on a row of 2^n entries has after its calls on the two halves.
use Prim.Native.Nat.{ℕ, zero, suc, ◌-◌, ◌/◌, ◌^◌, ◌<◌, ◌≤◌}
use native.Mathlib.Omega.{arith}
use mathlib.Core.Path.{◌≡◌, refl, sym, ap, ap₂, subst, subst₂, ◌∙◌}
use mathlib.Core.List.{List, ◌++◌}
use lib.ListN.{length, take, drop, length-append, length-drop}
use lib.Seq.{length-take-le, take_all, drop_at}
use lib.Pow.{pow_pos}
use lib.IntN.{ℤ}
use Rattle.spectrum.specs.Working.{transformed, sums_and_differences, Tame, Paired}
use Rattle.spectrum.proofs.Halves.{halves, by_halves, length-transformed, transformed_one}
use Rattle.spectrum.proofs.Bounds.{half_bits, tame_first, tame_second, halves_paired}

-- a row of one entry is its own transform
pub one_entry : (v : List ℤ) → length v / 2 ≤ 0 → (n : ℕ) → length v ≡ 2 ^ n → v ≡ transformed n v
one_entry v h zero e = sym (transformed_one v e)
one_entry v h (suc m) e = absurd (omega (arith, pow_pos m))

-- both halves of a row are shorter than it
module _ {A : Type 0} (v front back : List A) (half : ℕ) (d : half ≡ length v / 2) (p : 0 < half) (f : front ≡ take half v) (g : back ≡ drop half v) where
  front_long : length front ≡ half
  front_long = ap length f ∙ length-take-le half v (omega arith)

  pub first_falls : length front < length v
  first_falls = omega (arith, front_long)

  pub second_falls : length back < length v
  second_falls = omega (arith, ap length g ∙ length-drop half v)

-- also where the second half is cut out of the row with another first half in it, as when the row is lent for each call in turn
module _ {A : Type 0} (v : List A) (half : ℕ) (d : half ≡ length v / 2) (p : 0 < half) (a : List A) (la : length a ≡ length (take half v)) where
  lent_long : length a ≡ half
  lent_long = la ∙ length-take-le half v (omega arith)

  second_stays : take (length (a ++ drop half v) - half) (drop half (a ++ drop half v)) ≡ drop half v
  second_stays =
      ap (take (length (a ++ drop half v) - half)) (drop_at a (drop half v) half lent_long)
      ∙ take_all (length (a ++ drop half v) - half) (drop half v) (omega (arith, lent_long, length-append a (drop half v)))

  pub second_falls_lent : length (take (length (a ++ drop half v) - half) (drop half (a ++ drop half v))) < length v
  second_falls_lent = second_falls v (take half v) (take (length (a ++ drop half v) - half) (drop half (a ++ drop half v))) half d p refl second_stays

module _ (v front back : List ℤ) (half : ℕ) (d : half ≡ length v / 2) (p : 0 < half) (f : front ≡ take half v) (g : back ≡ drop half v) where
  -- both may be transformed
  pub first_call : Tame v → Tame front
  first_call t = by (half_bits t.bits (length v) half t.long d p)
    where
      by : (m : ℕ) × (t.bits ≡ suc m) × (half ≡ 2 ^ m) → Tame front
      by (m, e, h) = subst Tame (sym (f ∙ ap (λ (k : ℕ). take k v) h)) (tame_first v m (t.long ∙ ap (λ (k : ℕ). 2 ^ k) e) t)

  pub second_call : Tame v → Tame back
  second_call t = by (half_bits t.bits (length v) half t.long d p)
    where
      by : (m : ℕ) × (t.bits ≡ suc m) × (half ≡ 2 ^ m) → Tame back
      by (m, e, h) = subst Tame (sym (g ∙ ap (λ (k : ℕ). drop k v) h)) (tame_second v m (t.long ∙ ap (λ (k : ℕ). 2 ^ k) e) t)

  module _ (a b : List ℤ) (ea : (n : ℕ) → length front ≡ 2 ^ n → a ≡ transformed n front) (eb : (n : ℕ) → length back ≡ 2 ^ n → b ≡ transformed n back) where
    module _ (m : ℕ) (e : length v ≡ 2 ^ suc m) (h : half ≡ 2 ^ m) where
      first_part : a ≡ transformed m (take (2 ^ m) v)
      first_part = ea m (front_long v front back half d p f g ∙ h) ∙ ap (transformed m) (f ∙ ap (λ (k : ℕ). take k v) h)

      second_part : b ≡ transformed m (drop (2 ^ m) v)
      second_part = eb m (ap length g ∙ length-drop half v ∙ omega arith) ∙ ap (transformed m) (g ∙ ap (λ (k : ℕ). drop k v) h)

      parts_joined : a ++ b ≡ halves m v
      unfolding halves
      parts_joined = ap₂ ◌++◌ first_part second_part

      part_long : length a ≡ 2 ^ m
      part_long = ap length first_part ∙ length-transformed m (take (2 ^ m) v)

      other_long : length b ≡ 2 ^ m
      other_long = ap length second_part ∙ length-transformed m (drop (2 ^ m) v)

    -- the two may be added and subtracted
    pub add_call : Tame v → (length b ≡ length a) × Paired (length a) (a ++ b)
    add_call t = by (half_bits t.bits (length v) half t.long d p)
      where
        by : (m : ℕ) × (t.bits ≡ suc m) × (half ≡ 2 ^ m) → (length b ≡ length a) × Paired (length a) (a ++ b)
        by (m, e, h) =
            let l = t.long ∙ ap (λ (k : ℕ). 2 ^ k) e in
            (other_long m l h ∙ sym (part_long m l h), subst₂ Paired (sym (part_long m l h)) (sym (parts_joined m l h)) (halves_paired v m l t))

    -- and what that gives is the transform
    pub add_gives : (u : List ℤ) → u ≡ sums_and_differences (length a) (a ++ b) → (n : ℕ) → length v ≡ 2 ^ n → u ≡ transformed n v
    add_gives u e n l = by (half_bits n (length v) half l d p)
      where
        by : (m : ℕ) × (n ≡ suc m) × (half ≡ 2 ^ m) → u ≡ transformed n v
        by (m, q, h) =
            let k = l ∙ ap (λ (k : ℕ). 2 ^ k) q in
            e ∙ ap₂ sums_and_differences (part_long m k h) (parts_joined m k h) ∙ by_halves m v ∙ ap (λ (k : ℕ). transformed k v) (sym q)
