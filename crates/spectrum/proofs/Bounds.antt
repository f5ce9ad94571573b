-- Sizes: no entry of a transformed row exceeds the sum of the row's sizes, so 32 bits hold all of the working.
use Prim.Native.Nat.{ℕ, zero, suc, ◌+◌, ◌*◌, ◌/◌, ◌^◌, ◌<◌, ◌≤◌}
use native.Mathlib.Nat.{le_trans, suc-mul, mul_comm, mul-le-mul_left, mul-add, add-le-add, le_of_eq, two-pow-succ}
use native.Mathlib.Decide.{dec_lt}
use native.Mathlib.Omega.{arith}
use mathlib.Core.Path.{◌≡◌, refl, sym, ap, ◌∙◌}
use mathlib.Core.List.{List}
use lib.ListN.{length, take, drop, length-take, length-drop, get_or-eq_default}
use lib.Seq.{get_or-take, get_or-drop, length-take-le}
use lib.IntN.{ℤ, pos, nat_abs}
use Rattle.numbers.specs.Bits.{dot}
use Rattle.numbers.specs.Sums.{sumℤ}
use Rattle.numbers.specs.Turn.{flip}
use Rattle.numbers.proofs.Integers.{nat_abs-add, nat_abs-flip}
use Rattle.spectrum.specs.Working.{hadamard, entry, Tame, Paired}
use Rattle.spectrum.proofs.Halves.{halves, first_half, second_half, later}

nat_abs-sum : (n b : ℕ) (f : ℕ → ℤ) → ((x : ℕ) → nat_abs (f x) ≤ b) → nat_abs (sumℤ n f) ≤ n * b
nat_abs-sum zero b f h = omega arith
nat_abs-sum (suc n) b f h = le_trans (nat_abs-add (sumℤ n f) (f n)) (le_trans (add-le-add (nat_abs-sum n b f h) (h n)) (le_of_eq (sym (suc-mul n b))))

-- "signed 32-bit": at most 2^n times the largest size
pub hadamard_size : (n b : ℕ) (v : ℕ → ℤ) (k : ℕ) → ((x : ℕ) → nat_abs (v x) ≤ b) → nat_abs (hadamard n v k) ≤ 2 ^ n * b
hadamard_size n b v k h = nat_abs-sum (2 ^ n) b (λ x. flip (dot k x) (v x)) (λ x. le_trans (le_of_eq (nat_abs-flip (dot k x) (v x))) (h x))

entry_take : (h : ℕ) (v : List ℤ) (b : ℕ) → ((i : ℕ) → nat_abs (entry v i) ≤ b) → (i : ℕ) → nat_abs (entry (take h v) i) ≤ b
entry_take h v b e i = by (dec_lt i h)
  where
    by : Dec (i < h) → nat_abs (entry (take h v) i) ≤ b
    by (yes l) = le_trans (le_of_eq (ap nat_abs (get_or-take h v i (pos 0) l))) (e i)
    by (no l) = le_trans (le_of_eq (ap nat_abs (get_or-eq_default (take h v) (pos 0) (omega (arith, length-take h v))))) (omega arith)

-- a row's half is 2^m long where the row has two entries or more
pub half_bits : (n l half : ℕ) → l ≡ 2 ^ n → half ≡ l / 2 → 0 < half → (m : ℕ) × (n ≡ suc m) × (half ≡ 2 ^ m)
half_bits zero l half e d h = absurd (omega arith)
half_bits (suc m) l half e d h = (m, refl, omega arith)

module _ (v : List ℤ) (m : ℕ) (e : length v ≡ 2 ^ suc m) (t : Tame v) where
  pub tame_first : Tame (take (2 ^ m) v)
  tame_first =
      let l : length (take (2 ^ m) v) ≡ 2 ^ m = length-take-le (2 ^ m) v (omega arith) in
      record { bits = m; long = l; most = t.most; each = entry_take (2 ^ m) v t.most t.each; all = le_trans (mul-le-mul_left t.most (omega arith)) t.all }

  pub tame_second : Tame (drop (2 ^ m) v)
  tame_second =
      let l : length (drop (2 ^ m) v) ≡ 2 ^ m = length-drop (2 ^ m) v ∙ omega arith in
      record { bits = m; long = l; most = t.most; each = λ i. le_trans (le_of_eq (ap nat_abs (get_or-drop (2 ^ m) v i (pos 0)))) (t.each (2 ^ m + i)); all = le_trans (mul-le-mul_left t.most (omega arith)) t.all }

  twice : (b : ℕ) → 2 ^ m * b + 2 ^ m * b ≡ b * length v
  twice b = sym (ap (λ (k : ℕ). b * k) (e ∙ two-pow-succ m) ∙ mul-add b (2 ^ m) (2 ^ m) ∙ ap (λ (k : ℕ). k + k) (mul_comm b (2 ^ m)))

  pub halves_paired : Paired (2 ^ m) (halves m v)
  halves_paired i h =
      let p = hadamard_size m t.most (entry v) i t.each in
      let q = hadamard_size m t.most (later m (entry v)) i (λ x. t.each (2 ^ m + x)) in
      rw (first_half m v i h, second_half m v i h) (le_trans (add-le-add p q) (le_trans (le_of_eq (twice t.most)) t.all))
