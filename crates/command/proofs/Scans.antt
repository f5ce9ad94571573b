-- What goes over a word or a line has found, by what is left of it.
use Prim.Native.Nat.{ℕ, zero, suc, ◌+◌, ◌-◌, ◌*◌, ◌/◌, ◌%◌, ◌<◌, ◌≤◌, min}
use native.Mathlib.Numerals.{add-one}
use native.Mathlib.Omega.{arith}
use mathlib.Core.Path.{◌≡◌, refl, sym, ap, ◌∙◌}
use mathlib.Core.Bool.{Bool, true, false, cond, ◌&&◌}
use mathlib.Core.List.{List, [], ◌∷◌}
use lib.Dec.{eqb, leb, ltb}
use lib.ListN.{length, get_or, take, drop, drop_of_length-le}
use lib.Seq.{drop-cons, length-take-le, take_at}
use borrow.Author.Tests.{lt-ltb, le-ltb, le-leb, lt-leb, leb-true, leb-false, ltb-true, ltb-false}
use Rattle.std.specs.Prelude.{Option, Some, None, unwrap_or}
use Rattle.std.proofs.lemmas.Bool.Decides.{nat_tests}
use Rattle.std.specs.List.{filter, list_all, slice_split, onto_first, slice_get}
use Rattle.numbers.specs.Sums.{list}
use Rattle.numbers.proofs.Lists.{length-list, list_split, filled, fill_ends}
use Rattle.command.specs.Words.{separators, from_word, word_end, word_at}
use Rattle.command.specs.Digits.{digit_of, all_digits, value_from, number_of, byte_at, bytes_of}

-- ---- words

-- the words behind the first, by the bytes that separate
pub separators_filtered : (s : List ℕ) → length (filter (λ b. eqb b 0) s) ≡ separators s
unfolding separators
separators_filtered [] = refl
separators_filtered (b ∷ bs) = by (eqb b 0) (separators_filtered bs)
  where
    by : (t : Bool) → length (filter (λ x. eqb x 0) bs) ≡ separators bs → length (cond t (b ∷ filter (λ x. eqb x 0) bs) (filter (λ x. eqb x 0) bs)) ≡ cond t 1 0 + separators bs
    by true e = omega arith
    by false e = omega arith

from_zero : (s : List ℕ) → from_word s 0 ≡ s
unfolding from_word
from_zero [] = refl
from_zero (b ∷ bs) = refl

-- the parts with a byte before the first of them
first_part : (b : ℕ) (parts : List (List ℕ)) → unwrap_or (slice_get (onto_first b parts) 0) [] ≡ b ∷ unwrap_or (slice_get parts 0) []
first_part b [] = refl
first_part b (x ∷ xs) = refl

other_part : (b : ℕ) (parts : List (List ℕ)) (k : ℕ) → unwrap_or (slice_get (onto_first b parts) (suc k)) [] ≡ unwrap_or (slice_get parts (suc k)) []
other_part b [] k = refl
other_part b (x ∷ xs) k = refl

-- the word k is the part k of the line, cut at the bytes that separate
pub word_split : (s : List ℕ) (k : ℕ) → unwrap_or (slice_get (slice_split (λ b. eqb b 0) s) k) [] ≡ word_at s k
unfolding from_word word_end
word_split [] zero = refl
word_split [] (suc k) = refl
word_split (b ∷ bs) zero = by (eqb b 0) (word_split bs 0)
  where
    by : (t : Bool) → unwrap_or (slice_get (slice_split (λ x. eqb x 0) bs) 0) [] ≡ word_at bs 0 → unwrap_or (slice_get (cond t ([] ∷ slice_split (λ x. eqb x 0) bs) (onto_first b (slice_split (λ x. eqb x 0) bs))) 0) [] ≡ take (cond t 0 (suc (word_end bs))) (b ∷ bs)
    by true e = refl
    by false e = first_part b (slice_split (λ x. eqb x 0) bs) ∙ ap (◌∷◌ b) (e ∙ rw (from_zero bs))
word_split (b ∷ bs) (suc k) = by (eqb b 0) (word_split bs k) (word_split bs (suc k))
  where
    by : (t : Bool) → unwrap_or (slice_get (slice_split (λ x. eqb x 0) bs) k) [] ≡ word_at bs k → unwrap_or (slice_get (slice_split (λ x. eqb x 0) bs) (suc k)) [] ≡ word_at bs (suc k) → unwrap_or (slice_get (cond t ([] ∷ slice_split (λ x. eqb x 0) bs) (onto_first b (slice_split (λ x. eqb x 0) bs))) (suc k)) [] ≡ word_at bs (suc k - cond t 1 0)
    by true e f =
        let n : k ≡ suc k - 1 = omega arith in
        e ∙ ap (word_at bs) n
    by false e f =
        let n : suc k ≡ suc k - 0 = omega arith in
        other_part b (slice_split (λ x. eqb x 0) bs) k ∙ f ∙ ap (word_at bs) n

-- ---- digits

digit_most : (b : ℕ) → digit_of b ≤ 16
unfolding digit_of
digit_most b = grind (arith, nat_tests)

-- what `digit` answers, or 0
pub digit_or_zero : (b : ℕ) (r : Option ℕ) → r ≡ cond (ltb (digit_of b) 16) (Some (digit_of b)) None → unwrap_or r 0 ≡ digit_of b % 16
digit_or_zero b r e = ap (λ d. unwrap_or d 0) e ∙ by (ltb (digit_of b) 16) refl
  where
    by : (t : Bool) → ltb (digit_of b) 16 ≡ t → unwrap_or (cond t (Some (digit_of b)) None) 0 ≡ digit_of b % 16
    by true e = omega (arith, ltb-true (digit_of b) 16 e)
    by false e = omega (arith, ltb-false (digit_of b) 16 e, digit_most b)

-- digits in text
pub digits_all : (s : List ℕ) → list_all (λ b. ltb (digit_of b) 16) s ≡ all_digits 16 s
unfolding all_digits
digits_all [] = refl
digits_all (b ∷ bs) = by (leb 16 (digit_of b)) refl (digits_all bs)
  where
    by : (t : Bool) → leb 16 (digit_of b) ≡ t → list_all (λ x. ltb (digit_of x) 16) bs ≡ all_digits 16 bs → (ltb (digit_of b) 16 && list_all (λ x. ltb (digit_of x) 16) bs) ≡ cond t false (all_digits 16 bs)
    by true e f = rw (le-ltb (digit_of b) 16 (leb-true 16 (digit_of b) e))
    by false e f = rw (lt-ltb (digit_of b) 16 (leb-false 16 (digit_of b) e)) f

-- at the end nothing is left
ended : (s : List ℕ) (i : ℕ) → length s ≤ i → drop i s ≡ []
ended s i h = drop_of_length-le s {i = i} h

-- the number that the digits from place i on make of the value so far
abbrev pub number_from : ℕ → List ℕ → Option ℕ
number_from v s = cond (all_digits 10 s) (Some (min 65535 (value_from v s))) None

pub number_ended : (v : ℕ) (s : List ℕ) (i : ℕ) → v ≤ 65535 → length s ≤ i → number_from v (drop i s) ≡ Some v
unfolding all_digits value_from
number_ended v s i h l = rw (ended s i l) (let e : min 65535 v ≡ v = omega arith in ap Some e)

digits_next : (base b : ℕ) (bs : List ℕ) → all_digits base (b ∷ bs) ≡ cond (leb base (digit_of b)) false (all_digits base bs)
unfolding all_digits
digits_next base b bs = refl

value_next : (v b : ℕ) (bs : List ℕ) → value_from v (b ∷ bs) ≡ value_from (10 * v + digit_of b) bs
unfolding value_from
value_next v b bs = refl

-- more digits never make a number smaller
value_least : (v : ℕ) (s : List ℕ) → v ≤ value_from v s
unfolding value_from
value_least v [] = omega arith
value_least v (b ∷ bs) = omega (arith, value_least (10 * v + digit_of b) bs)

-- so a number may stop at the largest on the way
value_stops : (m v : ℕ) (s : List ℕ) → min m (value_from (min m v) s) ≡ min m (value_from v s)
value_stops m v s = by (leb v m) refl
  where
    by : (t : Bool) → leb v m ≡ t → min m (value_from (min m v) s) ≡ min m (value_from v s)
    by true e =
        let k : min m v ≡ v = omega (arith, leb-true v m e) in
        rw k
    by false e =
        let k : min m v ≡ m = omega (arith, leb-false v m e) in
        rw k (omega (arith, leb-false v m e, value_least m s, value_least v s))

-- the next byte
module _ (s : List ℕ) (i : ℕ) (h : i < length s) where
  abbrev b : ℕ
  b = get_or s i 0

  next : drop i s ≡ b ∷ drop (i + 1) s
  next = rw (add-one i) (drop-cons s i 0 h)

  -- the value with it, as `longer` answers it
  abbrev more : ℕ → Option ℕ
  more v = cond (ltb (digit_of b) 10) (Some (min 65535 (10 * v + digit_of b))) None

  number_on : (v : ℕ) → digit_of b < 10 → number_from (min 65535 (10 * v + digit_of b)) (drop (i + 1) s) ≡ number_from v (drop i s)
  number_on v k =
      rw (next, digits_next 10 b (drop (i + 1) s), lt-leb 10 (digit_of b) k, value_next v b (drop (i + 1) s))
      (ap (λ n. cond (all_digits 10 (drop (i + 1) s)) (Some n) None) (value_stops 65535 (10 * v + digit_of b) (drop (i + 1) s)))

  number_stops : (v : ℕ) → 10 ≤ digit_of b → None ≡ number_from v (drop i s)
  number_stops v k = rw (next, digits_next 10 b (drop (i + 1) s), le-leb 10 (digit_of b) k)

  pub number_goes_on : (v n : ℕ) → more v ≡ Some n → (n ≤ 65535) × (number_from n (drop (i + 1) s) ≡ number_from v (drop i s))
  number_goes_on v n e = by (ltb (digit_of b) 10) refl e
    where
      by : (t : Bool) → ltb (digit_of b) 10 ≡ t → cond t (Some (min 65535 (10 * v + digit_of b))) None ≡ Some n → (n ≤ 65535) × (number_from n (drop (i + 1) s) ≡ number_from v (drop i s))
      by true k e =
          let same : n ≡ min 65535 (10 * v + digit_of b) = cc in
          (omega arith, ap (λ m. number_from m (drop (i + 1) s)) same ∙ number_on v (ltb-true (digit_of b) 10 k))
      by false k e = cc

  pub number_ends : (v : ℕ) → more v ≡ None → None ≡ number_from v (drop i s)
  number_ends v e = by (ltb (digit_of b) 10) refl e
    where
      by : (t : Bool) → ltb (digit_of b) 10 ≡ t → cond t (Some (min 65535 (10 * v + digit_of b))) None ≡ None → None ≡ number_from v (drop i s)
      by true k e = cc
      by false k e = number_stops v (ltb-false (digit_of b) 10 k)

pub a_number : (s : List ℕ) → 0 < length s → number_from 0 s ≡ number_of s
a_number s h = rw (lt-ltb 0 (length s) h)

-- the bytes that were put are the first of all
take_list : (r k : ℕ) (f : ℕ → ℕ) → r ≤ k → take r (list k f) ≡ list r f
take_list r k f h =
    let e : k ≡ r + (k - r) = omega arith in
    ap (λ (n : ℕ). take r (list n f)) e ∙ ap (take r) (list_split r (k - r) f) ∙ take_at (list r f) (list (k - r) (λ i. f (r + i))) r (length-list r f)

pub bytes_put : (s l row : List ℕ) (i r : ℕ) → r ≤ length s / 2 → r ≤ length l → i ≡ length (take r l) → row ≡ filled i (byte_at s) (take r l) → row ≡ take r (bytes_of s)
bytes_put s l row i r g h e p =
    fill_ends i (byte_at s) (take r l) row e p ∙ ap (λ (k : ℕ). list k (byte_at s)) (length-take-le r l h) ∙ sym (take_list r (length s / 2) (byte_at s) g)
