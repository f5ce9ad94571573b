-- The first place where two rows differ, as the first of their pairs that does.
use Rattle.std.proofs.Common.{◌≡◌, ℕ, ◌<◌, ◌≤◌, Bool, Option, Some, None, cond, not, eqb, ltb, List, length, take, refl, ap, ◌∙◌, ap₂, arith, length-take-le, get_or, get_or-take, true, false, ltb-false}
use Rattle.std.proofs.lemmas.List.Sums.{position_or_len_is}
use Rattle.std.proofs.lemmas.Slice.Zip.{length-zip, get_or-zip}
use Rattle.std.specs.List.{position_or_len, zip}
use Rattle.std.specs.Option.{unwrap_or}
use Rattle.numbers.specs.Search.{least}
use Rattle.numbers.specs.Working.{unlike}
use Rattle.numbers.proofs.Search.{least_found}
use Rattle.coefficients.specs.Working.{entry}

abbrev pub differ : ℕ × ℕ → Bool
differ p = not (eqb p.0 p.1)

module _ (a b : List ℕ) (n : ℕ) (ha : n ≤ length a) (hb : n ≤ length b) where
  abbrev pub pairs : List (ℕ × ℕ)
  pairs = zip (take n a) (take n b)

  long : length pairs ≡ n
  long = length-zip (take n a) (take n b) ∙ (omega (arith, length-take-le n a ha, length-take-le n b hb))

  at : (k : ℕ) → k < n → differ (get_or pairs k (0, 0)) ≡ unlike (entry a) (entry b) k
  at k h =
      ap differ (get_or-zip (take n a) (take n b) k (0, 0) (omega (arith, length-take-le n a ha)) (omega (arith, length-take-le n b hb)))
      ∙ ap₂ (λ (x y : ℕ). not (eqb x y)) (get_or-take n a k 0 h) (get_or-take n b k 0 h)

  place : position_or_len differ pairs ≡ least (unlike (entry a) (entry b)) n 0
  place =
      let test = unlike (entry a) (entry b) in
      let r = least_found test n 0 in
      position_or_len_is differ pairs (least test n 0) (0, 0) (omega (arith, r.most, long)) (λ k h. at k (omega (arith, r.most)) ∙ r.before k (omega arith) h)
      (λ h. at (least test n 0) (omega (arith, long)) ∙ r.there (omega (arith, long)))

  pub first_of_pairs : (r : Option ℕ) → r ≡ cond (ltb (position_or_len differ pairs) (length pairs)) (Some (position_or_len differ pairs)) None → unwrap_or r n ≡ least (unlike (entry a) (entry b)) n 0
  first_of_pairs r e = ap (λ (o : Option ℕ). unwrap_or o n) e ∙ by (ltb p (length pairs)) refl
    where
      p : ℕ
      p = position_or_len differ pairs

      by : (t : Bool) → ltb p (length pairs) ≡ t → unwrap_or (cond t (Some p) None) n ≡ least (unlike (entry a) (entry b)) n 0
      by true h = place
      by false h = omega (arith, ltb-false p (length pairs) h, long, place, (least_found (unlike (entry a) (entry b)) n 0).most)
