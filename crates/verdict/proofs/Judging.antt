-- Summaries judged by their numbers give the verdict on their sides.
use Rattle.std.proofs.Common.{◌≡◌, ℕ, zero, suc, ◌+◌, ◌-◌, ◌*◌, ◌/◌, ◌%◌, ◌^◌, ◌<◌, ◌≤◌, min, Bool, List, take, drop, get_or, get_or-take, get_or-drop, sym, refl, ap, ◌∙◌, ap₂, mod-eq_of_lt, one-mul, add-one, arith, le-ltb, lt-ltb}
use native.Mathlib.Nat.{min-eq_left, min-eq_right}
use native.Mathlib.Decide.{dec_lt}
use lib.Bits.{bit_xor}
use lib.Count.{ones}
use lib.Pow.{pow-lt}
use Rattle.numbers.specs.Bits.{bit}
use Rattle.numbers.specs.Sums.{sum_of}
use Rattle.numbers.specs.Search.{least}
use Rattle.numbers.specs.Working.{unlike}
use Rattle.numbers.specs.Turn.{difference}
use Rattle.numbers.proofs.Sums.{sum_of-ext}
use Rattle.numbers.proofs.Lists.{list_ext}
use Rattle.numbers.proofs.Digits.{by_bits}
use Rattle.numbers.proofs.Search.{Lowest, least_found, lowest_map, unlike_found}
use Rattle.running.specs.Masks.{most_wires}
use Rattle.coefficients.specs.Coefficients.{listed_start}
use Rattle.coefficients.specs.Working.{entry}
use Rattle.verdict.specs.declared.Verdict.TheVariants.{Same, Different}
use Rattle.verdict.specs.Verdicts.{Side, verdict_at, verdict, differences}
use Rattle.verdict.specs.Working.{Summary, lowest_place, end_of, judged_at, judged}
use Rattle.verdict.proofs.Lowest.{verdict_found}
use Rattle.verdict.proofs.Scanning.{Summed, scan_finds, scan_phase}

-- the wrapping subtraction
pub wrapped_less : (a b : ℕ) → b < 65536 → (a + (65536 - b)) % 65536 ≡ difference a b
wrapped_less a b h = omega arith

-- the first minus the second, place by place
abbrev pub less : List ℕ → List ℕ → ℕ → ℕ
less first second s = difference (entry first s) (entry second s)

-- the wires' own ends stand behind that of start 0
pub own_end : (ends : List ℕ) (w i : ℕ) → i < w → get_or (take (w + 1 - 1) (drop 1 ends)) i 0 ≡ entry ends (i + 1)
own_end ends w i h = get_or-take (w + 1 - 1) (drop 1 ends) i 0 (omega arith) ∙ get_or-drop 1 ends i 0 ∙ ap (entry ends) (let e : 1 + i ≡ i + 1 = omega arith in e)

-- one bit more
pub end_next : (ends : ℕ → ℕ) (state end i r : ℕ) → end ≡ end_of i ends state → r ≡ bit state i * ends (i + 1) → bit_xor end r ≡ end_of (i + 1) ends state
unfolding end_of
end_next ends state end i r e p = ap₂ bit_xor e (p ∙ ap (λ (n : ℕ). bit state i * ends n) (add-one i)) ∙ ap (λ (n : ℕ). sum_of ((ones state + 1) % 2 * ends 0) bit_xor n (λ k. bit state k * ends (suc k))) (sym (add-one i))

pub end_starts : (ends : ℕ → ℕ) (state r : ℕ) → r ≡ (ones state + 1) % 2 * ends 0 → r ≡ end_of 0 ends state
unfolding end_of
end_starts ends state r e = e

-- half of 2^j is the j-th listed start
half_power : (j : ℕ) → 2 ^ j / 2 ≡ listed_start j
half_power zero = refl
half_power (suc j) = omega arith

-- a search ends within its numbers
pub found_within : (test : ℕ → Bool) (n : ℕ) {r : ℕ} → r ≡ least test n 0 → r ≤ n
found_within test n e = omega (arith, e, (least_found test n 0).most)

module _ (w : ℕ) (x y : Summary) where
  -- the lower of a place and a listed start
  module _ (place listed : ℕ) (few : w ≤ most_wires) (e : place ≡ least (unlike x.coefficients y.coefficients) (2 ^ w) 0) where
    abbrev start : ℕ
    start = 1 * 2 ^ listed % 2 ^ 64 / 2

    module _ (d : listed ≡ least (unlike x.ends y.ends) (w + 1) 0) where
      found : listed ≡ least (unlike x.ends y.ends) (suc w) 0
      found = d ∙ ap (λ (n : ℕ). least (unlike x.ends y.ends) n 0) (add-one w)

      start_is : start ≡ listed_start listed
      start_is =
          ap (◌/ 2) (ap (◌% 2 ^ 64) (one-mul (2 ^ listed)) ∙ mod-eq_of_lt (pow-lt {i = listed} {j = 64} (omega (arith, found, (unlike_found x.ends y.ends (suc w)).within)))) ∙ half_power listed

      both : min place (listed_start listed) ≡ lowest_place w x y
      both = ap₂ (λ (m n : ℕ). min m (listed_start n)) e found

    pub place_first : place < start → listed ≡ least (unlike x.ends y.ends) (w + 1) 0 → place ≡ lowest_place w x y
    place_first h d = sym (min-eq_left (let z : place ≤ listed_start listed = omega (arith, start_is d) in z)) ∙ both d

    pub start_first : start ≤ place → listed ≡ least (unlike x.ends y.ends) (w + 1) 0 → start ≡ lowest_place w x y
    start_first h d = start_is d ∙ sym (min-eq_right (let z : listed_start listed ≤ place = omega (arith, start_is d) in z)) ∙ both d

  -- what the scan answers
  module _ (p : ℕ) (e : p ≡ lowest_place w x y) where
    pub judged_different : (first second phase : ℕ) → p < 2 ^ w → first ≡ end_of w x.ends p → second ≡ end_of w y.ends p → phase ≡ difference (x.coefficients p) (y.coefficients p)
        → Different p first second phase ≡ judged w x y
    unfolding judged
    judged_different first second phase h a b c = (λ i. Different p (a i) (b i) (c i)) ∙ sym (rw (lt-ltb p (2 ^ w) h)) ∙ ap (judged_at w x y) e

    pub judged_same : 2 ^ w ≤ p → Same ≡ judged w x y
    unfolding judged
    judged_same h = sym (rw (le-ltb p (2 ^ w) h)) ∙ ap (judged_at w x y) e

-- numbers that are a side's summary on w wires
pub record Sums (w : ℕ) (a : Side) (c : ℕ → ℕ) (x : Summary) : Type 0 where
  pub summed : Summed w a c
  pub sets : (s : ℕ) → s < 2 ^ w → x.coefficients s ≡ c s
  pub starts : (i : ℕ) → i < suc w → x.ends i ≡ a.end (listed_start i)

-- they give every end
end_of_lem : (w : ℕ) (a : Side) (c : ℕ → ℕ) (x : Summary) → Sums w a c x → (p : ℕ) → p < 2 ^ w → end_of w x.ends p ≡ a.end p
unfolding end_of
end_of_lem w a c x s p h =
    ap (λ (n : ℕ). sum_of ((ones p + 1) % 2 * n) bit_xor w (λ i. bit p i * x.ends (suc i))) (s.starts 0 (omega arith))
    ∙ sum_of-ext ((ones p + 1) % 2 * a.end 0) bit_xor w (λ i. bit p i * x.ends (suc i)) (λ i. bit p i * a.end (2 ^ i)) (λ i k. ap (bit p i *◌) (s.starts (suc i) (omega arith)))
    ∙ sym (by_bits a.end s.summed.affine w p h)

module _ (w : ℕ) (a b : Side) (c d : ℕ → ℕ) (x y : Summary) (sa : Sums w a c x) (sb : Sums w b d y) where
  p : ℕ
  p = lowest_place w x y

  abbrev place : ℕ
  place = least (unlike x.coefficients y.coefficients) (2 ^ w) 0

  abbrev listed : ℕ
  listed = least (unlike x.ends y.ends) (suc w) 0

  unlike_sets : Lowest (λ s. c s ≡ d s) (2 ^ w) place
  unlike_sets =
      lowest_map (λ s. x.coefficients s ≡ y.coefficients s) (λ s. c s ≡ d s) (2 ^ w) place
      (λ k h e. sym (sa.sets k h) ∙ e ∙ sb.sets k h) (λ k h e. sa.sets k h ∙ e ∙ sym (sb.sets k h)) (unlike_found x.coefficients y.coefficients (2 ^ w))

  unlike_starts : Lowest (λ j. a.end (listed_start j) ≡ b.end (listed_start j)) (suc w) listed
  unlike_starts =
      lowest_map (λ i. x.ends i ≡ y.ends i) (λ j. a.end (listed_start j) ≡ b.end (listed_start j)) (suc w) listed
      (λ k h e. sym (sa.starts k h) ∙ e ∙ sb.starts k h) (λ k h e. sa.starts k h ∙ e ∙ sym (sb.starts k h)) (unlike_found x.ends y.ends (suc w))

  pub judged_verdict : judged w x y ≡ verdict w a b
  unfolding judged p
  judged_verdict = by (dec_lt p (2 ^ w)) ∙ sym (verdict_found a b w p (scan_finds w a b c d sa.summed sb.summed place listed p unlike_sets unlike_starts refl))
    where
      by : Dec (p < 2 ^ w) → judged_at w x y p ≡ verdict_at w a b p
      by (yes h) =
          let first : end_of w x.ends p ≡ a.end p = end_of_lem w a c x sa p h in
          let second : end_of w y.ends p ≡ b.end p = end_of_lem w b d y sb p h in
          let phase : difference (x.coefficients p) (y.coefficients p) ≡ difference (a.phase p) (b.phase p) =
          ap₂ difference (sa.sets p h) (sb.sets p h) ∙ sym (scan_phase w a b c d sa.summed sb.summed place listed p unlike_sets unlike_starts refl h) in
          rw (lt-ltb p (2 ^ w) h) (λ i. Different p (first i) (second i) (phase i))
      by (no h) = rw (le-ltb p (2 ^ w) (omega arith))

  pub judged_differences : differences w x.coefficients y.coefficients ≡ differences w c d
  unfolding differences
  judged_differences = list_ext (2 ^ w) (λ s. difference (x.coefficients s) (y.coefficients s)) (λ s. difference (c s) (d s)) (λ s h. ap₂ difference (sa.sets s h) (sb.sets s h))
