-- The lowest place where coefficients or listed ends differ is the lowest start at which the sides part.
use Rattle.std.proofs.Common.{◌≡◌, ℕ, zero, suc, ◌+◌, ◌-◌, ◌*◌, ◌%◌, ◌^◌, ◌<◌, ◌≤◌, min, sym, ap, ◌∙◌, subst, ap₂, add-zero, add_comm, one-mul, zero-mul, arith, pow_pos, pow_mono}
use native.Mathlib.Nat.{min-le_left, min-le_right, min-eq_left, min-eq_right}
use native.Mathlib.Decide.{ℕ_discrete, dec_lt}
use lib.Bits.{bit_xor}
use lib.Count.{ones}
use lib.Pow.{pow-lt}
use Rattle.numbers.specs.Bits.{bit, subset}
use Rattle.numbers.specs.Sums.{sum, sum_of}
use Rattle.numbers.specs.Working.{◌≈◌}
use Rattle.numbers.specs.Turn.{difference}
use Rattle.numbers.proofs.Sums.{ℕ-adds, sum_of-ext, sum_of-split}
use Rattle.numbers.proofs.Subsets.{subset_self, subset_above, sum_zero}
use Rattle.numbers.proofs.Turns.{≈-of, ≈_sym, ≈-add, ≈_refl, ≈-cancel, ≈-small, ◌≈∙◌}
use Rattle.numbers.proofs.Digits.{by_bits}
use Rattle.numbers.proofs.Search.{Lowest}
use Rattle.coefficients.specs.Coefficients.{listed_start}
use Rattle.verdict.specs.Verdicts.{Side, Agree}

-- a side whose phase is the polynomial of its coefficients, and whose ends respect exclusive or but for start 0's
pub record Summed (w : ℕ) (a : Side) (c : ℕ → ℕ) : Type 0 where
  pub polynomial : (x : ℕ) → x < 2 ^ w → a.phase x ≈ sum (2 ^ w) (λ s. subset s x * c s)
  pub phases : (x : ℕ) → a.phase x < 65536
  pub small : (s : ℕ) → c s < 65536
  pub affine : (x y : ℕ) → a.end (bit_xor x y) ≡ bit_xor (bit_xor (a.end x) (a.end y)) (a.end 0)

-- no set above x lies within x
up_to : (w x : ℕ) (c : ℕ → ℕ) → x < 2 ^ w → sum (2 ^ w) (λ s. subset s x * c s) ≡ sum x (λ s. subset s x * c s) + c x
up_to w x c h =
    let r = 2 ^ w - suc x in
    ap (λ (n : ℕ). sum n (λ s. subset s x * c s)) (let e : 2 ^ w ≡ suc x + r = omega arith in e)
    ∙ sum_of-split 0 ◌+◌ ℕ-adds (suc x) r (λ s. subset s x * c s)
    ∙ ap₂ ◌+◌ (ap (sum x (λ s. subset s x * c s) +◌) (ap (◌* c x) (subset_self x) ∙ one-mul (c x)))
    (sum_zero r (λ i. subset (suc x + i) x * c (suc x + i)) (λ i l. ap (◌* c (suc x + i)) (subset_above (suc x + i) x (omega arith)) ∙ zero-mul (c (suc x + i))))
    ∙ add-zero (sum x (λ s. subset s x * c s) + c x)

module _ (w : ℕ) (a b : Side) (c d : ℕ → ℕ) (sa : Summed w a c) (sb : Summed w b d) where
  module _ (x : ℕ) (h : x < 2 ^ w) (below : (s : ℕ) → s < x → c s ≡ d s) where
    -- where everything below x agrees, the phases differ at x as the coefficients do
    pub triangular : a.phase x + d x ≈ b.phase x + c x
    triangular =
        let p = sum x (λ s. subset s x * c s) in
        let q = sum x (λ s. subset s x * d s) in
        let e : p ≡ q = sum_of-ext 0 ◌+◌ x (λ s. subset s x * c s) (λ s. subset s x * d s) (λ s l. ap (subset s x *◌) (below s l)) in
        ≈-add (sa.polynomial x h ≈∙ ≈-of (up_to w x c h)) (≈_refl {a = d x})
        ≈∙ ≈-of (let z : p + c x + d x ≡ q + d x + c x = omega arith in z)
        ≈∙ ≈-add (≈_sym (sb.polynomial x h ≈∙ ≈-of (up_to w x d h))) (≈_refl {a = c x})

    pub phase_difference : difference (a.phase x) (b.phase x) ≡ difference (c x) (d x)
    phase_difference = (off (a.phase x) (b.phase x) (c x) (d x) (sb.phases x) (sb.small x) triangular).alike
      where
        off : (p q m n : ℕ) → q < 65536 → n < 65536 → p + n ≈ q + m → p + 65536 - q ≈ m + 65536 - n
        off p q m n hq hn e =
            ≈-cancel (q + n)
            (≈-of (let z : p + 65536 - q + (q + n) ≡ p + n + 65536 = omega arith in z) ≈∙ ≈-add e (≈_refl {a = 65536}) ≈∙ ≈-of (let z : q + m + 65536 ≡ m + 65536 - n + (q + n) = omega arith in z))

    pub coefficients_agree : a.phase x ≡ b.phase x → c x ≡ d x
    coefficients_agree e =
        ≈-small (sa.small x) (sb.small x)
        (≈-cancel (a.phase x) (≈-of (add_comm (c x) (a.phase x) ∙ ap (◌+ c x) e) ≈∙ ≈_sym triangular ≈∙ ≈-of (add_comm (a.phase x) (d x))))

    phases_agree : c x ≡ d x → a.phase x ≡ b.phase x
    phases_agree e = ≈-small (sa.phases x) (sb.phases x) (≈-cancel (d x) (triangular ≈∙ ≈-of (ap (b.phase x +◌) e)))

  -- start 0 and single wires fix the ends
  ends_agree : (i x : ℕ) → x < 2 ^ i → ((j : ℕ) → j < suc i → a.end (listed_start j) ≡ b.end (listed_start j)) → a.end x ≡ b.end x
  ends_agree i x h e =
      by_bits a.end sa.affine i x h
      ∙ ap (λ (n : ℕ). sum_of ((ones x + 1) % 2 * n) bit_xor i (λ j. bit x j * a.end (2 ^ j))) (e 0 (omega arith))
      ∙ sum_of-ext ((ones x + 1) % 2 * b.end 0) bit_xor i (λ j. bit x j * a.end (2 ^ j)) (λ j. bit x j * b.end (2 ^ j)) (λ j l. ap (bit x j *◌) (e (suc j) (omega arith)))
      ∙ sym (by_bits b.end sb.affine i x h)

  -- same everywhere exactly where all coefficients and all listed ends agree
  pub agree_everywhere : ((s : ℕ) → s < 2 ^ w → c s ≡ d s) → ((j : ℕ) → j < suc w → a.end (listed_start j) ≡ b.end (listed_start j)) → (x : ℕ) → x < 2 ^ w → Agree a b x
  agree_everywhere p q x h = record { ends = ends_agree w x h q; phases = phases_agree x h (λ s l. p s (omega arith)) (p x h) }

  pub everywhere_coefficients : ((x : ℕ) → x < 2 ^ w → Agree a b x) → (s : ℕ) → s < 2 ^ w → c s ≡ d s
  everywhere_coefficients e s h = upto (suc s) (omega arith) s (omega arith)
    where
      upto : (n : ℕ) → n ≤ 2 ^ w → (s : ℕ) → s < n → c s ≡ d s
      upto zero l s k = absurd (omega arith)
      upto (suc n) l s k = by (upto n (omega arith)) (ℕ_discrete s n)
        where
          by : ((s : ℕ) → s < n → c s ≡ d s) → Dec (s ≡ n) → c s ≡ d s
          by before (yes q) = subst (λ (m : ℕ). c m ≡ d m) (sym q) (coefficients_agree n (omega arith) before (e n (omega arith)).phases)
          by before (no q) = before s (omega (arith, q))

  pub everywhere_ends : ((x : ℕ) → x < 2 ^ w → Agree a b x) → (j : ℕ) → j < suc w → a.end (listed_start j) ≡ b.end (listed_start j)
  everywhere_ends e j h = (e (listed_start j) (start_below j h)).ends
    where
      start_below : (j : ℕ) → j < suc w → listed_start j < 2 ^ w
      start_below zero k = pow_pos w
      start_below (suc j) k = pow-lt (let z : j < w = omega arith in z)

  -- the scan: the lower of the first place of unlike coefficients and of the first start of unlike ends
  module _ (place listed p : ℕ) (sets : Lowest (λ s. c s ≡ d s) (2 ^ w) place) (starts : Lowest (λ j. a.end (listed_start j) ≡ b.end (listed_start j)) (suc w) listed) (e : p ≡ min place (listed_start listed)) where
    low : p ≤ place
    low = subst (λ (m : ℕ). m ≤ place) (sym e) (min-le_left place (listed_start listed))

    high : p ≤ listed_start listed
    high = subst (λ (m : ℕ). m ≤ listed_start listed) (sym e) (min-le_right place (listed_start listed))

    agree_below : (s : ℕ) → s < p → c s ≡ d s
    agree_below s h = sets.before s (omega (arith, low))

    -- below a listed start the ends before it fix all
    ends_below : (j x : ℕ) → x < listed_start j → ((k : ℕ) → k < j → a.end (listed_start k) ≡ b.end (listed_start k)) → a.end x ≡ b.end x
    ends_below zero x h k = absurd (omega arith)
    ends_below (suc j) x h k = ends_agree j x h k

    pub scan_finds : Lowest (Agree a b) (2 ^ w) p
    scan_finds =
        record {
          within = omega (arith, sets.within, low);
          before = λ x h.
              let k : x < 2 ^ w = omega (arith, sets.within, low) in
              record { ends = ends_below listed x (omega (arith, high)) starts.before; phases = phases_agree x k (λ s m. agree_below s (omega arith)) (agree_below x h) };
          there = λ h g. parts h g (dec_lt (listed_start listed) place);
        }
      where
        inside : (j : ℕ) → j ≤ suc w → listed_start j < 2 ^ w → j < suc w
        inside zero l k = omega arith
        inside (suc j) l k = by (dec_lt j w)
          where
            by : Dec (j < w) → suc j < suc w
            by (yes m) = omega arith
            by (no m) = absurd (omega (arith, pow_mono {i = w} {j = j} (omega arith)))

        parts : p < 2 ^ w → Agree a b p → Dec (listed_start listed < place) → ⊥
        parts h g (no l) =
            let q : p ≡ place = e ∙ min-eq_left (let z : place ≤ listed_start listed = omega arith in z) in
            sets.there (omega arith) (subst (λ (m : ℕ). c m ≡ d m) q (coefficients_agree p h agree_below g.phases))
        parts h g (yes l) =
            let q : p ≡ listed_start listed = e ∙ min-eq_right (let z : listed_start listed ≤ place = omega arith in z) in
            starts.there (inside listed starts.within (omega arith)) (subst (λ (m : ℕ). a.end m ≡ b.end m) q g.ends)

    pub scan_phase : p < 2 ^ w → difference (a.phase p) (b.phase p) ≡ difference (c p) (d p)
    scan_phase h = phase_difference p h agree_below
