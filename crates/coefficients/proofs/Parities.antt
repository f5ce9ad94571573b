-- Parity as a signed sum over subsets: m.x is the sum over the nonempty S within m and x of (-2)^(|S|-1).
use Rattle.std.proofs.Common.{◌≡◌, ℕ, zero, suc, ◌+◌, ◌*◌, ◌/◌, ◌%◌, ◌^◌, ◌<◌, sym, refl, ap, ◌∙◌, ap₂, zero-add, one-add, arith}
use native.Mathlib.Nat.{pow-succ'}
use lib.Count.{ones, ones_in, ones_step}
use Rattle.numbers.specs.Bits.{dot, subset}
use Rattle.numbers.specs.Sums.{sum}
use Rattle.numbers.specs.Working.{◌≈◌}
use Rattle.numbers.proofs.Sums.{ℕ-adds, sum_of-ext, sum_of-plus}
use Rattle.numbers.proofs.Subsets.{subset_even, subset_odd, subset_none, sum_scale, sum_bits}
use Rattle.numbers.proofs.Parity.{dot_below, dot_none, dot_step}
use Rattle.numbers.proofs.Turns.{≈-of, ≈-add, ≈_refl, ≈-mul, ◌≈∙◌}
use Rattle.coefficients.specs.Working.{weight_of}

ones_even : (t : ℕ) → ones (t * 2) ≡ ones t
ones_even t = ones_step (t * 2) ∙ ap₂ (λ (a b : ℕ). a + ones b) (let e : t * 2 % 2 ≡ 0 = omega arith in e) (let e : t * 2 / 2 ≡ t = omega arith in e) ∙ zero-add (ones t)

ones_odd : (t : ℕ) → ones (t * 2 + 1) ≡ suc (ones t)
ones_odd t =
    ones_step (t * 2 + 1) ∙ ap₂ (λ (a b : ℕ). a + ones b) (let e : (t * 2 + 1) % 2 ≡ 1 = omega arith in e) (let e : (t * 2 + 1) / 2 ≡ t = omega arith in e)
    ∙ one-add (ones t)

-- weighed by (-2)^(|S|-1), and by (-2)^|S|
abbrev odds : ℕ → ℕ → ℕ → ℕ
odds w m x = sum (2 ^ w) (λ s. subset s x * (weight_of (ones s) * subset s m))

abbrev signs : ℕ → ℕ → ℕ → ℕ
signs w m x = sum (2 ^ w) (λ s. subset s x * (65534 ^ ones s * subset s m))

module _ (w m x : ℕ) where
  abbrev both : ℕ
  both = m % 2 * (x % 2)

  odds_step : odds (suc w) m x ≡ odds w (m / 2) (x / 2) + both * signs w (m / 2) (x / 2)
  odds_step =
      sum_bits w (λ s. subset s x * (weight_of (ones s) * subset s m))
      ∙ sum_of-ext 0 ◌+◌ (2 ^ w) (λ t. subset (t * 2) x * (weight_of (ones (t * 2)) * subset (t * 2) m) + subset (t * 2 + 1) x * (weight_of (ones (t * 2 + 1)) * subset (t * 2 + 1) m))
      (λ t. subset t (x / 2) * (weight_of (ones t) * subset t (m / 2)) + m % 2 * (x % 2) * (subset t (x / 2) * (65534 ^ ones t * subset t (m / 2))))
      (λ t h. rw (subset_even t x, subset_even t m, subset_odd t x, subset_odd t m, ones_even t, ones_odd t) (omega arith))
      ∙ sum_of-plus 0 ◌+◌ ℕ-adds (2 ^ w) (λ t. subset t (x / 2) * (weight_of (ones t) * subset t (m / 2))) (λ t. m % 2 * (x % 2) * (subset t (x / 2) * (65534 ^ ones t * subset t (m / 2))))
      ∙ ap (odds w (m / 2) (x / 2) +◌) (sym (sum_scale (m % 2 * (x % 2)) (2 ^ w) (λ t. subset t (x / 2) * (65534 ^ ones t * subset t (m / 2)))))

  signs_step : signs (suc w) m x ≡ signs w (m / 2) (x / 2) + both * 65534 * signs w (m / 2) (x / 2)
  signs_step =
      sum_bits w (λ s. subset s x * (65534 ^ ones s * subset s m))
      ∙ sum_of-ext 0 ◌+◌ (2 ^ w) (λ t. subset (t * 2) x * (65534 ^ ones (t * 2) * subset (t * 2) m) + subset (t * 2 + 1) x * (65534 ^ ones (t * 2 + 1) * subset (t * 2 + 1) m))
      (λ t. subset t (x / 2) * (65534 ^ ones t * subset t (m / 2)) + m % 2 * (x % 2) * 65534 * (subset t (x / 2) * (65534 ^ ones t * subset t (m / 2))))
      (λ t h. rw (subset_even t x, subset_even t m, subset_odd t x, subset_odd t m, ones_even t, ones_odd t, pow-succ' 65534 (ones t)) (omega arith))
      ∙ sum_of-plus 0 ◌+◌ ℕ-adds (2 ^ w) (λ t. subset t (x / 2) * (65534 ^ ones t * subset t (m / 2))) (λ t. m % 2 * (x % 2) * 65534 * (subset t (x / 2) * (65534 ^ ones t * subset t (m / 2))))
      ∙ ap (signs w (m / 2) (x / 2) +◌) (sym (sum_scale (m % 2 * (x % 2) * 65534) (2 ^ w) (λ t. subset t (x / 2) * (65534 ^ ones t * subset t (m / 2)))))

-- the empty set apart, the one is -2 times the other
signs_odds : (w m x : ℕ) → signs w m x ≡ 1 + 65534 * odds w m x
unfolding ones ones_in
signs_odds zero m x = rw (subset_none x, subset_none m)
signs_odds (suc w) m x =
    let p = odds w (m / 2) (x / 2) in
    let q = signs w (m / 2) (x / 2) in
    let e : q ≡ 1 + 65534 * p = signs_odds w (m / 2) (x / 2) in
    signs_step w m x ∙ let b = both w m x in split b p q e ∙ sym (ap (λ (n : ℕ). 1 + 65534 * n) (odds_step w m x))
  where
    split : (b p q : ℕ) → q ≡ 1 + 65534 * p → q + b * 65534 * q ≡ 1 + 65534 * (p + b * q)
    split b p q e = let d : b * 65534 * q ≡ 65534 * (b * q) = omega arith in omega arith

-- m.x for sets m and x of w wires
pub parity : (w m x : ℕ) → m < 2 ^ w → x < 2 ^ w → sum (2 ^ w) (λ s. subset s x * (weight_of (ones s) * subset s m)) ≈ dot m x
unfolding ones ones_in
parity zero m x hm hx = ≈-of (rw (subset_none x, subset_none m) (sym (ap (λ (n : ℕ). dot n x) (let e : m ≡ 0 = omega arith in e) ∙ dot_none x)))
parity (suc w) m x hm hx =
    let p = odds w (m / 2) (x / 2) in
    let ih : p ≈ dot (m / 2) (x / 2) = parity w (m / 2) (x / 2) (omega arith) (omega arith) in
    ≈-of (odds_step w m x ∙ ap (λ (q : ℕ). p + both w m x * q) (signs_odds w (m / 2) (x / 2)))
    ≈∙ ≈-add ih (≈-mul (≈_refl {a = both w m x}) (≈-add (≈_refl {a = 1}) (≈-mul (≈_refl {a = 65534}) ih)))
    ≈∙ last (m % 2) (x % 2) (dot (m / 2) (x / 2)) (omega arith) (omega arith) (dot_below (m / 2) (x / 2))
    ≈∙ ≈-of (sym (dot_step m x))
  where
    last : (a b d : ℕ) → a < 2 → b < 2 → d < 2 → d + a * b * (1 + 65534 * d) ≈ (a * b + d) % 2
    last zero b d ha hb hd = ≈-of (omega arith)
    last (suc zero) zero d ha hb hd = ≈-of (omega arith)
    last (suc zero) (suc zero) zero ha hb hd = ≈-of refl
    last (suc zero) (suc zero) (suc zero) ha hb hd = record { alike = refl }
    last (suc zero) (suc zero) (suc (suc d)) ha hb hd = absurd (omega arith)
    last (suc zero) (suc (suc b)) d ha hb hd = absurd (omega arith)
    last (suc (suc a)) b d ha hb hd = absurd (omega arith)
