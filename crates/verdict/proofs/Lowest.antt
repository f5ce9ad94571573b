-- What a verdict says of every start: the search finds the lowest one at which the sides part.
use Rattle.std.proofs.Common.{◌≡◌, ℕ, ◌^◌, ◌<◌, ◌≤◌, true, false, sym, ap, ◌∙◌, subst, arith, le-ltb, lt-ltb, eq-eqb, ne_eqb}
use native.Mathlib.Decide.{ℕ_discrete, dec_lt}
use Rattle.numbers.specs.Search.{least}
use Rattle.numbers.proofs.Search.{Lowest, lowest_one, lowest_found}
use Rattle.verdict.specs.declared.Verdict.TheVariants.{Same, Different}
use Rattle.numbers.specs.Turn.{difference}
use Rattle.verdict.specs.Verdicts.{Side, part, verdict_at, verdict, Agree, Named}

module _ (a b : Side) where
  agree : (x : ℕ) → part a b x ≡ false → Agree a b x
  agree x t = by (ℕ_discrete (a.end x) (b.end x)) (ℕ_discrete (a.phase x) (b.phase x))
    where
      by : Dec (a.end x ≡ b.end x) → Dec (a.phase x ≡ b.phase x) → Agree a b x
      by (yes e) (yes f) = record { ends = e; phases = f }
      by (yes e) (no f) = let z : true ≡ false = rw (eq-eqb (a.end x) (b.end x) e, ne_eqb (a.phase x) (b.phase x) f) at t in let y : ◌≡◌ {A = ℕ} 0 1 = cc in absurd (omega arith)
      by (no e) d = let z : true ≡ false = rw (ne_eqb (a.end x) (b.end x) e) at t in let y : ◌≡◌ {A = ℕ} 0 1 = cc in absurd (omega arith)

  differ : (x : ℕ) → part a b x ≡ true → Agree a b x → ⊥
  differ x t h =
      let z : false ≡ true = rw (eq-eqb (a.end x) (b.end x) h.ends, eq-eqb (a.phase x) (b.phase x) h.phases) at t in
      let y : ◌≡◌ {A = ℕ} 0 1 = cc in
      omega arith

  -- the search finds the lowest start at which the sides part
  pub lowest_part : (n : ℕ) → Lowest (Agree a b) n (least (part a b) n 0)
  lowest_part = lowest_found (part a b) (Agree a b) agree differ

  module _ (w : ℕ) where
    start : ℕ
    start = least (part a b) (2 ^ w) 0

    found : Lowest (Agree a b) (2 ^ w) start
    unfolding start
    found = lowest_part (2 ^ w)

    -- the verdict is that at the lowest start where the sides part, however it is found
    pub verdict_found : (p : ℕ) → Lowest (Agree a b) (2 ^ w) p → verdict w a b ≡ verdict_at w a b p
    unfolding verdict start
    verdict_found p l = ap (verdict_at w a b) (lowest_one (Agree a b) (2 ^ w) start p found l)

    at_different : (p : ℕ) → p < 2 ^ w → verdict_at w a b p ≡ Different p (a.end p) (b.end p) (difference (a.phase p) (b.phase p))
    at_different p h = rw (lt-ltb p (2 ^ w) h)

    at_same : (p : ℕ) → 2 ^ w ≤ p → verdict_at w a b p ≡ Same
    at_same p h = rw (le-ltb p (2 ^ w) h)

    -- Same exactly where every start agrees
    pub same_agree : verdict w a b ≡ Same → (x : ℕ) → x < 2 ^ w → Agree a b x
    unfolding verdict start
    same_agree e x h = by (dec_lt start (2 ^ w))
      where
        by : Dec (start < 2 ^ w) → Agree a b x
        by (yes l) = let z : Different start (a.end start) (b.end start) (difference (a.phase start) (b.phase start)) ≡ Same = sym (at_different start l) ∙ e in let y : ◌≡◌ {A = ℕ} 0 1 = cc in absurd (omega arith)
        by (no l) = found.before x (omega arith)

    pub agree_same : ((x : ℕ) → x < 2 ^ w → Agree a b x) → verdict w a b ≡ Same
    agree_same h =
        verdict_found (2 ^ w) (record { within = omega arith; before = h; there = λ l. absurd (omega arith) }) ∙ at_same (2 ^ w) (omega arith)

    -- Different names the lowest start that parts, and how
    pub different_named : (s e f p : ℕ) → verdict w a b ≡ Different s e f p → Named a b w s e f p
    unfolding verdict start
    different_named s e f p v = by (dec_lt start (2 ^ w))
      where
        by : Dec (start < 2 ^ w) → Named a b w s e f p
        by (yes l) =
            let z : Different start (a.end start) (b.end start) (difference (a.phase start) (b.phase start)) ≡ Different s e f p = sym (at_different start l) ∙ v in
            let q : start ≡ s = cc in
            record {
              below = omega arith;
              parts = subst (λ (x : ℕ). Agree a b x → ⊥) q (found.there l);
              before = λ x h. found.before x (omega arith);
              first_end = cc;
              second_end = cc;
              how = cc;
            }
        by (no l) = let z : Same ≡ Different s e f p = sym (at_same start (omega arith)) ∙ v in let y : ◌≡◌ {A = ℕ} 0 1 = cc in absurd (omega arith)
