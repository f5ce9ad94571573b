-- What `least` finds: the test holds there, and at no number before. So it is the lowest number at which a property fails, and there is one.
use Rattle.std.proofs.Common.{◌≡◌, ℕ, zero, suc, ◌+◌, ◌<◌, ◌≤◌, Bool, true, false, cond, eqb, refl, ap, ◌∙◌, arith, eq-eqb, eqb-true}
use native.Mathlib.Decide.{ℕ_discrete, dec_lt}
use borrow.Author.Tests.{not-false}
use Rattle.numbers.specs.Search.{least}
use Rattle.numbers.specs.Working.{unlike}

pub record Least (test : ℕ → Bool) (n s p : ℕ) : Type 0 where
  pub from : s ≤ p
  pub most : p ≤ s + n
  pub before : (k : ℕ) → s ≤ k → k < p → test k ≡ false
  pub there : p < s + n → test p ≡ true

module _ (test : ℕ → Bool) where
  pub least_found : (n s : ℕ) → Least test n s (least test n s)
  unfolding least
  least_found zero s = record { from = omega arith; most = omega arith; before = λ k a b. absurd (omega arith); there = λ h. absurd (omega arith) }
  least_found (suc n) s = by (test s) refl (least_found n (suc s))
    where
      by : (b : Bool) → test s ≡ b → Least test n (suc s) (least test n (suc s)) → Least test (suc n) s (cond b s (least test n (suc s)))
      by true e r = record { from = omega arith; most = omega arith; before = λ k a b. absurd (omega arith); there = λ h. e }
      by false e r = record { from = omega (arith, r.from); most = omega (arith, r.most); before = λ k a b. at k a b (ℕ_discrete k s); there = λ h. r.there (omega arith) }
        where
          at : (k : ℕ) → s ≤ k → k < least test n (suc s) → Dec (k ≡ s) → test k ≡ false
          at k a b (yes d) = ap test d ∙ e
          at k a b (no d) = r.before k (omega (arith, d)) b

-- p is the lowest below n at which A fails, or n where it holds at all of them
pub record Lowest (A : ℕ → Type 0) (n p : ℕ) : Type 0 where
  pub within : p ≤ n
  pub before : (k : ℕ) → k < p → A k
  pub there : p < n → A p → ⊥

-- there is no second
pub lowest_one : (A : ℕ → Type 0) (n p q : ℕ) → Lowest A n p → Lowest A n q → p ≡ q
lowest_one A n p q x y = by (dec_lt p q) (dec_lt q p)
  where
    by : Dec (p < q) → Dec (q < p) → p ≡ q
    by (yes h) d = absurd (x.there (omega (arith, y.within)) (y.before p h))
    by (no h) (yes k) = absurd (y.there (omega (arith, x.within)) (x.before q k))
    by (no h) (no k) = omega arith

-- the same for a property that holds of the same numbers below n
pub lowest_map : (A B : ℕ → Type 0) (n p : ℕ) → ((k : ℕ) → k < n → A k → B k) → ((k : ℕ) → k < n → B k → A k) → Lowest A n p → Lowest B n p
lowest_map A B n p f g l =
    record { within = l.within; before = λ k h. f k (omega (arith, l.within)) (l.before k h); there = λ h b. l.there h (g p h b) }

-- the definition finds it
pub lowest_found : (test : ℕ → Bool) (A : ℕ → Type 0) → ((k : ℕ) → test k ≡ false → A k) → ((k : ℕ) → test k ≡ true → A k → ⊥) → (n : ℕ) → Lowest A n (least test n 0)
lowest_found test A holds fails n =
    let r = least_found test n 0 in
    record { within = omega (arith, r.most); before = λ k h. holds k (r.before k (omega arith) h); there = λ h. fails (least test n 0) (r.there (omega arith)) }

-- of two rows of numbers, the first place where they differ
module _ (f g : ℕ → ℕ) (n : ℕ) where
  abbrev Alike : ℕ → Type 0
  Alike k = f k ≡ g k

  pub unlike_found : Lowest Alike n (least (unlike f g) n 0)
  unlike_found = lowest_found (unlike f g) Alike (λ k e. eqb-true (f k) (g k) (not-false (eqb (f k) (g k)) e)) apart n
    where
      apart : (k : ℕ) → unlike f g k ≡ true → Alike k → ⊥
      apart k t e = let z : false ≡ true = rw (eq-eqb (f k) (g k) e) at t in let y : ◌≡◌ {A = ℕ} 0 1 = cc in omega arith

  pub unlike_least : (p : ℕ) → Lowest Alike n p → p ≡ least (unlike f g) n 0
  unlike_least p l = lowest_one Alike n p (least (unlike f g) n 0) l unlike_found
