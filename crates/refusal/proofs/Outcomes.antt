-- What a list of checks comes to: how a function shows it, going down the list with each test as a fact of numbers; and what follows from it for callers.
use Prim.Native.Nat.{ℕ}
use native.Mathlib.Omega.{arith}
use mathlib.Core.Path.{◌≡◌, refl, sym, ap, ◌∙◌}
use mathlib.Core.Logic.{◌⊎◌, inl, inr}
use mathlib.Core.Bool.{Bool, true, false, not, cond}
use mathlib.Core.List.{List, [], ◌∷◌, ◌++◌}
use borrow.Author.Tests.{lt-ltb, le-ltb, le-leb, lt-leb, eq-eqb, ne_eqb}
use Rattle.refusal.specs.declared.Refusal.{Refusal}
use Rattle.refusal.specs.Checks.{Test, less, at_least, same, other, holds, Holds, Fails, Check, Outcome, passed, refused, outcome, settle}

pub holds_true : (t : Test) → Holds t → holds t ≡ true
holds_true (less a b) h = lt-ltb a b h
holds_true (at_least a b) h = le-leb b a h
holds_true (same a b) h = eq-eqb a b h
holds_true (other a b) h = ap not (ne_eqb a b h)

pub holds_false : (t : Test) → Fails t → holds t ≡ false
holds_false (less a b) h = le-ltb a b h
holds_false (at_least a b) h = lt-leb b a h
holds_false (same a b) h = ne_eqb a b h
holds_false (other a b) h = ap not (eq-eqb a b h)

-- the list comes to o: its first test holds and gives o, or fails and the rest comes to o
abbrev pub Reaches : List Check → Outcome → Type 0
Reaches [] o = o ≡ passed
Reaches (c ∷ cs) o = (Holds c.when × (o ≡ refused c.gives)) ⊎ (Fails c.when × Reaches cs o)

pub reaches : (cs : List Check) (o : Outcome) → Reaches cs o → outcome cs ≡ o
unfolding outcome
reaches [] o e = rw e
reaches (c ∷ cs) o (inl h) = rw (holds_true c.when h.0, h.1)
reaches (c ∷ cs) o (inr h) = rw (holds_false c.when h.0) (reaches cs o h.1)

-- ---- what an outcome is

pub either : (o : Outcome) → (o ≡ passed) ⊎ ((r : Refusal) × (o ≡ refused r))
either passed = inl refl
either (refused r) = inr (r, refl)

pub not_both : {o : Outcome} {r : Refusal} → o ≡ passed → o ≡ refused r → ⊥
not_both p q = let z : ◌≡◌ {A = ℕ} 0 1 = cc in omega arith

pub one_refusal : {o : Outcome} {r s : Refusal} → o ≡ refused r → o ≡ refused s → r ≡ s
one_refusal p q = cc

-- ---- one check before others

-- two lists that differ only behind a check
pub behind : (c : Check) (xs ys : List Check) → outcome xs ≡ outcome ys → outcome (c ∷ xs) ≡ outcome (c ∷ ys)
unfolding outcome
behind c xs ys e = ap (cond (holds c.when) (refused c.gives)) e

-- a check that passes
pub past : (c : Check) (cs : List Check) → Fails c.when → outcome (c ∷ cs) ≡ outcome cs
unfolding outcome
past c cs h = rw (holds_false c.when h)

-- ---- one list after another

-- the second counts where the first passed
pub outcome_append : (xs ys : List Check) → outcome (xs ++ ys) ≡ settle (outcome xs) refused (outcome ys)
unfolding outcome
outcome_append [] ys = refl
outcome_append (c ∷ cs) ys = first (holds c.when) (outcome_append cs ys)
  where
    first : (b : Bool) → outcome (cs ++ ys) ≡ settle (outcome cs) refused (outcome ys) → cond b (refused c.gives) (outcome (cs ++ ys)) ≡ settle (cond b (refused c.gives) (outcome cs)) refused (outcome ys)
    first true e = refl
    first false e = e

module _ (xs ys : List Check) where
  pub then_refused : (r : Refusal) → outcome xs ≡ refused r → outcome (xs ++ ys) ≡ refused r
  then_refused r e = outcome_append xs ys ∙ ap (λ o. settle o refused (outcome ys)) e

  pub then_passed : outcome xs ≡ passed → outcome (xs ++ ys) ≡ outcome ys
  then_passed e = outcome_append xs ys ∙ ap (λ o. settle o refused (outcome ys)) e

  -- both pass exactly where each does
  pub both_pass : outcome xs ≡ passed → outcome ys ≡ passed → outcome (xs ++ ys) ≡ passed
  both_pass p q = then_passed p ∙ q

  pub parts_pass : outcome (xs ++ ys) ≡ passed → (outcome xs ≡ passed) × (outcome ys ≡ passed)
  parts_pass e = by (either (outcome xs))
    where
      by : (outcome xs ≡ passed) ⊎ ((r : Refusal) × (outcome xs ≡ refused r)) → (outcome xs ≡ passed) × (outcome ys ≡ passed)
      by (inl p) = (p, sym (then_passed p) ∙ e)
      by (inr (r, p)) = absurd (not_both e (then_refused r p))

  -- a refusal is the first's, or the second's where the first passed
  pub part_refuses : (r : Refusal) → outcome (xs ++ ys) ≡ refused r → (outcome xs ≡ refused r) ⊎ ((outcome xs ≡ passed) × (outcome ys ≡ refused r))
  part_refuses r e = by (either (outcome xs))
    where
      by : (outcome xs ≡ passed) ⊎ ((s : Refusal) × (outcome xs ≡ refused s)) → (outcome xs ≡ refused r) ⊎ ((outcome xs ≡ passed) × (outcome ys ≡ refused r))
      by (inl p) = inr (p, sym (then_passed p) ∙ e)
      by (inr (s, p)) = inl (p ∙ sym (then_refused s p) ∙ e)
