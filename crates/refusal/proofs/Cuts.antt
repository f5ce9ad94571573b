-- An input of which only a part is read: what is answered for the part is the answer for the whole.
use Prim.Native.Nat.{ℕ}
use mathlib.Core.Path.{◌≡◌, refl, sym, ap, subst, ◌∙◌}
use mathlib.Core.List.{List, ◌++◌}
use Rattle.refusal.specs.declared.Refusal.{Refusal}
use Rattle.refusal.specs.Checks.{Check, Outcome, passed, refused, outcome, settle}
use Rattle.refusal.specs.Contract.{Said, Says, Meets}
use Rattle.refusal.proofs.Outcomes.{outcome_append}

-- an input whose cut is refused as it is, and is all of it where it passes
module _ (checks : List ℕ → List Check) (part whole : List ℕ) (same : outcome (checks part) ≡ outcome (checks whole)) (all : outcome (checks whole) ≡ passed → part ≡ whole) where
  -- what depends on the input only where its checks pass
  pub carried : (P : Outcome → List ℕ → Type 0) → ((r : Refusal) → P (refused r) part → P (refused r) whole) → P (outcome (checks part)) part → P (outcome (checks whole)) whole
  carried P refusing p = by (outcome (checks whole)) refl
    where
      by : (o : Outcome) → outcome (checks whole) ≡ o → P (outcome (checks whole)) whole
      by (refused r) e = subst (λ o. P o whole) (sym e) (refusing r (subst (λ o. P o part) (same ∙ e) p))
      by passed e = subst (P (outcome (checks whole))) (all e) (subst (λ o. P o part) same p)

  -- the checks of a call: some before the input's own, and some after
  module _ (before : List Check) (after : List ℕ → List Check) where
    abbrev called : List ℕ → Outcome
    called g = outcome (before ++ (checks g ++ after g))

    abbrev settled : Outcome → List ℕ → Outcome
    settled o g = settle (outcome before) refused (settle o refused (outcome (after g)))

    in_turn : (g : List ℕ) → called g ≡ settled (outcome (checks g)) g
    in_turn g = outcome_append before (checks g ++ after g) ∙ ap (λ o. settle (outcome before) refused o) (outcome_append (checks g) (after g))

    module _ {Answer : Type 0} (said : Answer → Said) (vs : List ℕ → List ℕ) (a : Answer) where
      pub says_whole : Says said (called part) (vs part) a → Says said (called whole) (vs whole) a
      says_whole p =
          subst (λ o. Says said o (vs whole) a) (sym (in_turn whole))
          (carried (λ o g. Says said (settled o g) (vs g) a) (λ r. unread (outcome before) r) (subst (λ o. Says said o (vs part) a) (in_turn part) p))
        where
          unread : (q : Outcome) (r : Refusal) → Says said (settle q refused (refused r)) (vs part) a → Says said (settle q refused (refused r)) (vs whole) a
          unread passed r x = x
          unread (refused s) r x = x

      pub meets_whole : {Entry : Type 0} (result : List ℕ → List Entry) (lent left : List Entry)
          → Meets said (called part) (vs part) (result part) lent a left → Meets said (called whole) (vs whole) (result whole) lent a left
      meets_whole {Entry} result lent left p =
          subst (λ o. Meets said o (vs whole) (result whole) lent a left) (sym (in_turn whole))
          (carried (λ o g. Meets said (settled o g) (vs g) (result g) lent a left) (λ r. unread (outcome before) r) (subst (λ o. Meets said o (vs part) (result part) lent a left) (in_turn part) p))
        where
          unread : (q : Outcome) (r : Refusal) → Meets said (settle q refused (refused r)) (vs part) (result part) lent a left → Meets said (settle q refused (refused r)) (vs whole) (result whole) lent a left
          unread passed r m = record { says = m.says; leaves = m.leaves }
          unread (refused s) r m = record { says = m.says; leaves = m.leaves }
