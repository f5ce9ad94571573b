-- Which refusal a list of checks gives: that of a row whose test holds, where those before it fail.
use mathlib.Core.Path.{◌≡◌, refl, subst}
use mathlib.Core.Bool.{Bool, true, false, cond}
use mathlib.Core.List.{List, [], ◌∷◌}
use borrow.Author.Tests.{ltb-true, ltb-false, leb-true, leb-false, eqb-true, eqb-false, not-true, not-false}
use lib.Dec.{eqb}
use Rattle.refusal.specs.declared.Refusal.{Refusal}
use Rattle.refusal.specs.Checks.{Test, less, at_least, same, other, holds, Holds, Fails, Check, refused, outcome}
use Rattle.refusal.proofs.Outcomes.{not_both, one_refusal}

true_holds : (t : Test) → holds t ≡ true → Holds t
true_holds (less a b) e = ltb-true a b e
true_holds (at_least a b) e = leb-true b a e
true_holds (same a b) e = eqb-true a b e
true_holds (other a b) e = eqb-false a b (not-true (eqb a b) e)

pub false_fails : (t : Test) → holds t ≡ false → Fails t
false_fails (less a b) e = ltb-false a b e
false_fails (at_least a b) e = leb-false b a e
false_fails (same a b) e = eqb-false a b e
false_fails (other a b) e = eqb-true a b (not-false (eqb a b) e)

-- of every row: P holds of its refusal, where its test holds and those before it fail
abbrev pub EachGives : (Refusal → Type 0) → List Check → Type 0
EachGives P [] = Unit {0}
EachGives P (c ∷ cs) = (Holds c.when → P c.gives) × (Fails c.when → EachGives P cs)

-- then P holds of the one that is given
pub given_where : (P : Refusal → Type 0) (cs : List Check) → EachGives P cs → (r : Refusal) → outcome cs ≡ refused r → P r
unfolding outcome
given_where P [] h r e = absurd (not_both refl e)
given_where P (c ∷ cs) h r e = by (holds c.when) refl e (λ g. given_where P cs g r)
  where
    by : (b : Bool) → holds c.when ≡ b → cond b (refused c.gives) (outcome cs) ≡ refused r → (EachGives P cs → outcome cs ≡ refused r → P r) → P r
    by true p q rest = subst P (one_refusal refl q) (h.0 (true_holds c.when p))
    by false p q rest = rest (h.1 (false_fails c.when p)) q

-- the same of rows of whose refusals P holds anyway
abbrev pub AllGive : (Refusal → Type 0) → List Check → Type 0
AllGive P [] = Unit {0}
AllGive P (c ∷ cs) = P c.gives × AllGive P cs

each_gives : (P : Refusal → Type 0) (cs : List Check) → AllGive P cs → EachGives P cs
each_gives P [] h = tt
each_gives P (c ∷ cs) h = let rest = each_gives P cs h.1 in (λ x. h.0, λ x. rest)

pub given_by : (P : Refusal → Type 0) (cs : List Check) → AllGive P cs → (r : Refusal) → outcome cs ≡ refused r → P r
given_by P cs h = given_where P cs (each_gives P cs h)
