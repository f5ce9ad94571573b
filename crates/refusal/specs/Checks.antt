-- 01, "Numbered refusals, in order of checking": a list of checks, and the first of them that holds.
use Rattle.std.specs.Prelude.{ℕ, ◌<◌, ◌≤◌, ◌≡◌, Bool, not, cond, List, [], ◌∷◌, ltb, leb, eqb}
use Rattle.std.specs.Coded.{×_prop, Unit-prop, le_prop}
use Rattle.std.proofs.Props.{props}
use Rattle.refusal.specs.declared.Refusal.{Refusal}
use Rattle.refusal.specs.Names.{refusal, ROOM}

-- a row's condition: one number is less than, at least, the same as, or other than another
pub data Test : Type 0 where
  less : ℕ → ℕ → Test
  at_least : ℕ → ℕ → Test
  same : ℕ → ℕ → Test
  other : ℕ → ℕ → Test

abbrev pub holds : Test → Bool
holds (less a b) = ltb a b
holds (at_least a b) = leb b a
holds (same a b) = eqb a b
holds (other a b) = not (eqb a b)

-- a condition as a fact about its numbers: that it holds, and that it fails
abbrev pub Holds : Test → Type 0
Holds (less a b) = a < b
Holds (at_least a b) = b ≤ a
Holds (same a b) = a ≡ b
Holds (other a b) = a ≡ b → ⊥

abbrev pub Fails : Test → Type 0
Fails (less a b) = b ≤ a
Fails (at_least a b) = a < b
Fails (same a b) = a ≡ b → ⊥
Fails (other a b) = a ≡ b

-- a row of the table: the refusal that is given when the test holds
pub record Check : Type 0 where
  pub when : Test
  pub gives : Refusal

abbrev pub check : Test → Refusal → Check
check t r = record { when = t; gives = r }

-- what a call's checks come to
pub data Outcome : Type 0 where
  passed : Outcome
  refused : Refusal → Outcome

-- "in order of checking": the first row whose test holds, else passed
unfoldable pub outcome : List Check → Outcome
outcome [] = passed
outcome (c ∷ cs) = cond (holds c.when) (refused c.gives) (outcome cs)

-- no row's test holds
abbrev pub AllFail : List Check → Type 0
AllFail [] = Unit {0}
AllFail (c ∷ cs) = Fails c.when × AllFail cs

-- that it holds is one fact, which a value can carry
pub Fails-prop : (t : Test) → IsProp (Fails t)
Fails-prop (less a b) = le_prop
Fails-prop (at_least a b) = le_prop
Fails-prop (same a b) = Prim.hlevel props
Fails-prop (other a b) = Prim.hlevel props

pub AllFail-prop : (cs : List Check) → IsProp (AllFail cs)
AllFail-prop [] = Unit-prop
AllFail-prop (c ∷ cs) = ×_prop (Fails-prop c.when) (AllFail-prop cs)

-- what follows from an outcome: one thing on a refusal, another where all passed
abbrev pub settle {ℓ} : {A : Type ℓ} → Outcome → (Refusal → A) → A → A
settle passed onRefusal onPass = onPass
settle (refused r) onRefusal onPass = onRefusal r

-- "13 ROOM": a lent slice is shorter than what is needed
abbrev pub room_check : ℕ → ℕ → List Check
room_check room need = check (less room need) (refusal ROOM) ∷ []
