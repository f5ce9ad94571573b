-- The tender's first demand, and 01's "How far every promise reaches", as statements about any contract; its third, of an answer about two sides.
use Rattle.std.specs.Prelude.{ℕ, zero, suc, ◌^◌, ◌<◌, ◌≡◌, ◌⊎◌, List, Result, Ok}
use Rattle.refusal.specs.declared.Refusal.{Refusal}
use Rattle.refusal.specs.Checks.{Check, refused, outcome, AllFail}
use Rattle.refusal.specs.Contract.{Said, values, said_of}
use Rattle.fold.specs.Fold.{folded_file}
use Rattle.verdict.specs.declared.Verdict.TheVariants.{Same, Different}
use Rattle.verdict.specs.declared.Verdict.{Verdict}
use Rattle.verdict.specs.Verdicts.{Side, Agree, Named}

abbrev pub Answers : {Answer : Type 0} → (Answer → Said) → Answer → Type 0
Answers said answer = (vs : List ℕ) × (said answer ≡ values vs)

abbrev pub Refuses : {Answer : Type 0} → (Answer → Said) → Answer → Type 0
Refuses said answer = (r : Refusal) × (said answer ≡ said_of r)

-- the first demand, of one call with these checks; a call that is lent nothing has two empty slices
pub record FirstDemand {Answer Entry : Type 0} (said : Answer → Said) (checks : List Check) (before : List Entry) (answer : Answer) (after : List Entry) : Type 0 where
  -- "finishes with an answer or a numbered refusal"
  pub finishes : Answers said answer ⊎ Refuses said answer
  -- "A refusal is given when document 01 says": that of the first row whose test holds, with its number, side, position and reason
  pub given : (r : Refusal) → outcome checks ≡ refused r → said answer ≡ said_of r
  -- "and at no other time"
  pub only : (r : Refusal) → said answer ≡ said_of r → outcome checks ≡ refused r
  -- where no row's test holds it answers, and nowhere else
  pub answers : AllFail checks → Answers said answer
  pub passes : Answers said answer → AllFail checks
  -- "and every lent buffer then holds what it held before"
  pub kept : Refuses said answer → after ≡ before

-- "it is proved that no second answer would satisfy it", nor any second content of the lent slice
abbrev pub NoSecond : {Answer Entry : Type 0} → (Answer → List Entry → Type 0) → Type 0
NoSecond {Answer} {Entry} Contract = (a b : Answer) (x y : List Entry) → Contract a x → Contract b y → (a ≡ b) × (x ≡ y)

-- the same of an operation that is lent nothing
abbrev pub NoSecondAnswer : {Answer : Type 0} → (Answer → Type 0) → Type 0
NoSecondAnswer {Answer} Contract = (a b : Answer) → Contract a → Contract b → a ≡ b

-- "the verdict is "same" .. every starting state ends in the same state under both, with the same phase"
pub record AllAgree (w : ℕ) (a b : Side) (answer : Result Verdict Refusal) : Type 0 where
  pub same : answer ≡ Ok Same
  pub agree : (x : ℕ) → x < 2 ^ w → Agree a b x

-- "Otherwise it names the lowest starting state where they part, and how."
pub record Parted (w : ℕ) (a b : Side) (answer : Result Verdict Refusal) : Type 0 where
  pub state : ℕ
  pub first : ℕ
  pub second : ℕ
  pub phase : ℕ
  pub different : answer ≡ Ok (Different state first second phase)
  pub named : Named a b w state first second phase

-- the third demand, of an answer about two sides on w wires
abbrev pub ThirdDemand : ℕ → Side → Side → Result Verdict Refusal → Type 0
ThirdDemand w a b answer = AllAgree w a b answer ⊎ Parted w a b answer

-- a file folded so many times
abbrev pub foldings : ℕ → List ℕ → List ℕ
foldings zero f = f
foldings (suc k) f = folded_file (foldings k f)
