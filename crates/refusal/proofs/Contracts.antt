-- What follows from a contract of the common shape: no second answer and no second slice, and what holds when it answers or refuses.
use Prim.Native.Nat.{ℕ}
use native.Mathlib.Omega.{arith}
use mathlib.Core.Path.{◌≡◌, refl, sym, ap, ◌∙◌}
use mathlib.Core.List.{List, ◌++◌}
use lib.ListN.{length, drop}
use Rattle.refusal.specs.declared.Refusal.{Refusal}
use Rattle.refusal.specs.Checks.{Check, Outcome, passed, refused, outcome, settle}
use Rattle.refusal.specs.Names.{number_of, reason_said}
use Rattle.refusal.specs.Contract.{Said, values, said_of, answer_says, Says, Meets}
use Rattle.refusal.proofs.Numbering.{one_cause, one_reason}
use Rattle.std.specs.Prelude.{Result, Ok, Err, IsErrAnd}
use Rattle.refusal.proofs.Outcomes.{Reaches, reaches, then_refused, then_passed, both_pass}

-- no two answers say the same
abbrev pub Distinct : {Answer : Type 0} → (Answer → Said) → Type 0
Distinct {Answer} said = (a b : Answer) → said a ≡ said b → a ≡ b

pub same_refusal : (r s : Refusal) → said_of r ≡ said_of s → r ≡ s
same_refusal r s e =
    let n : number_of r.cause ≡ number_of s.cause = cc in
    let d : r.side ≡ s.side = cc in
    let p : r.position ≡ s.position = cc in
    let x : reason_said r.reason ≡ reason_said s.reason = cc in
    λ i. record { cause = one_cause r.cause s.cause n i; side = d i; position = p i; reason = one_reason r.reason s.reason x i }

-- an error that `?` hands on
pub handed_on : {V E : Type 0} {r : Result V E} {x : E} → IsErrAnd r (λ y. y ≡ x) → r ≡ Err x
handed_on {r = Ok v} e = absurd e
handed_on {r = Err y} e = ap Err e

pub hands_on : {Values : Type 0} (list : Values → List ℕ) (o : Outcome) (vs : List ℕ) (r : Result Values Refusal) {x : Refusal} → IsErrAnd r (λ y. y ≡ x) → o ≡ refused x → Says (answer_says list) o vs r
hands_on list o vs r e p = rw (handed_on e, p) refl

-- what is answered determines an answer that is values or a refusal, where its list determines the values
pub answers_distinct : {Values : Type 0} (list : Values → List ℕ) → ((v w : Values) → list v ≡ list w → v ≡ w) → Distinct (answer_says list)
answers_distinct list d (Ok v) (Ok w) e = ap Ok (d v w cc)
answers_distinct list d (Ok v) (Err r) e = cc
answers_distinct list d (Err r) (Ok v) e = cc
answers_distinct list d (Err r) (Err s) e = ap Err (same_refusal r s e)

-- a refusal that is returned is the one that the checks give
pub says_refused : (o : Outcome) (vs : List ℕ) (r : Refusal) → said_of r ≡ settle o said_of (values vs) → o ≡ refused r
says_refused passed vs r e = let z : ◌≡◌ {A = ℕ} 0 1 = cc in absurd (omega arith)
says_refused (refused s) vs r e = ap refused (sym (same_refusal r s e))

-- values that are returned are those of the contract, and every check passed
pub says_values : (o : Outcome) (vs ws : List ℕ) → values ws ≡ settle o said_of (values vs) → (o ≡ passed) × (ws ≡ vs)
says_values passed vs ws e = (refl, cc)
says_values (refused s) vs ws e = let z : ◌≡◌ {A = ℕ} 0 1 = cc in absurd (omega arith)

-- what a function shows at a return: the refusal of the first check that holds, or the values where none does
pub refused_by : (cs : List Check) (vs : List ℕ) {s r : Refusal} → s ≡ r → Reaches cs (refused r) → said_of s ≡ settle (outcome cs) said_of (values vs)
refused_by cs vs {s} {r} e h = rw (reaches cs (refused r) h) (ap said_of e)

pub all_passed : (cs : List Check) {vs ws : List ℕ} → ws ≡ vs → Reaches cs passed → values ws ≡ settle (outcome cs) said_of (values vs)
all_passed cs e h = rw (reaches cs passed h) (ap values e)

pub said_refused : (o : Outcome) (vs : List ℕ) (r : Refusal) → o ≡ refused r → said_of r ≡ settle o said_of (values vs)
said_refused o vs r e = rw e

-- ---- an operation's answer, whatever is lent

module _ {Answer : Type 0} (said : Answer → Said) (o : Outcome) (vs : List ℕ) (a : Answer) (s : Says said o vs a) where
  -- it answers values: they are the contract's, and every check passed
  pub answers_values : (ws : List ℕ) → said a ≡ values ws → (o ≡ passed) × (ws ≡ vs)
  answers_values ws e = says_values o vs ws (sym e ∙ s)

  -- it refuses: so does the first check that holds
  pub answers_refusal : (r : Refusal) → said a ≡ said_of r → o ≡ refused r
  answers_refusal r e = says_refused o vs r (sym e ∙ s)

  -- and the other way round
  pub passed_values : o ≡ passed → said a ≡ values vs
  passed_values e = rw e at s

  pub refused_refusal : (r : Refusal) → o ≡ refused r → said a ≡ said_of r
  refused_refusal r e = rw e at s

-- 01, "no second answer would satisfy it", of an operation that is lent no slice
pub one_said : {Answer : Type 0} {said : Answer → Said} {s : Said} → Distinct said → (a b : Answer) → said a ≡ s → said b ≡ s → a ≡ b
one_said d a b p q = d a b (p ∙ sym q)

-- ---- an operation that is lent a slice

module _ {Answer Entry : Type 0} (said : Answer → Said) (o : Outcome) (vs : List ℕ) (result before : List Entry) where
  -- 01, "no second answer would satisfy it", nor any second content of the lent slice
  pub one_answer : Distinct said → (a b : Answer) (x y : List Entry) → Meets said o vs result before a x → Meets said o vs result before b y → (a ≡ b) × (x ≡ y)
  one_answer d a b x y p q = (d a b (p.says ∙ sym q.says), p.leaves ∙ sym q.leaves)

  -- where a check refuses, the answer is that refusal and the slice is as it was
  pub when_refused : (a : Answer) (x : List Entry) (r : Refusal) → o ≡ refused r → Meets said o vs result before a x → (said a ≡ said_of r) × (x ≡ before)
  when_refused a x r e m = (rw e at m.says, rw e at m.leaves)

  -- where every check passes, the answer is the values and the slice begins with the result
  pub when_passed : (a : Answer) (x : List Entry) → o ≡ passed → Meets said o vs result before a x → (said a ≡ values vs) × (x ≡ result ++ drop (length result) before)
  when_passed a x e m = (rw e at m.says, rw e at m.leaves)

  -- what a caller knows: it answers values, and the slice begins with the result; or it refuses, and the slice is as it was
  pub meets_values : (a : Answer) (x : List Entry) → Meets said o vs result before a x → (ws : List ℕ) → said a ≡ values ws → (o ≡ passed) × (ws ≡ vs) × (x ≡ result ++ drop (length result) before)
  meets_values a x m ws e =
      let v = answers_values said o vs a m.says ws e in
      (v.0, v.1, (when_passed a x v.0 m).1)

  pub meets_refusal : (a : Answer) (x : List Entry) → Meets said o vs result before a x → (r : Refusal) → said a ≡ said_of r → (o ≡ refused r) × (x ≡ before)
  meets_refusal a x m r e =
      let p = answers_refusal said o vs a m.says r e in
      (p, (when_refused a x r p m).1)

  -- what a function shows where it refuses, and where it answers
  pub meets_refused : (a : Answer) (r : Refusal) → said a ≡ said_of r → o ≡ refused r → Meets said o vs result before a before
  meets_refused a r e p = rw p (record { says = e; leaves = refl })

  pub meets_passed : (a : Answer) (x : List Entry) → said a ≡ values vs → o ≡ passed → x ≡ result ++ drop (length result) before → Meets said o vs result before a x
  meets_passed a x e p q = rw p (record { says = e; leaves = q })

-- the same where one list of checks comes after another: the first refuses, or it passes and the second decides
module _ {Answer Entry : Type 0} (said : Answer → Said) (cs ds : List Check) (vs : List ℕ) (result before : List Entry) where
  pub first_refuses : (a : Answer) (r : Refusal) → said a ≡ said_of r → outcome cs ≡ refused r → Meets said (outcome (cs ++ ds)) vs result before a before
  first_refuses a r e o = meets_refused said (outcome (cs ++ ds)) vs result before a r e (then_refused cs ds r o)

  module _ (p : outcome cs ≡ passed) where
    pub second_refuses : (a : Answer) (r : Refusal) → said a ≡ said_of r → outcome ds ≡ refused r → Meets said (outcome (cs ++ ds)) vs result before a before
    second_refuses a r e o = meets_refused said (outcome (cs ++ ds)) vs result before a r e (then_passed cs ds p ∙ o)

    pub both_answer : (a : Answer) (x : List Entry) → said a ≡ values vs → outcome ds ≡ passed → x ≡ result ++ drop (length result) before → Meets said (outcome (cs ++ ds)) vs result before a x
    both_answer a x e o q = meets_passed said (outcome (cs ++ ds)) vs result before a x e (both_pass cs ds p o) q
