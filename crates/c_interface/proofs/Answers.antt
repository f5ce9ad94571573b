-- What a caller in C knows: answer[0] is 0 exactly where the operation answered, and then its values stand behind it; else its refusal.
use Prim.Native.Nat.{ℕ, suc, ◌<◌}
use native.Mathlib.Omega.{arith}
use mathlib.Core.Path.{◌≡◌, refl, ap, ◌∙◌}
use mathlib.Core.Logic.{◌⊎◌, inl, inr}
use mathlib.Core.List.{List, ◌++◌}
use lib.ListN.{length, get_or, replicate, drop, length-append}
use lib.Seq.{length-take-le}
use Rattle.refusal.specs.declared.Refusal.{Refusal}
use Rattle.refusal.specs.Checks.{Check, passed, refused, outcome}
use Rattle.refusal.specs.Contract.{Said, values, refuses, said_of, Says, Meets}
use Rattle.refusal.proofs.Outcomes.{either}
use Rattle.refusal.proofs.Contracts.{passed_values, refused_refusal, when_passed, when_refused}
use Rattle.refusal.specs.Names.{number_of, reason_said}
use Rattle.refusal.proofs.Numbering.{number_above}
use Rattle.c_interface.specs.Numbers.{numbers_of, Tells, TellsAnswer}

-- "answer points to six numbers"
pub six_numbers : (s : Said) → length (numbers_of s) ≡ 6
six_numbers (values vs) = ap suc (length-take-le 5 (vs ++ replicate 5 0) (omega (arith, length-append vs (replicate 5 0))))
six_numbers (refuses n s p x) = refl

-- no row has the number 0, so that 0 can say that nothing is refused
pub refused_numbered : (cs : List Check) (r : Refusal) → outcome cs ≡ refused r → 0 < number_of r.cause
refused_numbered cs r e = number_above r.cause

module _ {Answer : Type 0} (said : Answer → Said) (cs : List Check) (vs : List ℕ) (ns : List ℕ) (t : TellsAnswer (Says said (outcome cs) vs) said ns) where
  pub told_values : outcome cs ≡ passed → ns ≡ numbers_of (values vs)
  told_values e = t.tells ∙ ap numbers_of (passed_values said (outcome cs) vs t.answer t.meets e)

  pub told_refusal : (r : Refusal) → outcome cs ≡ refused r → ns ≡ numbers_of (said_of r)
  told_refusal r e = t.tells ∙ ap numbers_of (refused_refusal said (outcome cs) vs t.answer t.meets r e)

  -- "answer[3] what is wrong with it"
  pub told_reason : (r : Refusal) → outcome cs ≡ refused r → get_or ns 3 0 ≡ reason_said r.reason
  told_reason r e = ap (λ l. get_or l 3 0) (told_refusal r e)

  -- "answer[0] is 0 on success .. Otherwise answer[0] is the number of a refusal"
  pub told_passed : get_or ns 0 0 ≡ 0 → outcome cs ≡ passed
  told_passed zero = by (either (outcome cs))
    where
      by : (outcome cs ≡ passed) ⊎ ((r : Refusal) × (outcome cs ≡ refused r)) → outcome cs ≡ passed
      by (inl p) = p
      by (inr (r, e)) = absurd (omega (arith, refused_numbered cs r e, ap (λ l. get_or l 0 0) (told_refusal r e)))

-- an operation that is lent a slice tells its answer as one that is lent none
module _ {Answer Entry : Type 0} (said : Answer → Said) (cs : List Check) (vs : List ℕ) (result before : List Entry) (ns : List ℕ) (after : List Entry) (t : Tells (Meets said (outcome cs) vs result before) said ns after) where
  pub slice_told : TellsAnswer (Says said (outcome cs) vs) said ns
  slice_told = record { answer = t.answer; meets = t.meets.says; tells = t.tells }

  -- "A refusal writes nothing to out or work. Success writes the named front of it and leaves the rest as it was."
  pub slice_written : outcome cs ≡ passed → after ≡ result ++ drop (length result) before
  slice_written e = (when_passed said (outcome cs) vs result before t.answer after e t.meets).1

  pub slice_left : (r : Refusal) → outcome cs ≡ refused r → after ≡ before
  slice_left r e = (when_refused said (outcome cs) vs result before t.answer after r e t.meets).1
