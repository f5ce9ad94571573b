-- The shape of every contract: what is answered, in 01's numbers and values, and what a lent slice then holds.
use Rattle.std.specs.Prelude.{ℕ, ◌≡◌, List, ◌++◌, length, drop, Result, Ok, Err}
use Rattle.refusal.specs.declared.Refusal.{Refusal}
use Rattle.refusal.specs.Names.{number_of, reason_said}
use Rattle.refusal.specs.Checks.{Outcome, settle}

-- an answer in the paper's words: its values, or a refusal's number, side, position and reason
pub data Said : Type 0 where
  values : List ℕ → Said
  refuses : ℕ → ℕ → ℕ → ℕ → Said

abbrev pub said_of : Refusal → Said
said_of r = refuses (number_of r.cause) r.side r.position (reason_said r.reason)

-- an answer that is values, told by a list, or a refusal
abbrev pub answer_says : {Values : Type 0} → (Values → List ℕ) → Result Values Refusal → Said
answer_says list (Ok x) = values (list x)
answer_says list (Err r) = said_of r

-- 01, "A refusal returns its number, the side .., and the position ..": else the values that are answered
abbrev pub Says : {Answer : Type 0} → (Answer → Said) → Outcome → List ℕ → Answer → Type 0
Says said o vs answer = said answer ≡ settle o said_of (values vs)

-- 01, "Nothing lent is written" on a refusal, and "Success writes only the result": at the front of the slice
abbrev pub Leaves : {Entry : Type 0} → Outcome → List Entry → List Entry → List Entry → Type 0
Leaves o result before after = after ≡ settle o (λ _. before) (result ++ drop (length result) before)

-- the contract of an operation that is lent a slice
pub record Meets {Answer Entry : Type 0} (said : Answer → Said) (o : Outcome) (vs : List ℕ) (result before : List Entry) (answer : Answer) (after : List Entry) : Type 0 where
  pub says : Says said o vs answer
  pub leaves : Leaves o result before after
