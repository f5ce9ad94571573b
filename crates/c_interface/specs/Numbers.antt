-- An answer as a caller in C finds it: six numbers.
use Rattle.std.specs.Prelude.{ℕ, ◌≡◌, List, [], ◌∷◌, ◌++◌, take, replicate, Ok, Err}
use Rattle.refusal.specs.Contract.{Said, values, refuses}
use Rattle.circuit.specs.declared.Gate.{Gate}
use Rattle.circuit.specs.declared.Gate.TheVariants.{Cnot, Phase, Inverter}
use Rattle.refusal.specs.Names.{reason_number}
use Rattle.circuit.specs.Gates.{Decoded}

-- 0 and the values that are answered, or a refusal's number, side, position and reason; then zeros
abbrev pub numbers_of : Said → List ℕ
numbers_of (values vs) = 0 ∷ take 5 (vs ++ replicate 5 0)
numbers_of (refuses n s p x) = n ∷ s ∷ p ∷ x ∷ 0 ∷ 0 ∷ []

-- some answer meets the operation's contract with what the slice then holds, and the numbers say it; there is one only, by promises' OneAnswer
pub record Tells {Answer Entry : Type 0} (Contract : Answer → List Entry → Type 0) (said : Answer → Said) (numbers : List ℕ) (after : List Entry) : Type 0 where
  pub answer : Answer
  pub meets : Contract answer after
  pub tells : numbers ≡ numbers_of (said answer)

-- the same of an operation that is lent nothing
pub record TellsAnswer {Answer : Type 0} (Contract : Answer → Type 0) (said : Answer → Said) (numbers : List ℕ) : Type 0 where
  pub answer : Answer
  pub meets : Contract answer
  pub tells : numbers ≡ numbers_of (said answer)

-- kind, then control and target, or wire and angle, or wire and 0, then the position; 0 and the reason for a bad gate
abbrev pub gate_numbers : ℕ → Gate → List ℕ
gate_numbers p (Cnot c t) = 1 ∷ c ∷ t ∷ p ∷ 0 ∷ 0 ∷ []
gate_numbers p (Phase i a) = 2 ∷ i ∷ a ∷ p ∷ 0 ∷ 0 ∷ []
gate_numbers p (Inverter i) = 3 ∷ i ∷ 0 ∷ p ∷ 0 ∷ 0 ∷ []

abbrev pub decoded_numbers : Decoded → List ℕ
decoded_numbers (Ok g) = gate_numbers g.position g.gate
decoded_numbers (Err x) = 0 ∷ reason_number x ∷ 0 ∷ 0 ∷ 0 ∷ 0 ∷ []
