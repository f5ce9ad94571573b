-- 01, "Spectrum": s_k, theta_k, and what the operation answers.
use Rattle.std.specs.Prelude.{ℕ, ◌+◌, ◌-◌, ◌^◌, List, [], ◌∷◌, ◌++◌, length, ℤ, pos, ◌*ℤ◌}
use Rattle.numbers.specs.Bits.{dot}
use Rattle.numbers.specs.Sums.{sumℤ, list}
use Rattle.numbers.specs.Turn.{wrap, flip}
use Rattle.refusal.specs.Checks.{Check, outcome, room_check}
use Rattle.refusal.specs.Contract.{Said, answer_says, Meets}
use Rattle.table.specs.Table.{table_checks, value_at}
use Rattle.std.specs.Prelude.{Result}
use Rattle.refusal.specs.declared.Refusal.{Refusal}

-- "s_k is the sum over x of +1 or -1, minus when f(x) + k.x is odd"
abbrev pub coefficient : ℕ → (ℕ → ℕ) → ℕ → ℤ
coefficient n f k = sumℤ (2 ^ n) (λ x. flip (f x + dot k x) (pos 1))

-- "k from 0 to 2^n - 1"
unfoldable pub spectrum_of : ℕ → List ℕ → List ℤ
spectrum_of n t = list (2 ^ n) (coefficient n (value_at t))

-- "Theta_k = s_k times 2^(14-n), wrapped."
abbrev pub angle : ℕ → ℤ → ℕ
angle n s = wrap (s *ℤ pos (2 ^ (14 - n)))

abbrev pub theta : ℕ → (ℕ → ℕ) → ℕ → ℕ
theta n f k = angle n (coefficient n f k)

-- rows 1 to 3, then 13 where out is shorter than 2^n
abbrev pub spectrum_checks : ℕ → List ℕ → ℕ → List Check
spectrum_checks n t room = table_checks n t ++ room_check room (2 ^ n)

-- the answer is the number of entries written
abbrev pub transformed_says : Result ℕ Refusal → Said
transformed_says = answer_says (λ (k : ℕ). k ∷ [])

-- the contract of spectrum
abbrev pub Transforms : ℕ → List ℕ → List ℤ → Result ℕ Refusal → List ℤ → Type 0
Transforms n t out answer after = Meets transformed_says (outcome (spectrum_checks n t (length out))) (2 ^ n ∷ []) (spectrum_of n t) out answer after
