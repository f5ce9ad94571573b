-- 01, "Numbers and conventions": "A table is packed", and rows 1 to 3 of the refusals.
use Rattle.std.specs.Prelude.{ℕ, ◌-◌, ◌/◌, ◌%◌, ◌^◌, min, List, [], ◌∷◌, length, get_or, Result}
use Rattle.numbers.specs.Bits.{bit}
use Rattle.refusal.specs.Names.{refusal, VARS, TABLE, PAD}
use Rattle.refusal.specs.Checks.{Check, check, less, same, other, outcome}
use Rattle.refusal.specs.Contract.{Said, answer_says, Says}
use Rattle.refusal.specs.declared.Refusal.{Refusal}

-- "bit x mod 8 of byte x div 8 is f(x), lowest bit first"
abbrev pub value_at : List ℕ → ℕ → ℕ
value_at t x = bit (get_or t (x / 8) 0) (x % 8)

-- "Its length is 1 byte for n = 1, 2, 3, else 2^(n-3) bytes": n - 3 is 0 for those
abbrev pub length_for : ℕ → ℕ
length_for n = 2 ^ (n - 3)

-- the first byte's bits past the 2^n that are used: for n = 1, 2 there are such
abbrev pub unused : ℕ → List ℕ → ℕ
unused n t = get_or t 0 0 / 2 ^ min (2 ^ n) 8

abbrev pub table_checks : ℕ → List ℕ → List Check
table_checks n t =
    check (same n 0) (refusal VARS)
    ∷ check (less 8 n) (refusal VARS)
    ∷ check (other (length t) (length_for n)) (refusal TABLE)
    ∷ check (other (unused n t) 0) (refusal PAD)
    ∷ []

-- a good table has no value to answer
abbrev pub checked_says : Result (Unit {0}) Refusal → Said
checked_says = answer_says (λ _. [])

-- the contract of check
abbrev pub Checks : ℕ → List ℕ → Result (Unit {0}) Refusal → Type 0
Checks n t answer = Says checked_says (outcome (table_checks n t)) [] answer
