-- Sums over an index, of whole numbers and of integers, and the list of a function's values.
use Rattle.std.specs.Prelude.{ℕ, zero, suc, ◌+◌, List, [], ◌∷◌, ℤ, pos, ◌+ℤ◌}

-- f 0, f 1, .., f (n - 1), added up
abbrev pub sum_of {ℓ} : {A : Type ℓ} → A → (A → A → A) → ℕ → (ℕ → A) → A
sum_of none add zero f = none
sum_of none add (suc n) f = add (sum_of none add n f) (f n)

abbrev pub sum : ℕ → (ℕ → ℕ) → ℕ
sum = sum_of 0 ◌+◌

abbrev pub sumℤ : ℕ → (ℕ → ℤ) → ℤ
sumℤ = sum_of (pos 0) ◌+ℤ◌

-- f 0, f 1, .., f (n - 1)
abbrev pub list {ℓ} : {A : Type ℓ} → ℕ → (ℕ → A) → List A
list zero f = []
list (suc n) f = f zero ∷ list n (λ i. f (suc i))
