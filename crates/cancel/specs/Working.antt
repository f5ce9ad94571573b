-- 02 §9, as one pass does it: the gates that are kept are a stack of positions.
use Rattle.std.specs.Prelude.{ℕ, zero, suc, ◌≡◌, Bool, false, List, [], ◌∷◌, get_or}
use Rattle.numbers.specs.Sums.{list}
use Rattle.circuit.specs.declared.Gate.{Gate}
use Rattle.circuit.specs.File.{gates_of}
use Rattle.circuit.specs.Working.{said_at}
use Rattle.cancel.specs.Cancel.{twins, cancelled, steps}

-- as many gates as a file can have
abbrev pub most_gates : ℕ
most_gates = 2048

-- the gates at the first n positions of a row, in order
abbrev pub gates_at : List ℕ → List ℕ → ℕ → List Gate
gates_at f row n = list n (λ j. said_at f (get_or row j 0))

-- and the last of them first
abbrev pub stack : List ℕ → List ℕ → ℕ → List Gate
stack f row zero = []
stack f row (suc n) = said_at f (get_or row n 0) ∷ stack f row n

-- whether a gate is the twin of the last that is kept
abbrev pub meets : List Gate → Gate → Bool
meets [] g = false
meets (h ∷ k) g = twins h g

-- what the pass leaves: the row's first gates are what is left of the file's, and so many pairs went
pub record Remains (f : List ℕ) (most : ℕ) (row : List ℕ) (kept pairs : ℕ) : Type 0 where
  pub gates : gates_at f row kept ≡ cancelled most (gates_of f)
  pub number : pairs ≡ steps most (gates_of f)
