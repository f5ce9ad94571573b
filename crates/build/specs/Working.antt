-- The construction with any angles, as its writer is given them.
use Rattle.std.specs.Prelude.{ℕ, List, ◌++◌}
use Rattle.circuit.specs.declared.Gate.{Gate}
use Rattle.build.specs.Construction.{block, first_quarter, variables}

-- the three parts, with the angles of steps 2 and 3
abbrev pub parts : ℕ → (ℕ → ℕ) → (ℕ → ℕ) → List Gate
parts n angle_at minusAt = first_quarter n ++ variables n angle_at ++ block n minusAt
