use Rattle.std.proofs.Common.{◌≡◌, ℕ, List, get_or}
use Rattle.numbers.proofs.Lists.{filled}
use Rattle.numbers.specs.Turn.{difference}
use Rattle.numbers.proofs.negate.Given as goal

abbrev pub opposite : List ℕ → ℕ → ℕ
opposite row k = difference 0 (get_or row k 0)

abbrev pub invariant-loop-angle : goal.invariant-loop-angle
invariant-loop-angle l = l.row ≡ filled l.angle-index (opposite l.initial.row) l.initial.row
