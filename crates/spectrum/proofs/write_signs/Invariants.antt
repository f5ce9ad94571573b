use Prim.Native.Nat.{ℕ}
use mathlib.Core.Path.{◌≡◌}
use mathlib.Core.List.{List}
use lib.IntN.{ℤ, pos}
use Rattle.numbers.specs.Turn.{flip}
use Rattle.numbers.proofs.Lists.{filled}
use Rattle.table.specs.Table.{value_at}
use Rattle.spectrum.proofs.write_signs.Given as goal

abbrev pub sign_of : List ℕ → ℕ → ℤ
sign_of table x = flip (value_at table x) (pos 1)

abbrev pub invariant-loop-x : goal.invariant-loop-x
invariant-loop-x l = l.out ≡ filled l.x (sign_of l.table) l.initial.out
