use Rattle.std.proofs.Common.{◌≡◌, ℕ, ◌*◌, List}
use Rattle.numbers.proofs.Lists.{filled}
use Rattle.table.specs.Table.{value_at}
use Rattle.coefficients.proofs.ideal.put_turns.Given as goal

abbrev pub turns : List ℕ → ℕ → ℕ
turns table x = 32768 * value_at table x

abbrev pub invariant-loop-x : goal.invariant-loop-x
invariant-loop-x l = l.v ≡ filled l.x (turns l.table) l.initial.v
