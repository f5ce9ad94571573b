-- No operation had more cases than there were.
use Rattle.std.proofs.Common.{ℕ, ◌≤◌, get_or}
use Rattle.cases.proofs.main.Given as goal

abbrev pub invariant-loop-cases : goal.invariant-loop-cases
invariant-loop-cases l = (k : ℕ) → get_or l.tally k 0 ≤ l.cases
