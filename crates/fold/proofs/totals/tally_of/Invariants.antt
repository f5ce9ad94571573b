use Rattle.std.proofs.Common.{◌≡◌, ℕ, ◌≤◌, List, get_or}
use Rattle.running.specs.Run.{free_turn, scores}
use Rattle.numbers.specs.Sums.{sum}
use Rattle.fold.specs.Working.{staying}
use Rattle.fold.proofs.totals.tally_of.Given as goal

-- the sum over the totals so far
abbrev pub over : (ℕ → ℕ) → List ℕ → ℕ → ℕ
over h ts n = sum n (λ k. h (get_or ts k 0))

abbrev pub invariant-loop-total : goal.invariant-loop-total
invariant-loop-total l = ((l.kept ≤ l.total-index) × (l.score ≤ l.total-index)) × ((l.kept ≡ over staying l.totals l.total-index) × (l.score ≡ over (scores free_turn) l.totals l.total-index))
