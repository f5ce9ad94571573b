use Prim.Native.Nat.{ℕ, suc, ◌^◌, ◌<◌}
use mathlib.Core.Path.{◌≡◌}
use lib.ListN.{get_or}
use Rattle.listing.proofs.loose.lowest_loose.Given as goal

abbrev pub invariant-loop-wire : goal.invariant-loop-wire
invariant-loop-wire l = (k : ℕ) → k < l.wire → get_or l.held k 0 ≡ 2 ^ suc k
