use Rattle.std.proofs.Common.{length}
use Rattle.spectrum.proofs.+transform.Given as goal

abbrev pub decreases-transform : goal.decreases-transform
decreases-transform l = length l.row.now
