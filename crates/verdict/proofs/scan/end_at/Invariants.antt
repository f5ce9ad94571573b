use Rattle.std.proofs.Common.{◌≡◌}
use Rattle.coefficients.specs.Working.{entry}
use Rattle.verdict.specs.Working.{end_of}
use Rattle.verdict.proofs.scan.end_at.Given as goal

abbrev pub invariant-loop-wire : goal.invariant-loop-wire
invariant-loop-wire l = l.end ≡ end_of l.wire (entry l.side.ends.now) l.state
