use native.Mathlib.Omega.{arith}
use mathlib.Core.Path.{ap}
use mathlib.Core.Bool.{Bool}
use lib.ListN.{length}
use Rattle.listing.specs.Listing.{wrap_line}
use Rattle.listing.proofs.Lengths.{wrap_long, no_wrap_long}
use Rattle.listing.proofs.lines.wrap_length.Goals as goal

pub returns-then-wrapped : goal.returns-then-wrapped
returns-then-wrapped c =
    let w = c.args.wires in
    omega (arith, ap (λ (b : Bool). length (wrap_line b w)) c.if-wrapped.true, wrap_long w, c.digits.ensures)

pub returns : goal.returns
returns c =
    let w = c.args.wires in
    omega (arith, ap (λ (b : Bool). length (wrap_line b w)) c.if-wrapped.false, no_wrap_long w)
