use Prim.Native.Nat.{◌/◌, ◌^◌}
use mathlib.Core.Path.{sym, ap, ◌∙◌}
use lib.ListN.{length}
use Rattle.listing.specs.Fractions.{over}
use Rattle.listing.proofs.Pieces.{cnot_said, phase_said, inverter_said}
use Rattle.listing.proofs.Lengths.{cnot_long, phase_long, inverter_long}
use Rattle.listing.proofs.lines.line_length.Goals as goal

pub returns-in-Cnot : goal.returns-in-Cnot
returns-in-Cnot c =
    let g = c.in-Cnot in
    c.cnot_length.ensures ∙ sym (cnot_long g.control g.target) ∙ ap length (cnot_said g.control g.target g.is)

pub returns-in-Phase : goal.returns-in-Phase
returns-in-Phase c =
    let g = c.in-Phase in
    let r = c.halvings-twos.result in
    let f = over (g.angle / 2 ^ r) (32768 / 2 ^ r) in
    c.phase_length.ensures ∙ sym (phase_long g.wire f) ∙ ap length (phase_said g.wire g.angle f g.is c.halvings-twos.ensures.1)

pub returns-in-Inverter : goal.returns-in-Inverter
returns-in-Inverter c =
    let g = c.in-Inverter in
    c.inverter_length.ensures ∙ sym (inverter_long g.wire) ∙ ap length (inverter_said g.wire g.is)
