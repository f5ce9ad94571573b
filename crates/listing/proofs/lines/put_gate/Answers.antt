use mathlib.Core.Path.{◌∙◌}
use Rattle.circuit.proofs.Parts.{wrote_same, room_same}
use Rattle.listing.proofs.Pieces.{inverter_pieces, inverter_said}
use Rattle.listing.proofs.lines.put_gate.Goals as goal

pub put_last-requires : goal.put_last-requires
put_last-requires c =
    let g = c.in-Inverter in
    room_same c.args.writer.now.at c.args.writer.now.out.now (inverter_pieces g.wire ∙ inverter_said g.wire g.is) c.requires

pub returns-in-Inverter-clause-wrote : goal.returns-in-Inverter-clause-wrote
returns-in-Inverter-clause-wrote c =
    let g = c.in-Inverter in
    wrote_same (inverter_pieces g.wire ∙ inverter_said g.wire g.is) c.put_last.ensures.wrote
