use mathlib.Core.List.{◌++◌}
use Rattle.circuit.proofs.Parts.{room, less_left, all_written}
use Rattle.listing.specs.Text.{numbered}
use Rattle.listing.specs.Words.{words}
use Rattle.listing.proofs.Pieces.{cnot_left}
use Rattle.listing.proofs.lines.put_cnot.Goals as goal

pub put_numbered-requires : goal.put_numbered-requires
put_numbered-requires c =
    let a = c.args in
    room (numbered words.cnot a.control) (numbered words.target a.target ++ words.closing) (cnot_left a.writer.now.at a.writer.now.out.now a.control a.target c.requires)

pub put_last-requires : goal.put_last-requires
put_last-requires c =
    let a = c.args in
    (less_left (numbered words.cnot a.control) (numbered words.target a.target ++ words.closing) (cnot_left a.writer.now.at a.writer.now.out.now a.control a.target c.requires) c.put_numbered.ensures.wrote).fits

pub returns-clause-wrote : goal.returns-clause-wrote
returns-clause-wrote c =
    let a = c.args in
    all_written (less_left (numbered words.cnot a.control) (numbered words.target a.target ++ words.closing) (cnot_left a.writer.now.at a.writer.now.out.now a.control a.target c.requires) c.put_numbered.ensures.wrote) c.put_last.ensures.wrote
