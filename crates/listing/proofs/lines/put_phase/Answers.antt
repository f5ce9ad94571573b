use mathlib.Core.List.{◌++◌}
use Rattle.circuit.proofs.Parts.{Left, room, less_left, all_written}
use Rattle.listing.specs.Text.{numbered}
use Rattle.listing.specs.Words.{words}
use Rattle.listing.specs.Fractions.{over}
use Rattle.listing.specs.Listing.{phase_line}
use Rattle.listing.proofs.Pieces.{phase_left}
use Rattle.listing.proofs.lines.put_phase.Goals as goal
use Rattle.listing.proofs.lines.put_phase.Goals.{After-put_numbered}

-- what is left behind the number above
behind_above : (c : After-put_numbered)
    → Left (phase_line c.args.wire (over c.args.above c.args.below)) c.args.writer.now.at c.args.writer.now.out.now (numbered words.over c.args.below ++ (numbered words.wire c.args.wire ++ words.closing)) c.put_numbered.new.writer.at c.put_numbered.new.writer.out.now
behind_above c = less_left (numbered words.phase c.args.above) _ (phase_left c.args.writer.now.at c.args.writer.now.out.now c.args.wire (over c.args.above c.args.below) c.requires) c.put_numbered.ensures.wrote

pub put_numbered-requires : goal.put_numbered-requires
put_numbered-requires c =
    let a = c.args in
    room (numbered words.phase a.above) _ (phase_left a.writer.now.at a.writer.now.out.now a.wire (over a.above a.below) c.requires)

pub put_numbered-requires-2 : goal.put_numbered-requires-2
put_numbered-requires-2 c = room (numbered words.over c.args.below) _ (behind_above (goal.at.put_numbered-requires-2 c).After-put_numbered)

pub put_last-requires : goal.put_last-requires
put_last-requires c = (less_left (numbered words.over c.args.below) _ (behind_above (goal.at.put_last-requires c).After-put_numbered) c.put_numbered-2.ensures.wrote).fits

pub returns-clause-wrote : goal.returns-clause-wrote
returns-clause-wrote c = all_written (less_left (numbered words.over c.args.below) _ (behind_above (goal.at.returns-clause-wrote c).After-put_numbered) c.put_numbered-2.ensures.wrote) c.put_last.ensures.wrote
