use mathlib.Core.List.{◌++◌}
use Rattle.circuit.proofs.Parts.{Left, room, less_left, all_written}
use Rattle.listing.specs.Text.{numbered}
use Rattle.listing.specs.Words.{words}
use Rattle.listing.specs.Listing.{head_lines}
use Rattle.listing.proofs.Pieces.{head_left}
use Rattle.listing.proofs.lines.put_head.Goals as goal
use Rattle.listing.proofs.lines.put_head.Goals.{After-put_text}

-- what is left behind the version's line
behind_version : (c : After-put_text) → Left (head_lines c.args.wires) c.args.writer.now.at c.args.writer.now.out.now (words.include ++ (numbered words.register c.args.wires ++ words.closing)) c.put_text.new.writer.at c.put_text.new.writer.out.now
behind_version c = less_left words.version _ (head_left c.args.wires c.args.writer.now.at c.args.writer.now.out.now c.requires) c.put_text.ensures.wrote

pub put_text-requires : goal.put_text-requires
put_text-requires c = room words.version _ (head_left c.args.wires c.args.writer.now.at c.args.writer.now.out.now c.requires)

pub put_text-requires-2 : goal.put_text-requires-2
put_text-requires-2 c = room words.include _ (behind_version (goal.at.put_text-requires-2 c).After-put_text)

pub put_last-requires : goal.put_last-requires
put_last-requires c = (less_left words.include _ (behind_version (goal.at.put_last-requires c).After-put_text) c.put_text-2.ensures.wrote).fits

pub returns-clause-wrote : goal.returns-clause-wrote
returns-clause-wrote c = all_written (less_left words.include _ (behind_version (goal.at.returns-clause-wrote c).After-put_text) c.put_text-2.ensures.wrote) c.put_last.ensures.wrote
