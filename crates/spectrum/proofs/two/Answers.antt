use Rattle.std.proofs.Common.{sym, ap₂, ◌∙◌}
use Rattle.spectrum.specs.Working.{sums_and_differences}
use Rattle.spectrum.proofs.Twos.{two_added}
use Rattle.spectrum.proofs.two.Goals as goal

pub returns : goal.returns
returns c = let s = c.split_at_mut-first.ensures in
    c.add_and_subtract.ensures ∙ ap₂ sums_and_differences s.front_len (sym s.value) ∙ two_added c.args.row.now c.requires.two_entries
