use mathlib.Core.Path.{refl}
use mathlib.Core.List.{◌++◌}
use Rattle.circuit.proofs.Parts.{all_left, less_left, all_written}
use Rattle.listing.specs.Text.{decimal}
use Rattle.listing.specs.Words.{words}
use Rattle.listing.proofs.text.put_last.Goals as goal

pub returns-clause-wrote : goal.returns-clause-wrote
returns-clause-wrote c =
    let a = c.args in
    all_written (less_left (a.word.now ++ decimal a.n) words.closing (all_left a.writer.now.at a.writer.now.out.now refl c.requires) c.put_numbered.ensures.wrote) c.put_text.ensures.wrote
