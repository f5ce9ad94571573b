-- The place is that of the first pair of the two rows whose numbers differ.
use Rattle.std.proofs.Common.{rules, tests, take, ◌∙◌}
use Rattle.std.proofs.lemmas.Iterator.{YieldsList-from_slice, YieldsList-from_zip}
use Rattle.std.proofs.lemmas.Iterator.Search.{position_from_yields_List}
use Rattle.verdict.proofs.Pairs.{differ, first_of_pairs}
use Rattle.verdict.proofs.scan.first_unlike.Goals as goal

pub returns : goal.returns
returns c = let a = c.args in
    c.unwrap_or.ensures
    ∙ first_of_pairs a.a.now a.b.now a.count c.requires.0 c.requires.1 c.position.result
    (position_from_yields_List differ c.position.new.self _ c.position.result c.position.ensures.ran
    (YieldsList-from_zip (YieldsList-from_slice (take a.count a.a.now) (cc)) (YieldsList-from_slice (take a.count a.b.now) (cc))) (λ x b q k. search (rules, tests)))
