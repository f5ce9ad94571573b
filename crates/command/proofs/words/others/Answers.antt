use Rattle.std.proofs.Common.{rules, tests, eqb, ◌∙◌}
use Rattle.std.proofs.lemmas.Iterator.{YieldsList-from_slice}
use Rattle.std.proofs.lemmas.Iterator.Consumers.{count_from_yields_List, YieldsList-from_filter}
use Rattle.command.proofs.Scans.{separators_filtered}
use Rattle.command.proofs.words.others.Goals as goal

pub returns : goal.returns
returns c =
    count_from_yields_List _ _ c.count.ensures.ran (YieldsList-from_filter _ (λ b. eqb b 0) (YieldsList-from_slice c.args.line.now cc) c.filter.ensures.closure (λ x b q k. search (rules, tests)))
    ∙ separators_filtered c.args.line.now
