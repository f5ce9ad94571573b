use Rattle.std.proofs.Common.{rules, tests, ltb, ◌∙◌}
use Rattle.std.proofs.lemmas.Iterator.{YieldsList-from_slice}
use Rattle.std.proofs.lemmas.Iterator.Search.{all_from_yields_List}
use Rattle.command.specs.Digits.{digit_of}
use Rattle.command.proofs.Scans.{digits_all}
use Rattle.command.proofs.digits.are_hexadecimal.Goals as goal

pub returns : goal.returns
returns c =
    all_from_yields_List (λ b. ltb (digit_of b) 16) _ _ _ c.all.ensures.ran (YieldsList-from_slice c.args.text.now cc) (λ x b q k. search (rules, tests))
    ∙ digits_all c.args.text.now
