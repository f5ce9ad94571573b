use Rattle.std.proofs.Common.{◌≡◌, List, ℕ, [], Option, Some, None, Bor, unwrap_or, eqb, rules, tests, refl, ap, ◌∙◌}
use Rattle.std.specs.Option.{option_map}
use Rattle.std.proofs.lemmas.Iterator.Consumers.{nth_from_yields_List}
use Rattle.std.proofs.lemmas.Iterator.Splits.{YieldsList-from_slice_split}
use Rattle.command.proofs.Scans.{word_split}
use Rattle.command.proofs.words.word.Goals as goal

-- the slice behind an answer, or behind what stands for none
behind : (r : Option (Bor (List ℕ))) (d : Bor (List ℕ)) → (unwrap_or r d).now ≡ unwrap_or (option_map (λ x. x.now) r) d.now
behind None d = refl
behind (Some x) d = refl

pub returns : goal.returns
returns c =
    let line = c.args.line.now in
    let part = nth_from_yields_List _ _ c.args.k c.nth.ensures.ran (YieldsList-from_slice_split _ (λ b. eqb b 0) line c.split.ensures.rest c.split.ensures.done c.split.ensures.closure (λ x r q k. search (rules, tests))) in
    ap (λ x. x.now) c.unwrap_or.ensures ∙ behind c.nth.result _ ∙ ap (λ o. unwrap_or o []) part ∙ word_split line c.args.k
