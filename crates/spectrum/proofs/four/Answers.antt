use Rattle.std.proofs.Common.{ℕ, ◌^◌, ◌≡◌, List, length, ℤ, ◌∙◌, arith}
use Rattle.spectrum.specs.Working.{transformed, sum_and_difference}
use Rattle.spectrum.proofs.Twos.{two_transformed}
use Rattle.spectrum.proofs.Recursion.{add_call, add_gives}
use Rattle.spectrum.proofs.four.Goals as goal

gives : (v u : List ℤ) → length v ≡ 2 → u ≡ sum_and_difference 0 1 v → (n : ℕ) → length v ≡ 2 ^ n → u ≡ transformed n v
gives v u e p n h = p ∙ two_transformed v e n h

pub add_and_subtract-requires-clause-paired : goal.add_and_subtract-requires-clause-paired
add_and_subtract-requires-clause-paired c =
    let s = c.split_at_mut-front in
    let f = c.two in
    let b = c.two-2 in
    (add_call c.args.row.now s.result.0.now s.result.1.now 2 (omega (arith, c.requires.four_entries)) (omega arith) s.ensures.front s.ensures.back f.new.row b.new.row
    (gives _ _ s.ensures.front_len f.ensures) (gives _ _ (omega (arith, s.ensures.back_len, c.requires.four_entries)) b.ensures) c.requires.tame).1

pub returns : goal.returns
returns c =
    let s = c.split_at_mut-front in
    let f = c.two in
    let b = c.two-2 in
    add_gives c.args.row.now s.result.0.now s.result.1.now 2 (omega (arith, c.requires.four_entries)) (omega arith) s.ensures.front s.ensures.back f.new.row b.new.row
    (gives _ _ s.ensures.front_len f.ensures) (gives _ _ (omega (arith, s.ensures.back_len, c.requires.four_entries)) b.ensures) _ c.add_and_subtract.ensures
