use Rattle.std.proofs.Common.{get_or, ap, ◌∙◌, arith, rules}
use Rattle.numbers.proofs.Lists.{fill_again}
use Rattle.numbers.proofs.Rows.{filled_at}
use Rattle.numbers.specs.Turn.{difference}
use Rattle.numbers.proofs.Turns.{subtracted}
use Rattle.numbers.proofs.negate.Goals as goal
use Rattle.numbers.proofs.negate.Invariants.{opposite}

pub loop-angle-preserved : goal.loop-angle-preserved
loop-angle-preserved c = let l = c.loop-angle in
    let row = c.args.row.now in
    let r = c.wrapping_neg in
    let e = subtracted 0 (get_or l.row l.angle-index 0) r.result r.type_inv (search rules) r.ensures ∙ ap (difference 0) (filled_at l.angle-index (opposite row) row l.row 0 l.invariant) in
    fill_again l.angle-index (opposite row) row l.row 0 r.result (omega arith) l.invariant e
