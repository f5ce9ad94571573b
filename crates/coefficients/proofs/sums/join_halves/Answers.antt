use Rattle.std.proofs.Common.{Bool, sym, ap, ◌∙◌}
use Rattle.coefficients.specs.Working.{joined}
use Rattle.coefficients.proofs.Adding.{joined_up, joined_down}
use Rattle.coefficients.proofs.sums.join_halves.Goals as goal

pub returns-then-up : goal.returns-then-up
returns-then-up c = let a = c.args in
    let s = c.split_at_mut-lower in
    joined_up a.half a.v.now c.requires s.result.0.now s.result.1.now s.ensures.front s.ensures.back _ c.add_row.ensures ∙ ap (λ (b : Bool). joined b a.half a.v.now) (sym c.if-up.true)

pub returns-else-up : goal.returns-else-up
returns-else-up c = let a = c.args in
    let s = c.split_at_mut-lower in
    joined_down a.half a.v.now c.requires s.result.0.now s.result.1.now s.ensures.front s.ensures.back _ c.add_row-else-up.ensures ∙ ap (λ (b : Bool). joined b a.half a.v.now) (sym c.if-up.false)
