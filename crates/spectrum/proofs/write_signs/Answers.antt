use Prim.Native.Nat.{ℕ}
use mathlib.Core.Path.{ap, ◌∙◌}
use native.Mathlib.Omega.{arith}
use lib.IntN.{pos}
use Rattle.numbers.specs.Turn.{flip}
use Rattle.numbers.proofs.Lists.{fill_again}
use Rattle.spectrum.proofs.Words.{sign_stays}
use Rattle.table.specs.Table.{value_at}
use Rattle.std.proofs.Common.{ℕ, pos}
use Rattle.spectrum.proofs.write_signs.Goals as goal
use Rattle.spectrum.proofs.write_signs.Invariants.{sign_of}

pub loop-x-preserved : goal.loop-x-preserved
loop-x-preserved c = let l = c.loop-x in
    let a = c.args in
    let v = sign_stays (value_at a.table.now l.x) c.sign.result (c.sign.ensures ∙ ap (λ (m : ℕ). flip m (pos 1)) c.value.ensures) in
    fill_again l.x (sign_of a.table.now) a.out.now l.out (pos 0) _ (omega arith) l.invariant v
