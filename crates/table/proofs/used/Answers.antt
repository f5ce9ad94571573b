use Prim.Native.Nat.{ℕ, ◌^◌, ◌≤◌, min}
use mathlib.Core.Path.{◌≡◌, ap}
use native.Mathlib.Omega.{arith}
use lib.Pow.{pow_mono}
use Rattle.std.proofs.Common.{◌≡◌, ◌^◌, ◌≤◌, min, ℕ}
use Rattle.table.proofs.used.Goals as goal

full : ℕ → ℕ
full n = 2 ^ min (2 ^ n) 8

pub returns-in_default : goal.returns-in_default
returns-in_default c = let n = c.args.n in
    let h : 2 ^ 3 ≤ 2 ^ n = pow_mono {i = 3} {j = n} (omega arith) in
    ap (λ (k : ℕ). 2 ^ k) (let e : 8 ≡ min (2 ^ n) 8 = omega arith in e)
