use Prim.Native.Nat.{ℕ, ◌≤◌, ◌/◌, ◌^◌}
use mathlib.Core.Path.{◌≡◌, refl}
use mathlib.Core.Logic.{inl, inr}
use native.Mathlib.Omega.{arith}
use native.Mathlib.Nat.{div-eq_of_lt, le-div_iff_mul-le, one-mul}
use lib.Pow.{pow_pos}
use Rattle.refusal.proofs.Contracts.{refused_by, all_passed}
use Rattle.std.proofs.Common.{◌≡◌, ◌^◌, ◌≤◌, ℕ, ◌/◌}
use Rattle.table.proofs.check.Goals as goal

-- a first byte at or above what its used bits can hold has another bit, and one below has none
has-unused : (b k : ℕ) → 2 ^ k ≤ b → b / 2 ^ k ≡ 0 → ⊥
has-unused b k h e =
    let g : 1 ≤ b / 2 ^ k = (le-div_iff_mul-le {k = 2 ^ k} {x = 1} {y = b} (pow_pos k)).1 (rw one-mul h) in
    omega arith

pub returns-then-n-eq0 : goal.returns-then-n-eq0
returns-then-n-eq0 c = let zero : c.args.n ≡ 0 = omega arith in refused_by _ _ c.into.ensures (inl (zero, refl))

pub returns-then-n-gt8 : goal.returns-then-n-gt8
returns-then-n-gt8 c = refused_by _ _ c.into-then-n-gt8.ensures (inr (omega arith, inl (omega arith, refl)))

pub returns-then-table-bytes : goal.returns-then-table-bytes
returns-then-table-bytes c = refused_by _ _ c.into-then-table-bytes.ensures (inr (omega arith, inr (omega arith, inl (omega arith, refl))))

pub returns-then-used-first : goal.returns-then-used-first
returns-then-used-first c = refused_by _ _ c.into-then-used-first.ensures (inr (omega arith, inr (omega arith, inr (omega arith, inl (has-unused _ _ (omega arith), refl)))))

pub returns : goal.returns
returns c = all_passed _ refl (inr (omega arith, inr (omega arith, inr (omega arith, inr (div-eq_of_lt (omega arith), refl)))))
