-- Where every check passes: each test fails, and the other way round.
use mathlib.Core.Path.{◌≡◌, refl}
use native.Mathlib.Omega.{arith}
use Prim.Native.Nat.{ℕ}
use mathlib.Core.Bool.{Bool, true, false, cond}
use mathlib.Core.List.{List, [], ◌∷◌}
use Rattle.refusal.specs.Checks.{holds, Check, passed, refused, outcome, Fails, AllFail}
use Rattle.refusal.proofs.Outcomes.{holds_false}
use Rattle.refusal.proofs.Given.{false_fails}

-- what callers of an operation know where it answers
pub passed_fail : (cs : List Check) → outcome cs ≡ passed → AllFail cs
unfolding outcome
passed_fail [] e = tt
passed_fail (c ∷ cs) e = by (holds c.when) refl e (passed_fail cs)
  where
    by : (b : Bool) → holds c.when ≡ b → cond b (refused c.gives) (outcome cs) ≡ passed → (outcome cs ≡ passed → AllFail cs) → Fails c.when × AllFail cs
    by true p q rest = let z : ◌≡◌ {A = ℕ} 0 1 = cc in absurd (omega arith)
    by false p q rest = (false_fails c.when p, rest q)

pub fail_passed : (cs : List Check) → AllFail cs → outcome cs ≡ passed
unfolding outcome
fail_passed [] h = refl
fail_passed (c ∷ cs) h = rw (holds_false c.when h.0) (fail_passed cs h.1)
