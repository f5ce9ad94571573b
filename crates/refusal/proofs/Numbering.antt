-- The numbers of causes and reasons: none is 0, so that 0 can say that nothing is refused; and no two have one number.
use Rattle.std.specs.Prelude.{Option, Some, None}
use Prim.Native.Nat.{ℕ, ◌<◌}
use native.Mathlib.Omega.{arith}
use mathlib.Core.Path.{◌≡◌, refl, sym, ap, ◌∙◌}
use mathlib.Core.Bool.{cond}
use lib.Dec.{eqb}
use Rattle.refusal.specs.declared.Cause.{Cause}
use Rattle.refusal.specs.declared.Cause.TheVariants.{Vars, Table, Pad, Short, Mark, Version, Wires, Count, Length, Gate, State, Unlike, Room, Loose, Allow}
use Rattle.refusal.specs.declared.Reason.{Reason}
use Rattle.refusal.specs.declared.Reason.TheVariants.{Kind, Wire, Equal, Spare}
use Rattle.refusal.specs.Names.{number_of, reason_number, reason_said}

pub number_above : (c : Cause) → 0 < number_of c
number_above Vars = omega arith
number_above Table = omega arith
number_above Pad = omega arith
number_above Short = omega arith
number_above Mark = omega arith
number_above Version = omega arith
number_above Wires = omega arith
number_above Count = omega arith
number_above Length = omega arith
number_above Gate = omega arith
number_above State = omega arith
number_above Unlike = omega arith
number_above Room = omega arith
number_above Loose = omega arith
number_above Allow = omega arith

cause_numbered : ℕ → Cause
cause_numbered n =
    cond (eqb n 1) Vars
    (cond (eqb n 2) Table
    (cond (eqb n 3) Pad
    (cond (eqb n 4) Short
    (cond (eqb n 5) Mark
    (cond (eqb n 6) Version
    (cond (eqb n 7) Wires
    (cond (eqb n 8) Count
    (cond (eqb n 9) Length
    (cond (eqb n 10) Gate
    (cond (eqb n 11) State
    (cond (eqb n 12) Unlike
    (cond (eqb n 13) Room
    (cond (eqb n 17) Loose
    Allow)))))))))))))

cause_back : (c : Cause) → cause_numbered (number_of c) ≡ c
unfolding cause_numbered
cause_back Vars = refl
cause_back Table = refl
cause_back Pad = refl
cause_back Short = refl
cause_back Mark = refl
cause_back Version = refl
cause_back Wires = refl
cause_back Count = refl
cause_back Length = refl
cause_back Gate = refl
cause_back State = refl
cause_back Unlike = refl
cause_back Room = refl
cause_back Loose = refl
cause_back Allow = refl

pub one_cause : (c d : Cause) → number_of c ≡ number_of d → c ≡ d
one_cause c d e = sym (cause_back c) ∙ ap cause_numbered e ∙ cause_back d

reason_numbered : ℕ → Option Reason
reason_numbered n = cond (eqb n 0) None (cond (eqb n 1) (Some Kind) (cond (eqb n 2) (Some Wire) (cond (eqb n 3) (Some Equal) (Some Spare))))

reason_back : (x : Option Reason) → reason_numbered (reason_said x) ≡ x
unfolding reason_numbered
reason_back None = refl
reason_back (Some Kind) = refl
reason_back (Some Wire) = refl
reason_back (Some Equal) = refl
reason_back (Some Spare) = refl

pub one_reason : (x y : Option Reason) → reason_said x ≡ reason_said y → x ≡ y
one_reason x y e = sym (reason_back x) ∙ ap reason_numbered e ∙ reason_back y

pub one_number : (x y : Reason) → reason_number x ≡ reason_number y → x ≡ y
one_number x y e = cc (one_reason (Some x) (Some y) e)
