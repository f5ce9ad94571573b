use Rattle.std.proofs.Common.{sym, subst, ap, length, arith}
use Rattle.std.specs.Iterator.{YieldsFirst}
use Rattle.circuit.specs.Working.{said_gates}
use Rattle.circuit.proofs.Saying.{none_said, next_said}
use Rattle.circuit.proofs.gates.GatesIterator.next.Goals as goal

pub returns-in_err-four-clause-steps : goal.returns-in_err-four-clause-steps
returns-in_err-four-clause-steps c =
    let none = none_said c.args.self.now.left.now c.in_err-four.ensures.cases in
    subst (λ r. YieldsFirst (λ s. said_gates s.left.now) c.args.self.now r c.args.self.now) (sym c.from_residual.ensures) (none, none)

pub returns-clause-steps : goal.returns-clause-steps
returns-clause-steps c =
    let cut = c.in_ok-four.ensures.cases in
    next_said c.args.self.now.left.now c.in_ok-four.four.now c.in_ok-four.left.now c.gate_of.result cut.0 cut.1 (omega (arith, cut.2)) c.gate_of.ensures

pub returns-clause-goes : goal.returns-clause-goes
returns-clause-goes c =
    let cut = c.in_ok-four.ensures.cases in
    let e = next_said c.args.self.now.left.now c.in_ok-four.four.now c.in_ok-four.left.now c.gate_of.result cut.0 cut.1 (omega (arith, cut.2)) c.gate_of.ensures in
    record { on = λ f. (tt, tt, omega (arith, ap length e)); keeps = tt; rests = λ f. tt }
