use Rattle.std.proofs.Common.{length, refl, ap, ◌∙◌}
use Rattle.circuit.specs.File.{gates_of}
use Rattle.circuit.proofs.Walks.{walk_goes_on, walk_ends}
use Rattle.running.specs.Working.{met}
use Rattle.running.proofs.Masks.{length-after}
use Rattle.coefficients.specs.Working.{sign_step}
use Rattle.coefficients.proofs.Signing.{length-signed, sign_stepped}
use Rattle.coefficients.proofs.signs.add_gates.Goals as goal

pub loop-gate-preserved : goal.loop-gate-preserved
loop-gate-preserved c =
    let a = c.args in
    let l = c.loop-gate in
    let g = c.in-Some.gate in
    let held = c.add_gate-constant.new.held in
    let signed = c.add_gate-constant.new.signed in
    let e = c.add_gate-constant.ensures in (
      walk_goes_on sign_step (gates_of a.circuit.now.file.now) (a.held.now, a.signed.now, 0) c.in-Some.ensures.steps
          (sign_stepped g l.held l.signed l.constant held signed c.add_gate-constant.result _ (e.held_after, (e.signed_after, e.value)) refl) l.invariant.0,
      ap length e.held_after ∙ length-after g l.held ∙ l.invariant.1,
      ap length e.signed_after ∙ length-signed (met g l.held) l.signed ∙ l.invariant.2,
    )

pub returns : goal.returns
returns c = walk_ends sign_step (gates_of c.args.circuit.now.file.now) (c.args.held.now, c.args.signed.now, 0) c.in-None.ensures.steps.0 c.loop-gate.invariant.0
