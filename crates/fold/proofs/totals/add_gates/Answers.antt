use Rattle.std.proofs.Common.{length, ap, ◌∙◌}
use Rattle.circuit.specs.File.{gates_of}
use Rattle.circuit.proofs.Walks.{walk_goes_on, walk_ends}
use Rattle.running.specs.Working.{met, sum_step}
use Rattle.running.proofs.Masks.{length-after}
use Rattle.fold.proofs.Summing.{length-added, sum_stepped}
use Rattle.fold.proofs.totals.add_gates.Goals as goal

pub loop-gate-preserved : goal.loop-gate-preserved
loop-gate-preserved c =
    let a = c.args in
    let at = c.loop-gate in
    let g = c.in-Some.gate in
    let held = c.add_gate.new.held in
    let totals = c.add_gate.new.totals in
    let e = c.add_gate.ensures in (
      walk_goes_on sum_step (gates_of a.circuit.now.file.now) (a.held.now, a.totals.now) c.in-Some.ensures.steps (sum_stepped g at.held at.totals held totals e.held_after e.totals_after) at.invariant.0,
      ap length e.held_after ∙ length-after g at.held ∙ at.invariant.1,
      ap length e.totals_after ∙ length-added (met g at.held) at.totals ∙ at.invariant.2,
    )

pub returns : goal.returns
returns c = walk_ends sum_step (gates_of c.args.circuit.now.file.now) (c.args.held.now, c.args.totals.now) c.in-None.ensures.steps.0 c.loop-gate.invariant.0
