use mathlib.Core.Path.{refl, ap, ◌∙◌}
use lib.ListN.{length}
use Rattle.circuit.specs.File.{gates_of}
use Rattle.circuit.proofs.Walks.{walk_goes_on, walk_ends}
use Rattle.running.specs.Working.{numbers_after}
use Rattle.running.proofs.Masks.{length-after}
use Rattle.running.proofs.Walks.{held_walked}
use Rattle.listing.proofs.loose.pass_all.Goals as goal

pub loop-gate-preserved : goal.loop-gate-preserved
loop-gate-preserved c = (
  walk_goes_on numbers_after (gates_of c.args.circuit.now.file.now) c.args.held.now c.in-Some.ensures.steps c.pass.ensures c.loop-gate.invariant.0,
  ap length c.pass.ensures ∙ length-after c.in-Some.gate c.loop-gate.held ∙ c.loop-gate.invariant.1,
)

pub returns : goal.returns
returns c =
    let gs = gates_of c.args.circuit.now.file.now in
    let held = c.args.held.now in
    walk_ends numbers_after gs held c.in-None.ensures.steps.0 c.loop-gate.invariant.0 ∙ held_walked numbers_after (λ ns. ns) (λ g ns. refl) gs held
