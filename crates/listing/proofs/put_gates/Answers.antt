use mathlib.Core.Path.{refl, ap, ◌∙◌}
use Rattle.circuit.specs.File.{gates_of}
use Rattle.circuit.specs.Working.{said_gates}
use Rattle.circuit.proofs.Parts.{wrote_same}
use Rattle.circuit.proofs.Walks.{writing_starts, writing_room, writing_goes_on, writing_ends}
use Rattle.listing.proofs.Loops.{stays, line, lines_written}
use Rattle.listing.proofs.put_gates.Goals as goal

pub loop-gate-init : goal.loop-gate-init
loop-gate-init c =
    let a = c.args in
    let gs = gates_of a.circuit.now.file.now in
    (writing_starts stays gs tt line a.writer.now.at a.writer.now.out.now (ap (λ s. said_gates s.left.now) c.into_iter-gate-iterator.ensures.into_iter_gives ∙ c.gates-gate-items.ensures) (rw (lines_written gs) c.requires), refl)

pub put_gate-requires : goal.put_gate-requires
put_gate-requires c = writing_room stays (gates_of c.args.circuit.now.file.now) tt line c.args.writer.now.at c.args.writer.now.out.now tt c.in-Some.ensures.steps c.loop-gate.invariant.0

pub loop-gate-preserved : goal.loop-gate-preserved
loop-gate-preserved c = (
  writing_goes_on stays (gates_of c.args.circuit.now.file.now) tt line c.args.writer.now.at c.args.writer.now.out.now tt c.in-Some.ensures.steps c.loop-gate.invariant.0 refl c.put_gate.ensures.wrote,
  c.put_gate.ensures.same_reference ∙ c.loop-gate.invariant.1,
)

pub returns-clause-wrote : goal.returns-clause-wrote
returns-clause-wrote c =
    let gs = gates_of c.args.circuit.now.file.now in
    wrote_same (lines_written gs) (writing_ends stays gs tt line c.args.writer.now.at c.args.writer.now.out.now tt c.in-None.ensures.steps.0 c.loop-gate.invariant.0)
