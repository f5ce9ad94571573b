use Rattle.std.proofs.Common.{length, refl, ap, ◌∙◌}
use Rattle.circuit.specs.File.{gates_of}
use Rattle.circuit.specs.Gates.{bytes_of}
use Rattle.circuit.specs.Working.{said_gates}
use Rattle.circuit.proofs.Callers.{good_circuit}
use Rattle.circuit.proofs.Parts.{wrote_same, room_same}
use Rattle.circuit.proofs.Walks.{writing_starts, writing_room, writing_goes_on, writing_ends}
use Rattle.running.specs.Working.{met}
use Rattle.running.proofs.Masks.{length-after}
use Rattle.fold.specs.Working.{fold_step, fold_put}
use Rattle.fold.proofs.Stepping.{fold_stepped, length_taken}
use Rattle.fold.proofs.Writing.{written_folded}
use Rattle.fold.proofs.writer.write_gates.Goals as goal

pub loop-gate-init : goal.loop-gate-init
loop-gate-init c =
    let i = c.args.circuit.now in
    let f = i.file.now in
    let held = c.own_held-held.result in
    let totals = c.args.totals.now in
    let e = written_folded f i.bytes (good_circuit i.good) held totals c.own_held-held.ensures c.requires.summed in
    let all = ap (λ s. said_gates s.left.now) c.into_iter-gate-iterator.ensures.into_iter_gives ∙ c.gates-gate-items.ensures in
    (writing_starts fold_step (gates_of f) (held, totals) fold_put c.args.writer.now.at c.args.writer.now.out.now all (room_same c.args.writer.now.at c.args.writer.now.out.now e c.requires.fits), refl, refl, refl)

pub put_left-requires : goal.put_left-requires
put_left-requires c =
    let at = c.loop-gate in
    room_same at.writer.at at.writer.out.now (ap bytes_of c.fold_gate-left.ensures.result_value)
    (writing_room fold_step (gates_of c.args.circuit.now.file.now) (c.own_held-held.result, c.args.totals.now) fold_put c.args.writer.now.at c.args.writer.now.out.now (at.held, at.totals) c.in-Some.ensures.steps at.invariant.0)

pub loop-gate-preserved : goal.loop-gate-preserved
loop-gate-preserved c =
    let at = c.loop-gate in
    let g = c.in-Some.gate in
    let held = c.fold_gate-left.new.held in
    let totals = c.fold_gate-left.new.totals in
    let e = c.fold_gate-left.ensures in (
      writing_goes_on fold_step (gates_of c.args.circuit.now.file.now) (c.own_held-held.result, c.args.totals.now) fold_put c.args.writer.now.at c.args.writer.now.out.now (at.held, at.totals) c.in-Some.ensures.steps at.invariant.0
          (fold_stepped g at.held at.totals held totals e.held_after e.totals_after) (wrote_same (ap bytes_of e.result_value) c.put_left.ensures.wrote),
      ap length e.held_after ∙ length-after g at.held ∙ at.invariant.1,
      ap length e.totals_after ∙ length_taken (met g at.held) at.totals ∙ at.invariant.2,
      c.put_left.ensures.same_reference ∙ at.invariant.3,
    )

pub returns-clause-wrote : goal.returns-clause-wrote
returns-clause-wrote c =
    let i = c.args.circuit.now in
    let f = i.file.now in
    let at = c.loop-gate in
    let held = c.own_held-held.result in
    let totals = c.args.totals.now in
    wrote_same (written_folded f i.bytes (good_circuit i.good) held totals c.own_held-held.ensures c.requires.summed)
    (writing_ends fold_step (gates_of f) (held, totals) fold_put c.args.writer.now.at c.args.writer.now.out.now (at.held, at.totals) c.in-None.ensures.steps.0 at.invariant.0)
