use Rattle.std.proofs.Common.{sym, subst, ap, refl, ◌∙◌}
use Rattle.circuit.specs.File.{gates_of}
use Rattle.circuit.specs.Working.{said_gates, AllSound}
use Rattle.circuit.proofs.Callers.{good_circuit}
use Rattle.circuit.proofs.Saying.{said_sound}
use Rattle.circuit.proofs.Walks.{walk_starts, walk_goes_on, walk_ends, next_sound, rest_sound}
use Rattle.running.specs.Working.{run_step}
use Rattle.running.proofs.Stepping.{run_stepped}
use Rattle.running.proofs.Loops.{run_ends}
use Rattle.running.proofs.runner.run_gates.Goals as goal

pub loop-gate-init : goal.loop-gate-init
loop-gate-init c =
    let i = c.args.circuit.now in
    let f = i.file.now in
    let e = ap (λ s. said_gates s.left.now) c.into_iter-gate-iterator.ensures.into_iter_gives ∙ c.gates-gate-items.ensures in
    (walk_starts run_step (gates_of f) (c.args.start, 0) e, subst (AllSound 10) (sym e) (said_sound f i.bytes (good_circuit i.good)))

pub turn-phase-requires : goal.turn-phase-requires
turn-phase-requires c = next_sound 10 c.in-Some.ensures.steps c.loop-gate.invariant.1

pub step-state-requires : goal.step-state-requires
step-state-requires c = next_sound 10 c.in-Some.ensures.steps c.loop-gate.invariant.1

pub loop-gate-preserved : goal.loop-gate-preserved
loop-gate-preserved c =
    let gs = gates_of c.args.circuit.now.file.now in
    let e = c.in-Some.ensures.steps in (
      walk_goes_on run_step gs (c.args.start, 0) e (run_stepped c.in-Some.gate c.loop-gate.state c.loop-gate.phase c.turn-phase.result c.step-state.result _ c.turn-phase.ensures c.step-state.ensures refl) c.loop-gate.invariant.0,
      rest_sound 10 e c.loop-gate.invariant.1,
    )

pub returns : goal.returns
returns c = run_ends (gates_of c.args.circuit.now.file.now) c.args.start (walk_ends run_step (gates_of c.args.circuit.now.file.now) (c.args.start, 0) c.in-None.ensures.steps.0 c.loop-gate.invariant.0)
