use Rattle.std.proofs.Common.{◌+◌, ◌≤◌, length, sym, ap, ◌∙◌, arith}
use Rattle.circuit.specs.File.{gates_of}
use Rattle.circuit.specs.Working.{said_gates}
use Rattle.circuit.proofs.Callers.{good_circuit}
use Rattle.circuit.proofs.Files.{length-gates}
use Rattle.circuit.proofs.Walks.{walk_starts, walk_goes_on, walk_ends}
use Rattle.running.specs.Working.{count_step}
use Rattle.running.proofs.Counts.{one_counted}
use Rattle.running.proofs.Loops.{count_fits, count_ends}
use Rattle.running.proofs.Stepping.{count_stepped}
use Rattle.running.proofs.counter.count_gates.Goals as goal
use Rattle.running.proofs.counter.count_gates.Goals.{After-counts_of-own}

-- the counts with the gate's own, and the gates that are left, are a file's gates at most
few : (c : After-counts_of-own)
    → c.loop-gate.cnots + c.counts_of-own.result.cnots + (c.loop-gate.score + c.counts_of-own.result.score) + (c.loop-gate.inverters + c.counts_of-own.result.inverters) + length (said_gates c.next.new.self.left.now) ≤ 2048
few c =
    let e = c.counts_of-own.ensures in
    omega (arith, c.loop-gate.invariant.1, ap length c.in-Some.ensures.steps, one_counted c.in-Some.gate, e.0, e.1, e.2)

pub loop-gate-init : goal.loop-gate-init
loop-gate-init c =
    let i = c.args.circuit.now in
    let f = i.file.now in
    let good = good_circuit {f = f} i.good in
    let e = ap (λ s. said_gates s.left.now) c.into_iter-gate-iterator.ensures.into_iter_gives ∙ c.gates-gate-items.ensures in
    (walk_starts count_step (gates_of f) (0, 0, 0) e, omega (arith, ap length e, length-gates f i.bytes good, good.count))

pub overflow_add-cnots : goal.overflow_add-cnots
overflow_add-cnots c = omega (arith, few (goal.at.overflow_add-cnots c).After-counts_of-own)

pub overflow_add-score : goal.overflow_add-score
overflow_add-score c = omega (arith, few (goal.at.overflow_add-score c).After-counts_of-own)

pub overflow_add-inverters : goal.overflow_add-inverters
overflow_add-inverters c = omega (arith, few (goal.at.overflow_add-inverters c).After-counts_of-own)

pub loop-gate-preserved : goal.loop-gate-preserved
loop-gate-preserved c =
    let at = c.loop-gate in
    let next = c.in-Some.ensures.steps in
    let r = c.counts_of-own.result in
    let e = c.counts_of-own.ensures in (
      walk_goes_on count_step (gates_of c.args.circuit.now.file.now) (0, 0, 0) next (count_stepped c.in-Some.gate at.cnots at.score at.inverters r.cnots r.score r.inverters e.0 e.1 e.2) at.invariant.0,
      omega (arith, few (goal.at.loop-gate-preserved c).After-counts_of-own),
    )

pub overflow_sub-phases : goal.overflow_sub-phases
overflow_sub-phases c =
    let i = c.args.circuit.now in
    let gs = gates_of i.file.now in
    omega (arith, count_fits gs (walk_ends count_step gs (0, 0, 0) c.in-None.ensures.steps.0 c.loop-gate.invariant.0), length-gates i.file.now i.bytes (good_circuit i.good), c.gate_count.ensures)

pub returns : goal.returns
returns c =
    let i = c.args.circuit.now in
    let gs = gates_of i.file.now in
    count_ends gs (c.gate_count.ensures ∙ sym (length-gates i.file.now i.bytes (good_circuit i.good))) (walk_ends count_step gs (0, 0, 0) c.in-None.ensures.steps.0 c.loop-gate.invariant.0)
