use Prim.Native.Nat.{◌+◌}
use native.Mathlib.Nat.{zero-add}
use native.Mathlib.Omega.{arith}
use mathlib.Core.Path.{ap, ◌∙◌}
use lib.ListN.{length}
use Rattle.circuit.specs.File.{gates_of}
use Rattle.circuit.specs.Working.{said_gates}
use Rattle.circuit.proofs.Callers.{GoodFile, good_circuit}
use Rattle.circuit.proofs.Walks.{Walk, walk_goes_on, walk_ends}
use Rattle.listing.specs.Listing.{gate_lines}
use Rattle.listing.proofs.Loops.{longer, longer_walked, part_fits}
use Rattle.listing.proofs.lines_length.Goals as goal

pub overflow_add-total : goal.overflow_add-total
overflow_add-total c =
    let l = c.loop-gate in
    let i = c.args.circuit.now in
    let f = i.file.now in
    let good : GoodFile f = good_circuit i.good in
    let total = l.total + c.line_length-total.result in
    let next : Walk longer (gates_of f) 0 (said_gates c.next.new.self.left.now) total = walk_goes_on longer (gates_of f) 0 c.in-Some.ensures.steps (ap (l.total +◌) c.line_length-total.ensures) l.invariant in
    omega (arith, part_fits f i.bytes good total _ next, good.count)

pub loop-gate-preserved : goal.loop-gate-preserved
loop-gate-preserved c = walk_goes_on longer (gates_of c.args.circuit.now.file.now) 0 c.in-Some.ensures.steps (ap (c.loop-gate.total +◌) c.line_length-total.ensures) c.loop-gate.invariant

pub returns : goal.returns
returns c =
    let gs = gates_of c.args.circuit.now.file.now in
    walk_ends longer gs 0 c.in-None.ensures.steps.0 c.loop-gate.invariant ∙ longer_walked gs 0 ∙ zero-add (length (gate_lines gs))
