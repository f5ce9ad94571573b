use Prim.Native.Nat.{suc, ◌^◌, ◌<◌}
use native.Mathlib.Omega.{arith}
use mathlib.Core.Path.{sym, ◌∙◌}
use lib.ListN.{get_or}
use Rattle.std.proofs.Common.{below_more, length-take-le, get_or-take}
use Rattle.numbers.proofs.Search.{unlike_least}
use Rattle.listing.proofs.Wrapping.{own_shifted}
use Rattle.listing.proofs.loose.lowest_loose.Goals as goal

pub returns-then-left-own : goal.returns-then-left-own
returns-then-left-own c =
    let l = c.loop-wire in
    let a = c.args in
    let lt : l.wire < a.wires = omega (arith, length-take-le a.wires a.held.now c.requires.0, c.loop-wire-test.true) in
    unlike_least (λ i. get_or a.held.now i 0) (λ i. 2 ^ suc i) a.wires l.wire
    (record { within = omega arith; before = l.invariant; there = λ h e. omega (arith, get_or-take a.wires a.held.now l.wire 0 lt, own_shifted l.wire (omega arith), c.if-left-own.true) })

pub loop-wire-preserved : goal.loop-wire-preserved
loop-wire-preserved c =
    let l = c.loop-wire in
    let a = c.args in
    let lt : l.wire < a.wires = omega (arith, length-take-le a.wires a.held.now c.requires.0, c.loop-wire-test.true) in
    below_more _ _ l.invariant (sym (get_or-take a.wires a.held.now l.wire 0 lt) ∙ c.if-left-own.false ∙ own_shifted l.wire (omega arith))

pub returns : goal.returns
returns c =
    let l = c.loop-wire in
    let a = c.args in
    let long = length-take-le a.wires a.held.now c.requires.0 in
    unlike_least (λ i. get_or a.held.now i 0) (λ i. 2 ^ suc i) a.wires a.wires
    (record { within = omega arith; before = λ k h. l.invariant k (omega (arith, long, c.loop-wire-test.false)); there = λ h. absurd (omega arith) })
