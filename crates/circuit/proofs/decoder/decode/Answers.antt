use mathlib.Core.Path.{sym, ap, ◌∙◌}
use Rattle.circuit.specs.declared.Gate.{Gate}
use Rattle.circuit.specs.Gates.{good}
use Rattle.circuit.proofs.Decoding.{bad_kind_lem, bad_wire_lem, equal_wires_lem, bad_spare_lem, no_fault}
use Rattle.circuit.proofs.decoder.decode.Goals as goal

pub returns-then-bad_kind : goal.returns-then-bad_kind
returns-then-bad_kind c = let a = c.args in
    sym (bad_kind_lem a.version a.w a.position a.kind a.a a.b a.c (sym c.bad_kind.ensures ∙ c.if-bad_kind.true))

pub returns-then-bad_wire : goal.returns-then-bad_wire
returns-then-bad_wire c = let a = c.args in
    sym (bad_wire_lem a.version a.w a.position a.kind a.a a.b a.c ((sym c.bad_kind.ensures ∙ c.if-bad_kind.false)) (sym c.bad_wire.ensures ∙ c.if-bad_wire.true))

pub returns-then-equal_wires : goal.returns-then-equal_wires
returns-then-equal_wires c = let a = c.args in
    sym (equal_wires_lem a.version a.w a.position a.kind a.a a.b a.c ((sym c.bad_kind.ensures ∙ c.if-bad_kind.false)) ((sym c.bad_wire.ensures ∙ c.if-bad_wire.false)) (sym c.equal_wires.ensures ∙ c.if-equal_wires.true))

pub returns-then-bad_spare : goal.returns-then-bad_spare
returns-then-bad_spare c = let a = c.args in
    sym (bad_spare_lem a.version a.w a.position a.kind a.a a.b a.c ((sym c.bad_kind.ensures ∙ c.if-bad_kind.false)) ((sym c.bad_wire.ensures ∙ c.if-bad_wire.false)) ((sym c.equal_wires.ensures ∙ c.if-equal_wires.false)) (sym c.bad_spare.ensures ∙ c.if-bad_spare.true))

pub returns : goal.returns
returns c = let a = c.args in
    ap (λ (g : Gate). good a.position g) c.gate_of-gate.ensures
    ∙ sym (no_fault a.version a.w a.position a.kind a.a a.b a.c ((sym c.bad_kind.ensures ∙ c.if-bad_kind.false)) ((sym c.bad_wire.ensures ∙ c.if-bad_wire.false)) ((sym c.equal_wires.ensures ∙ c.if-equal_wires.false)) ((sym c.bad_spare.ensures ∙ c.if-bad_spare.false)))
