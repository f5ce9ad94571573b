use native.Mathlib.Omega.{arith}
use mathlib.Core.Path.{refl, ap}
use Rattle.std.specs.Prelude.{Err}
use mathlib.Core.Logic.{inl, inr}
use Rattle.refusal.specs.Names.{refusal_at, bad_gate, SHORT, MARK, VERSION, WIRES, COUNT, LENGTH}
use Rattle.circuit.specs.File.{wires_of, reason_at}
use Rattle.circuit.proofs.Checking.{refusing, answering, bad_gate_lem, no_bad_gate}
use Rattle.circuit.proofs.reader.read_side.Goals as goal

pub returns-then-file-lt8 : goal.returns-then-file-lt8
returns-then-file-lt8 c = let a = c.args in
    refusing a.side a.file.now (refusal_at SHORT a.side 0) _ (ap Err c.of_side.ensures)
    (inl (omega arith, refl))

pub returns-then-mark-ne5261383 : goal.returns-then-mark-ne5261383
returns-then-mark-ne5261383 c = let a = c.args in
    refusing a.side a.file.now (refusal_at MARK a.side 0) _ (ap Err c.of_side-then-mark-ne5261383.ensures)
    (inr (omega arith, (inl (omega arith, refl))))

pub returns-then-version-eq0 : goal.returns-then-version-eq0
returns-then-version-eq0 c = let a = c.args in
    refusing a.side a.file.now (refusal_at VERSION a.side 0) _ (ap Err c.of_side-then-version-eq0.ensures)
    (inr (omega arith, (inr (omega arith, (inl (omega arith, refl))))))

pub returns-then-version-gt2 : goal.returns-then-version-gt2
returns-then-version-gt2 c = let a = c.args in
    refusing a.side a.file.now (refusal_at VERSION a.side 0) _ (ap Err c.of_side-then-version-gt2.ensures)
    (inr (omega arith, (inr (omega arith, (inr (omega arith, (inl (omega arith, refl))))))))

pub returns-then-wires-eq0 : goal.returns-then-wires-eq0
returns-then-wires-eq0 c = let a = c.args in
    refusing a.side a.file.now (refusal_at WIRES a.side 0) _ (ap Err c.of_side-then-wires-eq0.ensures)
    (inr (omega arith, (inr (omega arith, (inr (omega arith, (inr (omega arith, (inl (omega arith, refl))))))))))

pub returns-then-wires-gt10 : goal.returns-then-wires-gt10
returns-then-wires-gt10 c = let a = c.args in
    refusing a.side a.file.now (refusal_at WIRES a.side 0) _ (ap Err c.of_side-then-wires-gt10.ensures)
    (inr (omega arith, (inr (omega arith, (inr (omega arith, (inr (omega arith, (inr (omega arith, (inl (omega arith, refl))))))))))))

pub returns-then-gates-gt2048 : goal.returns-then-gates-gt2048
returns-then-gates-gt2048 c = let a = c.args in
    refusing a.side a.file.now (refusal_at COUNT a.side 0) _ (ap Err c.of_side-then-gates-gt2048.ensures)
    (inr (omega arith, (inr (omega arith, (inr (omega arith, (inr (omega arith, (inr (omega arith, (inr (omega arith, (inl (omega arith, refl))))))))))))))

pub returns-then-file-gates : goal.returns-then-file-gates
returns-then-file-gates c = let a = c.args in
    refusing a.side a.file.now (refusal_at LENGTH a.side 0) _ (ap Err c.of_side-then-file-gates.ensures)
    (inr (omega arith, (inr (omega arith, (inr (omega arith, (inr (omega arith, (inr (omega arith, (inr (omega arith, (inr (omega arith, (inl (omega arith, refl))))))))))))))))

pub returns-then-bad-gates : goal.returns-then-bad-gates
returns-then-bad-gates c = let a = c.args in
    let v = c.sixteen_bits-version in
    let g = c.sixteen_bits-gates in
    let b = c.first_bad-bad in
    refusing a.side a.file.now (bad_gate a.side b.result (reason_at a.file.now b.result)) _ (ap Err c.bad_gate.ensures)
    (inr (omega arith, (inr (omega arith, (inr (omega arith, (inr (omega arith, (inr (omega arith, (inr (omega arith, (inr (omega arith, (inr (omega arith, (bad_gate_lem a.side a.file.now v.result g.result b.result v.ensures g.ensures b.ensures c.if-bad-gates.true)))))))))))))))))

pub returns : goal.returns
returns c = let a = c.args in
    let v = c.sixteen_bits-version in
    let g = c.sixteen_bits-gates in
    let b = c.first_bad-bad in
    answering a.side a.file.now (wires_of a.file.now) g.result refl g.ensures
    (inr (omega arith, (inr (omega arith, (inr (omega arith, (inr (omega arith, (inr (omega arith, (inr (omega arith, (inr (omega arith, (inr (omega arith, (no_bad_gate a.side a.file.now v.result g.result b.result v.ensures g.ensures b.ensures c.if-bad-gates.false)))))))))))))))))
