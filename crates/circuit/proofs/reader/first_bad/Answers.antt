use native.Mathlib.Omega.{arith}
use mathlib.Core.Path.{◌≡◌, sym, ◌∙◌}
use Rattle.circuit.proofs.Files.{search_stops, search_goes_on, search_done}
use Rattle.circuit.proofs.reader.first_bad.Goals as goal

pub returns-then-is_bad : goal.returns-then-is_bad
returns-then-is_bad c = let a = c.args in
    let four = c.four_at in
    sym (search_stops a.file.now a.version a.gates c.loop-i.i (omega arith) four.result four.ensures (sym c.is_bad.ensures ∙ c.if-is_bad.true)) ∙ c.loop-i.invariant

pub loop-i-preserved : goal.loop-i-preserved
loop-i-preserved c = let a = c.args in
    let four = c.four_at in
    (sym (search_goes_on a.file.now a.version a.gates c.loop-i.i (omega arith) four.result four.ensures (sym c.is_bad.ensures ∙ c.if-is_bad.false)) ∙ c.loop-i.invariant)

pub returns : goal.returns
returns c = let a = c.args in
    let done : c.loop-i.i ≡ a.gates = omega arith in
    sym done ∙ search_done a.file.now a.version a.gates c.loop-i.i done ∙ c.loop-i.invariant
