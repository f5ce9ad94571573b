use mathlib.Core.Path.{◌≡◌, ap, ◌∙◌}
use Rattle.circuit.specs.File.{wires_of, gates_of}
use Rattle.circuit.proofs.Callers.{good_circuit}
use Rattle.running.specs.Masks.{most_wires}
use Rattle.running.specs.Working.{own_numbers, numbers_from}
use Rattle.listing.proofs.Wrapping.{plain_asked, wrapped_asked, lowest_asked}
use Rattle.listing.proofs.loose.is_loose.Goals as goal

pub returns-then-not-wrapped : goal.returns-then-not-wrapped
returns-then-not-wrapped c = let f = c.args.circuit.now.file.now in plain_asked (wires_of f) (gates_of f) c.args.wrapped c.if-not-wrapped.true

pub returns : goal.returns
returns c =
    let f = c.args.circuit.now.file.now in
    let w = c.wires-wires.ensures in
    let held : c.pass_all.new.held ≡ numbers_from (gates_of f) (own_numbers most_wires) = c.pass_all.ensures ∙ ap (numbers_from (gates_of f)) c.own_held-held.ensures in
    wrapped_asked (wires_of f) (gates_of f) c.args.wrapped c.if-not-wrapped.false c.lowest_loose.result c.wires-wires.result
    (lowest_asked f c.args.circuit.now.bytes (good_circuit c.args.circuit.now.good) c.pass_all.new.held held c.lowest_loose.result c.wires-wires.result w c.lowest_loose.ensures) w
