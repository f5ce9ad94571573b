use Rattle.std.proofs.Common.{ap, ◌∙◌}
use Rattle.circuit.specs.File.{gates_of}
use Rattle.circuit.proofs.Callers.{circuit_passes}
use Rattle.running.specs.Run.{counted}
use Rattle.running.proofs.Answers.{counted_gates}
use Rattle.running.proofs.counter.count.Goals as goal

pub returns : goal.returns
returns c =
    let i = c.in_ok-read in
    counted_gates c.args.file.now c.count_gates.result (circuit_passes i.ensures i.field-0.good) (c.count_gates.ensures ∙ ap (λ f. counted (gates_of f)) i.ensures)
