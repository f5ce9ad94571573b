use Rattle.circuit.specs.File.{file_checks}
use Rattle.refusal.proofs.Passed.{fail_passed}
use Rattle.fold.proofs.Summing.{totals_summed}
use Rattle.fold.proofs.totals.totals_of.Goals as goal

pub returns : goal.returns
returns c =
    let i = c.args.circuit.now in
    totals_summed i.file.now c.own_held-held.result _ _ i.bytes (fail_passed (file_checks 0 i.file.now) i.good) c.own_held-held.ensures (rw c.requires at c.add_gates.ensures)
