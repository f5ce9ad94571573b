use Rattle.circuit.proofs.Callers.{good_file}
use Rattle.refusal.proofs.Passed.{fail_passed}
use Rattle.circuit.specs.File.{file_checks}
use Rattle.circuit.proofs.Saying.{rest_said}
use Rattle.circuit.proofs.file.Circuit.gates.Goals as goal

pub returns : goal.returns
returns c =
    let f = c.args.self.now.file.now in
    rest_said f c.args.self.now.bytes (good_file 0 f (fail_passed (file_checks 0 f) c.args.self.now.good))
