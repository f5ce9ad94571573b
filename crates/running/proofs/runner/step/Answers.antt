use Rattle.running.proofs.Stepping.{cnot_steps}
use Rattle.running.proofs.runner.step.Goals as goal

pub returns-in-Cnot : goal.returns-in-Cnot
returns-in-Cnot c = cnot_steps c.args.gate c.args.state c.bit_of.result c.requires c.in-Cnot.control c.in-Cnot.target c.in-Cnot.is c.bit_of.ensures
