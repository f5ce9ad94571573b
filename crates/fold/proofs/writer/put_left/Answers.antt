use Rattle.std.proofs.Common.{arith}
use Rattle.fold.proofs.Writing.{goes, stays, four_left}
use Rattle.fold.proofs.writer.put_left.Goals as goal

pub returns-in-Some-clause-wrote : goal.returns-in-Some-clause-wrote
returns-in-Some-clause-wrote c = stays c.in-Some.is (c.put_gate.ensures.wrote (omega (arith, c.requires, four_left c.args.left c.in-Some.gate c.in-Some.is)))

pub returns-in_default-clause-wrote : goal.returns-in_default-clause-wrote
returns-in_default-clause-wrote c = goes c.in_default.is (omega (arith, c.requires))
