use Rattle.std.proofs.Common.{arith}
use Rattle.build.proofs.Gray.{turning}
use Rattle.build.proofs.block.turned.Goals as goal

pub returns-then-zeros-i : goal.returns-then-zeros-i
returns-then-zeros-i c = (turning c.args.i c.args.k (omega arith) c.requires.k_bound).other c.if-zeros-i.true

pub returns-else-zeros-i : goal.returns-else-zeros-i
returns-else-zeros-i c = (turning c.args.i c.args.k (omega arith) c.requires.k_bound).last c.if-zeros-i.false
