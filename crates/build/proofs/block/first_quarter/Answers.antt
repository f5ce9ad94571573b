use Rattle.std.proofs.Common.{rules}
use Rattle.circuit.specs.Gates.{bytes_of}
use Rattle.build.proofs.block.first_quarter.Goals as goal

pub put-requires : goal.put-requires
unfolding bytes_of
put-requires c = search rules
