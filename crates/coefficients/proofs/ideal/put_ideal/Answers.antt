use Rattle.coefficients.proofs.Turning.{turns_ideal}
use Rattle.coefficients.proofs.ideal.put_ideal.Goals as goal

pub returns : goal.returns
returns c = let a = c.args in
    turns_ideal a.table.now a.v.now c.put_turns.new.v c.gather.new.v c.put_turns.ensures c.gather.ensures
