use Rattle.std.proofs.Common.{sym, ◌∙◌, add-zero}
use Rattle.running.specs.Run.{free_turn, scores, cnots, score_by, inverters}
use Rattle.running.proofs.counter.counts_of.Goals as goal

pub returns-in-Cnot : goal.returns-in-Cnot
unfolding cnots score_by inverters
returns-in-Cnot c = rw c.in-Cnot.is c.own.ensures

pub returns-in-Phase : goal.returns-in-Phase
unfolding cnots score_by inverters
returns-in-Phase c = let e = c.own-in-Phase.ensures in
    rw c.in-Phase.is (e.0, e.1 ∙ c.scored.ensures ∙ sym (add-zero (scores free_turn c.in-Phase.angle)), e.2)

pub returns-in-Inverter : goal.returns-in-Inverter
unfolding cnots score_by inverters
returns-in-Inverter c = rw c.in-Inverter.is c.own-in-Inverter.ensures
