use Rattle.std.proofs.Common.{length, arith}
use Rattle.cancel.proofs.Passing.{twin_met}
use Rattle.cancel.proofs.pass.goes.Goals as goal

pub returns : goal.returns
returns c =
    let a = c.args in
    let last = c.good_gate in
    let next = c.good_gate-2 in
    twin_met a.file.now a.kept.now (length a.kept.now) a.i a.pairs a.most (omega arith) (omega arith) last.result next.result c.are_twins.result last.ensures next.ensures c.are_twins.ensures
