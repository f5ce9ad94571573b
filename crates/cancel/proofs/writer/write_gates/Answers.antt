use Rattle.std.proofs.Common.{◌+◌, ◌*◌, length, ap, ◌∙◌, arith}
use Rattle.circuit.specs.Bytes.{put_at}
use Rattle.circuit.specs.Gates.{gate_bytes}
use Rattle.circuit.specs.declared.Gate.{Gate}
use Rattle.cancel.proofs.Writing.{write_starts, write_goes_on, write_ends}
use Rattle.cancel.proofs.writer.write_gates.Goals as goal

pub loop-i-init : goal.loop-i-init
loop-i-init c = write_starts c.args.file.now c.args.positions.now (length c.args.positions.now) c.args.out.now c.requires.fits

pub loop-i-preserved : goal.loop-i-preserved
loop-i-preserved c =
    let a = c.args in
    let at = c.loop-i in
    write_goes_on a.file.now a.positions.now (length a.positions.now) a.out.now at.i (omega arith) at.out c.put_gate.new.out at.invariant
    (c.put_gate.ensures ∙ ap (λ (g : Gate). put_at (gate_bytes g) (8 + 4 * at.i) at.out) c.good_gate-gate.ensures)

pub returns : goal.returns
returns c = write_ends c.args.file.now c.args.positions.now (length c.args.positions.now) c.args.out.now c.loop-i.i (omega arith) c.loop-i.out c.loop-i.invariant
