use mathlib.Core.Path.{refl, sym, ◌∙◌}
use Rattle.circuit.proofs.Decoding.{bytes_one}
use Rattle.circuit.proofs.Parts.{wrote_same}
use Rattle.circuit.proofs.Writing.{four_stored, four_read}
use Rattle.circuit.proofs.place.Writer.put_gate.Goals as goal

pub returns-then-self-clause-wrote : goal.returns-then-self-clause-wrote
returns-then-self-clause-wrote c = λ h.
    wrote_same (four_read c.args.gate c.gate_bytes-bytes.result c.gate_bytes-bytes.ensures ∙ sym (bytes_one c.args.gate))
    (record { ends = refl; written = four_stored c.args.self.now.out.now c.args.self.now.at _ _ _ _ h })
