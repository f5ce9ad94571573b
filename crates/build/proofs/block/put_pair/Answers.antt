use Rattle.std.proofs.Common.{ℕ, ◌+◌, ◌≤◌, length, List, [], ◌∷◌, arith}
use Rattle.circuit.specs.declared.Gate.TheVariants.{Cnot, Phase}
use Rattle.circuit.specs.Gates.{bytes_of}
use Rattle.circuit.proofs.Decoding.{bytes_append, length-bytes}
use Rattle.circuit.proofs.Parts.{Left, all_left, less_left, all_written}
use Rattle.circuit.specs.Working.{Wrote}
use Rattle.build.proofs.block.put_pair.Goals as goal

-- the phase is written
phase_done : (i angle control at : ℕ) (out : List ℕ) → at + length (bytes_of (Phase i angle ∷ Cnot control i ∷ [])) ≤ length out → (next : ℕ) (after : List ℕ)
    → Wrote (bytes_of (Phase i angle ∷ [])) at out next after → Left (bytes_of (Phase i angle ∷ Cnot control i ∷ [])) at out (bytes_of (Cnot control i ∷ [])) next after
phase_done i angle control at out fits next after wrote =
    let phase = Phase i angle ∷ [] in
    let cnot = Cnot control i ∷ [] in
    less_left (bytes_of phase) (bytes_of cnot) (all_left at out (bytes_append phase cnot) fits) wrote

pub put-requires : goal.put-requires
put-requires c = omega (arith, c.requires, length-bytes (Phase c.args.i c.args.angle ∷ Cnot c.args.control c.args.i ∷ []))

pub put-requires-2 : goal.put-requires-2
put-requires-2 c =
    let a = c.args in
    omega (arith, (phase_done a.i a.angle a.control a.writer.now.at a.writer.now.out.now c.requires _ _ c.put.ensures.wrote).fits, length-bytes (Cnot a.control a.i ∷ []))

pub returns-clause-wrote : goal.returns-clause-wrote
returns-clause-wrote c =
    let a = c.args in
    all_written (phase_done a.i a.angle a.control a.writer.now.at a.writer.now.out.now c.requires _ _ c.put.ensures.wrote) c.put-2.ensures.wrote
