use mathlib.Core.Path.{◌≡◌}
use lib.ListN.{length}
use Rattle.circuit.specs.Working.{said_gates}
use Rattle.circuit.specs.File.{gates_of}
use Rattle.circuit.proofs.Walks.{Walk}
use Rattle.running.specs.Working.{numbers_after}
use Rattle.listing.proofs.loose.pass_all.Given as goal

abbrev pub invariant-loop-gate : goal.invariant-loop-gate
invariant-loop-gate l = Walk numbers_after (gates_of l.circuit.file.now) l.initial.held (said_gates l.gate-iterator.left.now) l.held × (length l.held ≡ length l.initial.held)
