use Rattle.std.proofs.Common.{◌≡◌, ◌≤◌, drop}
use Rattle.command.proofs.Scans.{number_from}
use Rattle.command.proofs.digits.decimal.Given as goal

abbrev pub invariant-loop-b : goal.invariant-loop-b
invariant-loop-b l = (l.value ≤ 65535) × (number_from l.value (drop l.b-index l.text) ≡ number_from 0 l.text)
