use Rattle.std.proofs.Common.{◌≡◌, take}
use Rattle.numbers.proofs.Lists.{filled}
use Rattle.command.specs.Digits.{byte_at}
use Rattle.command.proofs.digits.put_bytes.Given as goal

abbrev pub invariant-loop-i : goal.invariant-loop-i
invariant-loop-i l = l.byte-items ≡ filled l.i (byte_at l.text) (take l.n l.fn.out)
