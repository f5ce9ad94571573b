use Rattle.std.proofs.Common.{◌≡◌}
use Rattle.numbers.proofs.Lists.{filled}
use Rattle.spectrum.proofs.Adding.{sum_of, difference_of}
use Rattle.spectrum.proofs.add_and_subtract.Given as goal

abbrev pub invariant-loop-i : goal.invariant-loop-i
invariant-loop-i l = record {
  front : l.front ≡ filled l.i (sum_of l.initial.front l.initial.back) l.initial.front;
  back : l.back ≡ filled l.i (difference_of l.initial.front l.initial.back) l.initial.back;
}
