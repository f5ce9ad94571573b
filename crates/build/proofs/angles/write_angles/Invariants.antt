use Rattle.std.proofs.Common.{◌≡◌, ℕ, List, get_or, ℤ, pos}
use Rattle.numbers.proofs.Lists.{filled}
use Rattle.spectrum.specs.Spectrum.{angle}
use Rattle.build.proofs.angles.write_angles.Given as goal

abbrev pub angleOf : ℕ → List ℤ → ℕ → ℕ
angleOf n s k = angle n (get_or s k (pos 0))

abbrev pub invariant-loop-k : goal.invariant-loop-k
invariant-loop-k l = l.out ≡ filled l.k (angleOf l.n l.coefficients) l.initial.out
