-- A lent slice that is too short for what is to stand at its front.
use Rattle.std.proofs.Common.{◌≡◌, ℕ, ◌<◌, List, length, sym, arith}
use Rattle.numbers.specs.Sums.{list}
use Rattle.numbers.proofs.Lists.{length-list}
use Rattle.circuit.specs.Bytes.{put_at}
use Rattle.circuit.proofs.Writing.{put_nothing}

pub nothing_put : (n : ℕ) (f : ℕ → ℕ) (before : List ℕ) → length before < n → before ≡ put_at (list n f) 0 before
nothing_put n f before h = sym (put_nothing (list n f) 0 before (omega (arith, length-list n f)))
