-- Of a table that is written as hexadecimal digits the first 33 bytes are put into its room.
use Prim.Native.Nat.{ℕ, ◌/◌, min}
use native.Mathlib.Omega.{arith}
use mathlib.Core.Path.{◌≡◌, refl, sym, ap, ◌∙◌}
use mathlib.Core.Bool.{Bool, true, false}
use mathlib.Core.List.{List, ◌++◌}
use lib.Dec.{leb}
use lib.ListN.{length, take, drop}
use lib.Seq.{length-take-le, take_all, take_at}
use borrow.Author.Tests.{leb-true, leb-false}
use Rattle.numbers.proofs.Lists.{length-list}
use Rattle.command.specs.Digits.{byte_at, bytes_of}

-- the bytes of hexadecimal digits that were put at the front of a room for 33
pub digits_cut : (s lent : List ℕ) (r : ℕ) → r ≡ min (length s / 2) 33 → take r (take r (bytes_of s) ++ drop r lent) ≡ take 33 (bytes_of s)
digits_cut s lent r e =
    let l = length-list (length s / 2) (byte_at s) in
    take_at (take r (bytes_of s)) (drop r lent) r (length-take-le r (bytes_of s) (omega arith)) ∙ by (leb (length s / 2) 33) refl
  where
    by : (t : Bool) → leb (length s / 2) 33 ≡ t → take r (bytes_of s) ≡ take 33 (bytes_of s)
    by true h =
        let l = length-list (length s / 2) (byte_at s) in
        let k = leb-true (length s / 2) 33 h in
        take_all r (bytes_of s) (omega arith) ∙ sym (take_all 33 (bytes_of s) (omega arith))
    by false h =
        let k = leb-false (length s / 2) 33 h in
        let z : r ≡ 33 = omega arith in
        ap (λ n. take n (bytes_of s)) z
