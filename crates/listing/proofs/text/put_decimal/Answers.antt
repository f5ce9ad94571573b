use Prim.Native.Nat.{ℕ, ◌+◌, ◌/◌, ◌%◌, ◌<◌, ◌≤◌}
use native.Mathlib.Omega.{arith}
use mathlib.Core.List.{List, ◌++◌}
use lib.ListN.{length}
use Rattle.circuit.specs.Working.{Wrote}
use Rattle.circuit.proofs.Parts.{Left, all_left, room, less_left, all_written}
use Rattle.listing.specs.Text.{digit, decimal}
use Rattle.listing.proofs.Decimals.{leading, decimal_digits}
use Rattle.listing.proofs.text.put_decimal.Goals as goal

-- the digits from a power of ten down
abbrev ones : ℕ → List ℕ
ones n = digit (n % 10)

abbrev tens : ℕ → List ℕ
tens n = leading (n / 10) ++ ones n

abbrev hundreds : ℕ → List ℕ
hundreds n = leading (n / 100) ++ tens n

abbrev thousands : ℕ → List ℕ
thousands n = leading (n / 1000) ++ hundreds n

abbrev myriads : ℕ → List ℕ
myriads n = leading (n / 10000) ++ thousands n

-- what is left of them as they are written
module _ (n at : ℕ) (out : List ℕ) (small : n < 100000) (h : at + length (decimal n) ≤ length out) where
  myriads_left : Left (decimal n) at out (myriads n) at out
  myriads_left = all_left at out (decimal_digits n small) h

  module _ {at1 : ℕ} {out1 : List ℕ} (first : Wrote (leading (n / 10000)) at out at1 out1) where
    thousands_left : Left (decimal n) at out (thousands n) at1 out1
    thousands_left = less_left (leading (n / 10000)) (thousands n) myriads_left first

    module _ {at2 : ℕ} {out2 : List ℕ} (second : Wrote (leading (n / 1000)) at1 out1 at2 out2) where
      hundreds_left : Left (decimal n) at out (hundreds n) at2 out2
      hundreds_left = less_left (leading (n / 1000)) (hundreds n) thousands_left second

      module _ {at3 : ℕ} {out3 : List ℕ} (third : Wrote (leading (n / 100)) at2 out2 at3 out3) where
        tens_left : Left (decimal n) at out (tens n) at3 out3
        tens_left = less_left (leading (n / 100)) (tens n) hundreds_left third

        ones_left : {at4 : ℕ} {out4 : List ℕ} → Wrote (leading (n / 10)) at3 out3 at4 out4 → Left (decimal n) at out (ones n) at4 out4
        ones_left = less_left (leading (n / 10)) (ones n) tens_left

pub put_leading-requires : goal.put_leading-requires
put_leading-requires c =
    let a = c.args in
    room (leading (a.n / 10000)) (thousands a.n) (myriads_left a.n a.writer.now.at a.writer.now.out.now (omega arith) c.requires)

pub put_leading-requires-2 : goal.put_leading-requires-2
put_leading-requires-2 c =
    let a = c.args in
    room (leading (a.n / 1000)) (hundreds a.n) (thousands_left a.n a.writer.now.at a.writer.now.out.now (omega arith) c.requires c.put_leading.ensures.wrote)

pub put_leading-requires-3 : goal.put_leading-requires-3
put_leading-requires-3 c =
    let a = c.args in
    room (leading (a.n / 100)) (tens a.n) (hundreds_left a.n a.writer.now.at a.writer.now.out.now (omega arith) c.requires c.put_leading.ensures.wrote c.put_leading-2.ensures.wrote)

pub put_leading-requires-4 : goal.put_leading-requires-4
put_leading-requires-4 c =
    let a = c.args in
    room (leading (a.n / 10)) (ones a.n) (tens_left a.n a.writer.now.at a.writer.now.out.now (omega arith) c.requires c.put_leading.ensures.wrote c.put_leading-2.ensures.wrote c.put_leading-3.ensures.wrote)

pub put_digit-requires : goal.put_digit-requires
put_digit-requires c =
    let a = c.args in
    (ones_left a.n a.writer.now.at a.writer.now.out.now (omega arith) c.requires c.put_leading.ensures.wrote c.put_leading-2.ensures.wrote c.put_leading-3.ensures.wrote c.put_leading-4.ensures.wrote).fits

pub returns-clause-wrote : goal.returns-clause-wrote
returns-clause-wrote c =
    let a = c.args in
    all_written (ones_left a.n a.writer.now.at a.writer.now.out.now (omega arith) c.requires c.put_leading.ensures.wrote c.put_leading-2.ensures.wrote c.put_leading-3.ensures.wrote c.put_leading-4.ensures.wrote) c.put_digit.ensures.wrote
