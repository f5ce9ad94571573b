use Prim.Native.Nat.{ℕ, ◌+◌, ◌*◌, ◌≤◌}
use native.Mathlib.Omega.{arith}
use mathlib.Core.Path.{◌≡◌, sym, ap}
use mathlib.Core.Bool.{Bool}
use mathlib.Core.List.{List}
use lib.Dec.{leb}
use lib.ListN.{length}
use borrow.Author.Tests.{le-leb}
use Rattle.circuit.specs.File.{count_of, gates_of}
use Rattle.circuit.proofs.Callers.{good_circuit}
use Rattle.listing.specs.Listing.{gate_lines, listing_of, listing_of_file}
use Rattle.listing.specs.Working.{longest_line}
use Rattle.listing.proofs.Lengths.{head_long, head_short, wrap_short, listing_length}
use Rattle.listing.proofs.Loops.{lines_fit}
use Rattle.listing.proofs.fits.Goals as goal
use Rattle.listing.proofs.fits.Goals.{After-wrap_length}

-- what the lengths of the header and of the h line, and those of the gates' lines, make; and that all are small
record Measured (wrapped : Bool) (f : List ℕ) (head wrap : ℕ) : Type 0 where
  whole : head + 2 * wrap + length (gate_lines (gates_of f)) ≡ length (listing_of_file wrapped f)
  front : head ≤ 48
  h_line : wrap ≤ 8
  rest : length (gate_lines (gates_of f)) ≤ longest_line * count_of f
  gates : count_of f ≤ 2048

measured : (c : After-wrap_length) → Measured c.args.wrapped c.args.circuit.now.file.now c.head_length.result c.wrap_length.result
measured c =
    let b = c.args.wrapped in
    let i = c.args.circuit.now in
    let f = i.file.now in
    let w = c.wires-wires.result in
    let good = good_circuit i.good in
    let few : w ≤ 10 = rw c.wires-wires.ensures good.few in
    record {
      whole = omega (arith, listing_length b w (gates_of f), head_long w, ap (λ (v : ℕ). length (listing_of b v (gates_of f))) c.wires-wires.ensures, c.head_length.ensures, c.wrap_length.ensures);
      front = omega (arith, head_short w few, head_long w, c.head_length.ensures);
      h_line = omega (arith, wrap_short b w few, c.wrap_length.ensures);
      rest = lines_fit f i.bytes good;
      gates = good.count;
    }

pub overflow_mul-frame : goal.overflow_mul-frame
overflow_mul-frame c =
    let m = measured (goal.at.overflow_mul-frame c).After-wrap_length in
    omega (arith, m.h_line)

pub overflow_add-frame : goal.overflow_add-frame
overflow_add-frame c =
    let m = measured (goal.at.overflow_add-frame c).After-wrap_length in
    omega (arith, m.front, m.h_line)

pub overflow_add-frame-2 : goal.overflow_add-frame-2
overflow_add-frame-2 c =
    let m = measured (goal.at.overflow_add-frame-2 c).After-wrap_length in
    omega (arith, m.front, m.h_line, m.gates, ap (◌* c.gate_count.result) c.longest_line.ensures, c.gate_count.ensures)

pub returns-then-frame-longest_line : goal.returns-then-frame-longest_line
returns-then-frame-longest_line c =
    let a = c.args in
    let m = measured (goal.at.returns-then-frame-longest_line c).After-wrap_length in
    sym (le-leb (length (listing_of_file a.wrapped a.circuit.now.file.now)) a.room (omega (arith, m.whole, m.rest, ap (◌* c.gate_count.result) c.longest_line.ensures, c.gate_count.ensures, c.if-frame-longest_line.true)))

pub overflow_add-result : goal.overflow_add-result
overflow_add-result c =
    let m = measured (goal.at.overflow_add-result c).After-wrap_length in
    omega (arith, c.lines_length.ensures, m.front, m.h_line, m.rest, m.gates)

pub returns : goal.returns
returns c =
    let a = c.args in
    let m = measured (goal.at.returns c).After-wrap_length in
    ap (λ (n : ℕ). leb n a.room) (omega (arith, m.whole, c.lines_length.ensures))
