-- How long a listing's lines are.
use Prim.Native.Nat.{ℕ, ◌+◌, ◌*◌, ◌-◌, ◌≤◌}
use native.Mathlib.Nat.{mul-le-mul_left}
use native.Mathlib.Omega.{arith}
use mathlib.Core.Path.{◌≡◌, refl}
use mathlib.Core.Bool.{Bool, true, false}
use mathlib.Core.List.{List, [], ◌∷◌, ◌++◌}
use lib.ListN.{length, length-append}
use Rattle.circuit.specs.declared.Gate.{Gate}
use Rattle.circuit.specs.declared.Gate.TheVariants.{Cnot, Phase, Inverter}
use Rattle.circuit.specs.Working.{Sound, AllSound}
use Rattle.circuit.proofs.Decoding.{sound_wider}
use Rattle.listing.specs.Text.{decimal, numbered}
use Rattle.listing.specs.Words.{words}
use Rattle.listing.specs.Fractions.{Fraction, fraction_of}
use Rattle.listing.specs.Listing.{head_lines, wrap_line, cnot_line, phase_line, inverter_line, gate_line, gate_lines, listing_of, refused_line}
use Rattle.listing.specs.Working.{head_length, cnot_length, phase_length, inverter_length, longest_line}
use Rattle.listing.proofs.Decimals.{one_digit, two_digits, five_digits}
use Rattle.listing.proofs.Fractions.{denominator_most, fraction_equals}

pub head_long : (w : ℕ) → length (head_lines w) ≡ head_length w
unfolding head_lines
head_long w = omega (arith, length-append (decimal w) words.closing)

pub wrap_long : (w : ℕ) → length (wrap_line true w) ≡ length words.hadamard + length (decimal (w - 1)) + length words.closing
unfolding wrap_line
wrap_long w = omega (arith, length-append (decimal (w - 1)) words.closing)

pub no_wrap_long : (w : ℕ) → length (wrap_line false w) ≡ 0
unfolding wrap_line
no_wrap_long w = refl

pub cnot_long : (c t : ℕ) → length (cnot_line c t) ≡ cnot_length c t
unfolding cnot_line
cnot_long c t = omega (arith, length-append (decimal c) (numbered words.target t ++ words.closing), length-append (decimal t) words.closing)

pub phase_long : (i : ℕ) (f : Fraction) → length (phase_line i f) ≡ phase_length i f.above f.below
unfolding phase_line
phase_long i f =
    omega (arith, length-append (decimal f.above) (numbered words.over f.below ++ (numbered words.wire i ++ words.closing)), length-append (decimal f.below) (numbered words.wire i ++ words.closing), length-append (decimal i) words.closing)

pub inverter_long : (i : ℕ) → length (inverter_line i) ≡ inverter_length i
unfolding inverter_line
inverter_long i = omega (arith, length-append (decimal i) words.closing)

pub refused_long : (n : ℕ) → length (refused_line n) ≡ length words.refused + length (decimal n) + length words.newline
unfolding refused_line
refused_long n = omega (arith, length-append (decimal n) words.newline)

-- a header, an h line and a gate's line on at most 10 wires
pub head_short : (w : ℕ) → w ≤ 10 → length (head_lines w) ≤ 48
head_short w h = omega (arith, head_long w, two_digits w (omega arith))

pub wrap_short : (b : Bool) (w : ℕ) → w ≤ 10 → length (wrap_line b w) ≤ 8
wrap_short true w h = omega (arith, wrap_long w, one_digit (w - 1) (omega arith))
wrap_short false w h = omega (arith, no_wrap_long w)

line_short : (g : Gate) → Sound 10 g → length (gate_line g) ≤ longest_line
line_short (Cnot c t) s = omega (arith, cnot_long c t, one_digit c s.0, one_digit t s.1)
line_short (Phase i a) s =
    let f = fraction_of a in
    let m = denominator_most a in
    omega (
      arith,
      phase_long i f,
      five_digits f.above (omega (arith, fraction_equals a, mul-le-mul_left a m, s.1)),
      five_digits f.below (omega arith),
      one_digit i s.0,
    )
line_short (Inverter i) s = omega (arith, inverter_long i, one_digit i s)

pub lines_short : (w : ℕ) → w ≤ 10 → (gs : List Gate) → AllSound w gs → length (gate_lines gs) ≤ longest_line * length gs
unfolding AllSound gate_lines
lines_short w h [] s = omega arith
lines_short w h (g ∷ gs) s = omega (arith, length-append (gate_line g) (gate_lines gs), line_short g (sound_wider w 10 g h s.0), lines_short w h gs s.1)

pub listing_length : (b : Bool) (w : ℕ) (gs : List Gate) → length (listing_of b w gs) ≡ length (head_lines w) + 2 * length (wrap_line b w) + length (gate_lines gs)
unfolding listing_of
listing_length b w gs =
    omega (arith, length-append (head_lines w) (wrap_line b w ++ (gate_lines gs ++ wrap_line b w)), length-append (wrap_line b w) (gate_lines gs ++ wrap_line b w), length-append (gate_lines gs) (wrap_line b w))

-- how long a listing can be
pub listing_short : (b : Bool) (w : ℕ) (gs : List Gate) → w ≤ 10 → AllSound w gs → length (listing_of b w gs) ≤ 64 + 32 * length gs
listing_short b w gs h s = omega (arith, listing_length b w gs, head_short w h, wrap_short b w h, lines_short w h gs s)
