-- A listing's lines, piece by piece: what is left of each from its start.
use Prim.Native.Nat.{ℕ, ◌+◌, ◌-◌, ◌≤◌}
use native.Mathlib.Nat.{zero-add}
use native.Mathlib.Omega.{arith}
use mathlib.Core.Path.{◌≡◌, refl, sym, ap, ◌∙◌}
use mathlib.Core.Bool.{Bool, true, false}
use mathlib.Core.List.{List, [], ◌++◌}
use lib.ListN.{length}
use Rattle.circuit.specs.declared.Gate.{Gate}
use Rattle.circuit.specs.declared.Gate.TheVariants.{Cnot, Phase, Inverter}
use Rattle.circuit.specs.File.{wires_of, gates_of}
use Rattle.listing.specs.Text.{numbered}
use Rattle.listing.specs.Words.{words}
use Rattle.listing.specs.Fractions.{Fraction, fraction_of}
use Rattle.listing.specs.Listing.{head_lines, wrap_line, cnot_line, phase_line, inverter_line, gate_line, gate_lines, listing_of, listing_of_file, refused_line}
use Rattle.circuit.proofs.Parts.{Left, all_left}

pub head_left : (w at : ℕ) (out : List ℕ) → at + length (head_lines w) ≤ length out
    → Left (head_lines w) at out (words.version ++ (words.include ++ (numbered words.register w ++ words.closing))) at out
unfolding head_lines
head_left w at out h = all_left at out refl h

pub wrap_left : (b : Bool) (w at : ℕ) (out : List ℕ) → b ≡ true → at + length (wrap_line b w) ≤ length out → Left (wrap_line b w) at out (numbered words.hadamard (w - 1) ++ words.closing) at out
unfolding wrap_line
wrap_left true w at out e h = all_left at out refl h
wrap_left false w at out e h = let z : ◌≡◌ {A = ℕ} 0 1 = cc in absurd (omega arith)

pub not_wrapped : (b : Bool) (w : ℕ) → b ≡ false → [] ≡ wrap_line b w
unfolding wrap_line
not_wrapped false w e = refl
not_wrapped true w e = let z : ◌≡◌ {A = ℕ} 0 1 = cc in absurd (omega arith)

module _ (at : ℕ) (out : List ℕ) where
  pub cnot_left : (c t : ℕ) → at + length (cnot_line c t) ≤ length out → Left (cnot_line c t) at out (numbered words.cnot c ++ (numbered words.target t ++ words.closing)) at out
  unfolding cnot_line
  cnot_left c t h = all_left at out refl h

  pub phase_left : (i : ℕ) (f : Fraction) → at + length (phase_line i f) ≤ length out
      → Left (phase_line i f) at out (numbered words.phase f.above ++ (numbered words.over f.below ++ (numbered words.wire i ++ words.closing))) at out
  unfolding phase_line
  phase_left i f h = all_left at out refl h

pub inverter_pieces : (i : ℕ) → numbered words.inverter i ++ words.closing ≡ inverter_line i
unfolding inverter_line
inverter_pieces i = refl

-- a gate's line is the one of its kind
module _ {g : Gate} where
  pub cnot_said : (c t : ℕ) → g ≡ Cnot c t → cnot_line c t ≡ gate_line g
  cnot_said c t e = sym (ap gate_line e)

  pub phase_said : (i a : ℕ) (f : Fraction) → g ≡ Phase i a → f ≡ fraction_of a → phase_line i f ≡ gate_line g
  phase_said i a f e q = ap (phase_line i) q ∙ sym (ap gate_line e)

  pub inverter_said : (i : ℕ) → g ≡ Inverter i → inverter_line i ≡ gate_line g
  inverter_said i e = sym (ap gate_line e)

pub listing_left : (b : Bool) (f : List ℕ) (w : ℕ) (out : List ℕ) → w ≡ wires_of f → length (listing_of_file b f) ≤ length out
    → Left (listing_of_file b f) 0 out (head_lines w ++ (wrap_line b w ++ (gate_lines (gates_of f) ++ wrap_line b w))) 0 out
unfolding listing_of
listing_left b f w out e h = rw e (all_left 0 out refl (rw (zero-add (length (listing_of_file b f))) h))

pub refused_left : (n : ℕ) (out : List ℕ) → length (refused_line n) ≤ length out → Left (refused_line n) 0 out (numbered words.refused n ++ words.newline) 0 out
unfolding refused_line
refused_left n out h = all_left 0 out refl (rw (zero-add (length (refused_line n))) h)
