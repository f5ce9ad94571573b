-- 01, "Listing": the words between the numbers of a listing, which the length and the bytes both follow.
use Rattle.std.specs.Prelude.{ℕ, List}
use Rattle.listing.specs.Text.{ascii}

-- the words of a language of listings, and of the line that stands for one that is refused
pub record Words : Type 0 where
  -- the first two header lines, and what stands before W in the third
  pub version : List ℕ
  pub include : List ℕ
  pub register : List ℕ
  -- before the wire of a Hadamard
  pub hadamard : List ℕ
  -- before a CNOT's control, and between it and the target
  pub cnot : List ℕ
  pub target : List ℕ
  -- before a phase gate's K, between K and D, and between D and the wire
  pub phase : List ℕ
  pub over : List ℕ
  pub wire : List ℕ
  -- before the wire of an inverter
  pub inverter : List ℕ
  -- what ends a line that names a wire
  pub closing : List ℕ
  -- before the number of a refusal, and what ends that line
  pub refused : List ℕ
  pub newline : List ℕ

-- those of OpenQASM 2.0, "Lines end in one newline."; and of "`refused N` and a newline"
abbrev pub words : Words
words = record {
  version = ascii "OPENQASM 2.0;\n";
  include = ascii "include \"qelib1.inc\";\n";
  register = ascii "qreg q[";
  hadamard = ascii "h q[";
  cnot = ascii "cx q[";
  target = ascii "],q[";
  phase = ascii "u1(";
  over = ascii "*pi/";
  wire = ascii ") q[";
  inverter = ascii "x q[";
  closing = ascii "];\n";
  refused = ascii "refused ";
  newline = ascii "\n";
}
