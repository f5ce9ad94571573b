-- Bytes put at a place of a slice: what stands there afterwards, and one write after another.
use Prim.Native.Nat.{ℕ, suc, ◌+◌, ◌/◌, ◌%◌, ◌<◌, ◌≤◌}
use native.Mathlib.Nat.{zero-add, add-zero}
use native.Mathlib.Numerals.{add-one, add-two, add-three}
use native.Mathlib.Omega.{arith}
use mathlib.Core.Path.{◌≡◌, sym, ap, ◌∙◌}
use mathlib.Core.List.{List, [], ◌∷◌, ◌++◌}
use lib.ListN.{length, get_or, take, drop, set, length-append}
use lib.Seq.{sets, sets-eq, length-sets}
use borrow.Author.Tests.{le-leb, lt-leb}
use Rattle.circuit.specs.declared.Gate.{Gate}
use Rattle.circuit.specs.declared.Gate.TheVariants.{Cnot, Phase, Inverter}
use Rattle.circuit.specs.Bytes.{put_at}
use Rattle.circuit.specs.Gates.{gate_bytes, bytes_of}
use Rattle.circuit.specs.File.{version_of, wires_of, header_bytes, file_of}
use Rattle.circuit.specs.Working.{header_of}

pub put_fits : (bs : List ℕ) (at : ℕ) (out : List ℕ) → at + length bs ≤ length out → put_at bs at out ≡ take at out ++ bs ++ drop (at + length bs) out
put_fits bs at out h = rw (le-leb (at + length bs) (length out) h)

-- nothing is written where not all fits
pub put_nothing : (bs : List ℕ) (at : ℕ) (out : List ℕ) → length out < at + length bs → put_at bs at out ≡ out
put_nothing bs at out h = rw (lt-leb (at + length bs) (length out) h)

-- at the front: the bytes, then what stood behind them
pub put_front : (bs out : List ℕ) → length bs ≤ length out → put_at bs 0 out ≡ bs ++ drop (length bs) out
put_front bs out h = put_fits bs 0 out (omega arith) ∙ ap (λ (n : ℕ). bs ++ drop n out) (zero-add (length bs))

pub put_sets : (bs : List ℕ) (at : ℕ) (out : List ℕ) → at + length bs ≤ length out → put_at bs at out ≡ sets out at bs
put_sets bs at out h = put_fits bs at out h ∙ sym (sets-eq bs out at h)

pub length-put : (bs : List ℕ) (at : ℕ) (out : List ℕ) → at + length bs ≤ length out → length (put_at bs at out) ≡ length out
length-put bs at out h = ap length (put_sets bs at out h) ∙ length-sets out at bs

sets_append : (bs cs out : List ℕ) (at : ℕ) → sets out at (bs ++ cs) ≡ sets (sets out at bs) (at + length bs) cs
sets_append [] cs out at = ap (λ (n : ℕ). sets out n cs) (sym (add-zero at))
sets_append (b ∷ bs) cs out at = sets_append bs cs (set out at b) (suc at) ∙ ap (λ (n : ℕ). sets (sets (set out at b) (suc at) bs) n cs) (omega arith)

-- one write, then another just behind it, are one write of both
pub put_put : (bs cs : List ℕ) (at : ℕ) (out : List ℕ) → at + length (bs ++ cs) ≤ length out → put_at cs (at + length bs) (put_at bs at out) ≡ put_at (bs ++ cs) at out
put_put bs cs at out h =
    let l : length (bs ++ cs) ≡ length bs + length cs = length-append bs cs in
    let k : length (put_at bs at out) ≡ length out = length-put bs at out (omega arith) in
    put_sets cs (at + length bs) (put_at bs at out) (omega arith)
    ∙ ap (λ (o : List ℕ). sets o (at + length bs) cs) (put_sets bs at out (omega arith))
    ∙ sym (sets_append bs cs out at) ∙ sym (put_sets (bs ++ cs) at out h)

-- four stores in a row
pub four_stored : (out : List ℕ) (at a b c d : ℕ) → at + 4 ≤ length out
    → set (set (set (set out at a) (at + 1) b) (at + 2) c) (at + 3) d ≡ put_at (a ∷ b ∷ c ∷ d ∷ []) at out
four_stored out at a b c d h = simp (add-one, add-two, add-three) (sym (put_sets (a ∷ b ∷ c ∷ d ∷ []) at out h))

-- a gate's bytes, read one by one
pub four_read : (g : Gate) (bs : List ℕ) → bs ≡ gate_bytes g → get_or bs 0 0 ∷ get_or bs 1 0 ∷ get_or bs 2 0 ∷ get_or bs 3 0 ∷ [] ≡ gate_bytes g
four_read (Cnot c t) bs e = rw e
four_read (Phase i a) bs e = rw e
four_read (Inverter i) bs e = rw e

-- the header in two fours
pub header_stored : (v w g : ℕ) (out half whole : List ℕ) → 8 ≤ length out → half ≡ put_at (0x50 ∷ 0x48 ∷ 0x47 ∷ v / 256 ∷ []) 0 out
    → whole ≡ put_at (v % 256 ∷ w ∷ g / 256 ∷ g % 256 ∷ []) 4 half → whole ≡ put_at (header_bytes v w g) 0 out
header_stored v w g out half whole h p q =
    q ∙ ap (put_at (v % 256 ∷ w ∷ g / 256 ∷ g % 256 ∷ []) 4) p ∙ put_put (0x50 ∷ 0x48 ∷ 0x47 ∷ v / 256 ∷ []) (v % 256 ∷ w ∷ g / 256 ∷ g % 256 ∷ []) 0 out h

-- a file's own header, with another gate count
module _ (f out : List ℕ) (g : ℕ) where
  pub header_of_lem : 8 ≤ length f → header_of f g ≡ header_bytes (version_of f) (wires_of f) g
  header_of_lem h = rw (le-leb 8 (length f) h)

  pub header_missing : length f < 8 → put_at (header_of f g) 0 out ≡ out
  header_missing h = rw (lt-leb 8 (length f) h) (put_front [] out (omega arith))

-- a header, then the gates behind it, are the file at the front
pub file_put : (v w : ℕ) (gs : List Gate) (before half after : List ℕ) → length (file_of v w gs) ≤ length before → half ≡ put_at (header_bytes v w (length gs)) 0 before
    → after ≡ put_at (bytes_of gs) 8 half → after ≡ file_of v w gs ++ drop (length (file_of v w gs)) before
unfolding file_of
file_put v w gs before half after fits p q =
    q ∙ ap (put_at (bytes_of gs) 8) p ∙ put_put (header_bytes v w (length gs)) (bytes_of gs) 0 before (omega arith) ∙ put_front (header_bytes v w (length gs) ++ bytes_of gs) before fits
