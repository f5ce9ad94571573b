-- A file that is written from a sound list has bytes for entries.
use Prim.Native.Nat.{ℕ, zero, suc, ◌/◌, ◌%◌, ◌<◌, ◌≤◌}
use native.Mathlib.Omega.{arith}
use mathlib.Core.List.{List, [], ◌∷◌, ◌++◌}
use lib.ListN.{length}
use Rattle.circuit.specs.declared.Gate.{Gate}
use Rattle.circuit.specs.declared.Gate.TheVariants.{Cnot, Phase, Inverter}
use Rattle.circuit.specs.Working.{Sound, AllSound}
use Rattle.circuit.specs.Gates.{gate_bytes, bytes_of}
use Rattle.circuit.specs.File.{header_bytes, file_of}
use Rattle.circuit.specs.Bytes.{Bytes}

none : Bytes []
none i = omega arith

one_more : (b : ℕ) (bs : List ℕ) → b < 256 → Bytes bs → Bytes (b ∷ bs)
one_more b bs h k zero = h
one_more b bs h k (suc i) = k i

both : (xs ys : List ℕ) → Bytes xs → Bytes ys → Bytes (xs ++ ys)
both [] ys h k i = k i
both (x ∷ xs) ys h k zero = h zero
both (x ∷ xs) ys h k (suc i) = both xs ys (λ j. h (suc j)) k i

gate_bytes_lem : (w : ℕ) (g : Gate) → w ≤ 256 → Sound w g → Bytes (gate_bytes g)
gate_bytes_lem w (Cnot c t) h s =
    one_more 1 (c ∷ t ∷ 0 ∷ []) (omega arith) (one_more c (t ∷ 0 ∷ []) (omega (arith, s.0)) (one_more t (0 ∷ []) (omega (arith, s.1)) (one_more 0 [] (omega arith) none)))
gate_bytes_lem w (Phase i a) h s =
    one_more 2 (i ∷ a / 256 ∷ a % 256 ∷ []) (omega arith)
    (one_more i (a / 256 ∷ a % 256 ∷ []) (omega (arith, s.0)) (one_more (a / 256) (a % 256 ∷ []) (omega (arith, s.1)) (one_more (a % 256) [] (omega arith) none)))
gate_bytes_lem w (Inverter i) h s =
    one_more 3 (i ∷ 0 ∷ 0 ∷ []) (omega arith) (one_more i (0 ∷ 0 ∷ []) (omega (arith, s)) (one_more 0 (0 ∷ []) (omega arith) (one_more 0 [] (omega arith) none)))

list_bytes : (w : ℕ) (gs : List Gate) → w ≤ 256 → AllSound w gs → Bytes (bytes_of gs)
unfolding bytes_of AllSound
list_bytes w [] h s = none
list_bytes w (g ∷ gs) h s = both (gate_bytes g) (bytes_of gs) (gate_bytes_lem w g h s.0) (list_bytes w gs h s.1)

pub file_bytes : (v w : ℕ) (gs : List Gate) → v < 65536 → w < 256 → length gs < 65536 → AllSound w gs → Bytes (file_of v w gs)
unfolding file_of
file_bytes v w gs o h l s = both (header_bytes v w (length gs)) (bytes_of gs) header (list_bytes w gs (omega arith) s)
  where
    header : Bytes (header_bytes v w (length gs))
    header =
        one_more 0x50 (0x48 ∷ 0x47 ∷ v / 256 ∷ v % 256 ∷ w ∷ length gs / 256 ∷ length gs % 256 ∷ []) (omega arith)
        (one_more 0x48 (0x47 ∷ v / 256 ∷ v % 256 ∷ w ∷ length gs / 256 ∷ length gs % 256 ∷ []) (omega arith)
        (one_more 0x47 (v / 256 ∷ v % 256 ∷ w ∷ length gs / 256 ∷ length gs % 256 ∷ []) (omega arith)
        (one_more (v / 256) (v % 256 ∷ w ∷ length gs / 256 ∷ length gs % 256 ∷ []) (omega arith)
        (one_more (v % 256) (w ∷ length gs / 256 ∷ length gs % 256 ∷ []) (omega arith)
        (one_more w (length gs / 256 ∷ length gs % 256 ∷ []) h
        (one_more (length gs / 256) (length gs % 256 ∷ []) (omega arith) (one_more (length gs % 256) [] (omega arith) none)))))))
