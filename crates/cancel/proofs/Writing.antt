-- The loop that writes: the rest of the kept gates, put behind what is written, is the whole.
use Prim.Native.Nat.{ℕ, suc, ◌+◌, ◌*◌, ◌<◌, ◌≤◌}
use native.Mathlib.Numerals.{add-one}
use native.Mathlib.Omega.{arith}
use mathlib.Core.Path.{◌≡◌, refl, sym, ap, subst, ◌∙◌}
use mathlib.Core.List.{List, [], ◌∷◌, ◌++◌}
use lib.ListN.{length, get_or, take, drop, drop_of_length-le}
use lib.Seq.{drop-cons, length-take-le, get_or-take}
use Rattle.numbers.proofs.Lists.{length-list, get_or-list, list_ext}
use Rattle.circuit.specs.declared.Gate.{Gate}
use Rattle.circuit.specs.declared.Gate.TheVariants.{Inverter}
use Rattle.circuit.specs.Bytes.{put_at}
use Rattle.circuit.specs.Gates.{gate_bytes, bytes_of}
use Rattle.circuit.specs.Working.{said_at}
use Rattle.circuit.proofs.Decoding.{bytes_one, bytes_cons, length-bytes}
use Rattle.circuit.proofs.Parts.{Left, all_left, less_left, none_left}
use Rattle.cancel.specs.Working.{gates_at}

bytes_none : bytes_of [] ≡ []
unfolding bytes_of
bytes_none = refl

-- the gates at the front of a row, as a row of their own
pub gates_front : (f row : List ℕ) (n : ℕ) → n ≤ length row → gates_at f (take n row) (length (take n row)) ≡ gates_at f row n
gates_front f row n h =
    ap (gates_at f (take n row)) (length-take-le n row h) ∙ list_ext n (λ j. said_at f (get_or (take n row) j 0)) (λ j. said_at f (get_or row j 0)) (λ j k. ap (said_at f) (get_or-take n row j 0 k))

module _ (f row : List ℕ) (kept : ℕ) (before : List ℕ) where
  abbrev all : List Gate
  all = gates_at f row kept

  -- what is still to be written at i
  abbrev pub ToWrite : ℕ → List ℕ → Type 0
  ToWrite i now = Left (bytes_of all) 8 before (bytes_of (drop i all)) (8 + 4 * i) now

  all_long : length all ≡ kept
  all_long = length-list kept (λ j. said_at f (get_or row j 0))

  pub write_starts : 8 + 4 * kept ≤ length before → ToWrite 0 before
  write_starts h = all_left 8 before refl (omega (arith, length-bytes all, all_long))

  pub write_goes_on : (i : ℕ) → i < kept → (now after : List ℕ) → ToWrite i now → after ≡ put_at (gate_bytes (said_at f (get_or row i 0))) (8 + 4 * i) now → ToWrite (i + 1) after
  write_goes_on i h now after l p =
      let g = said_at f (get_or row i 0) in
      let rest = drop (suc i) all in
      let next : drop i all ≡ g ∷ rest = drop-cons all i (Inverter 0) (omega (arith, all_long)) ∙ ap (◌∷ rest) (get_or-list kept (λ j. said_at f (get_or row j 0)) i (Inverter 0) h) in
      let four : length (gate_bytes g) ≡ 4 = ap length (sym (bytes_one g)) ∙ length-bytes (g ∷ []) in
      let parts : bytes_of (drop i all) ≡ gate_bytes g ++ bytes_of rest = ap bytes_of next ∙ bytes_cons g rest in
      rw (add-one i)
      (less_left (gate_bytes g) (bytes_of rest) (subst (λ (bs : List ℕ). Left (bytes_of all) 8 before bs (8 + 4 * i) now) parts l) (record { ends = omega arith; written = p }))

  pub write_ends : (i : ℕ) → kept ≤ i → (now : List ℕ) → ToWrite i now → now ≡ put_at (bytes_of all) 8 before
  write_ends i h now l = (none_left (ap bytes_of (drop_of_length-le all {i = i} (omega (arith, all_long))) ∙ bytes_none) l).written
