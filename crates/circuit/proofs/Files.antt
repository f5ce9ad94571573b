-- A file and its gate list are each other's.
use Prim.Native.Nat.{ℕ, suc, ◌+◌, ◌-◌, ◌*◌, ◌/◌, ◌%◌, ◌<◌, ◌≤◌}
use native.Mathlib.Nat.{zero-add, add-zero}
use native.Mathlib.Numerals.{add-one}
use native.Mathlib.Omega.{arith}
use mathlib.Core.Bool.{true, false}
use mathlib.Core.Path.{◌≡◌, refl, sym, ap, ap₂, subst, subst₂, ◌∙◌}
use mathlib.Core.List.{List, [], ◌∷◌}
use lib.ListN.{length, get_or, drop, length-drop, drop_of_length-le}
use lib.Seq.{drop-drop, get_or-drop}
use borrow.Author.Tests.{le-leb, lt-leb}
use Rattle.refusal.specs.Checks.{passed, outcome}
use Rattle.circuit.specs.declared.Gate.{Gate}
use Rattle.circuit.specs.declared.Gate.TheVariants.{Phase}
use Rattle.std.specs.Prelude.{Err}
use Rattle.refusal.specs.declared.Reason.TheVariants.{Kind}
use Rattle.circuit.specs.Gates.{Decoded, gate_said, good, decoded, decoded_at, gate_bytes, bytes_of, gates_from, first_bad}
use Rattle.circuit.specs.Working.{bad, four_at, said_at, Sound, AllSound, AllAdmitted}
use Rattle.circuit.specs.File.{version_of, wires_of, count_of, gates_of, gate_at, file_checks, file_of}
use Rattle.circuit.specs.Bytes.{Bytes}
use Rattle.circuit.proofs.Callers.{GoodFile, file_passes}
use Rattle.circuit.proofs.Decoding.{first_bad_lem, first_good, bytes_drop, Listed, listed, gate_at_lem, bytes_said, is_bad, is_good, front, first_written, gates_written, length-bytes}

-- four bytes at i: what the decoder makes of them, and what they say, where they lie in the file and where they do not
module _ (f : List ℕ) (i : ℕ) where
  dropped : (v : ℕ) → decoded_at v (wires_of f) i (drop (8 + 4 * i) f)
      ≡ decoded v (wires_of f) i (get_or f (8 + 4 * i) 0) (get_or f (8 + 4 * i + 1) 0) (get_or f (8 + 4 * i + 2) 0) (get_or f (8 + 4 * i + 3) 0)
  dropped v = let at = 8 + 4 * i in rw (get_or-drop at f 0 0, get_or-drop at f 1 0, get_or-drop at f 2 0, get_or-drop at f 3 0, add-zero at)

  module _ (v : ℕ) (o : v ≡ version_of f) (b : List ℕ) (e : b ≡ four_at f i) (h : 12 + 4 * i ≤ length f) where
    pub four_decoded : (r : Decoded) → r ≡ decoded v (get_or f 5 0) i (get_or b 0 0) (get_or b 1 0) (get_or b 2 0) (get_or b 3 0) → r ≡ gate_at f i
    four_decoded r p = p ∙ rw (o, e, le-leb (12 + 4 * i) (length f) h) (sym (dropped (version_of f)))

  module _ (b : List ℕ) (e : b ≡ four_at f i) (h : 12 + 4 * i ≤ length f) where
    pub four_said : (g : Gate) → g ≡ gate_said (get_or b 0 0) (get_or b 1 0) (get_or b 2 0) (get_or b 3 0) → g ≡ said_at f i
    four_said g p = p ∙ rw (e, le-leb (12 + 4 * i) (length f) h)

  pub gate_outside : length f < 12 + 4 * i → gate_at f i ≡ Err Kind
  gate_outside h = rw (lt-leb (12 + 4 * i) (length f) h)

  pub said_outside : length f < 12 + 4 * i → said_at f i ≡ Phase 0 0
  said_outside h = rw (lt-leb (12 + 4 * i) (length f) h)

-- the search for the first bad gate, from position i on
module _ (f : List ℕ) (v n i : ℕ) (k : i < n) (b : List ℕ) (e : b ≡ four_at f i) where
  four_here : decoded_at v (wires_of f) i (drop (8 + 4 * i) f) ≡ decoded v (wires_of f) i (get_or b 0 0) (get_or b 1 0) (get_or b 2 0) (get_or b 3 0)
  four_here = rw e (dropped f i v)

  more : n - i ≡ suc (n - suc i)
  more = omega arith

  pub search_stops : bad v (wires_of f) (get_or b 0 0) (get_or b 1 0) (get_or b 2 0) (get_or b 3 0) ≡ true → first_bad v (wires_of f) (n - i) i (drop (8 + 4 * i) f) ≡ i
  search_stops x =
      let r = is_bad v (wires_of f) i (get_or b 0 0) (get_or b 1 0) (get_or b 2 0) (get_or b 3 0) x in
      ap (λ (m : ℕ). first_bad v (wires_of f) m i (drop (8 + 4 * i) f)) more ∙ first_bad_lem v (wires_of f) (n - suc i) i (drop (8 + 4 * i) f) r.0 (four_here ∙ r.1)

  pub search_goes_on : bad v (wires_of f) (get_or b 0 0) (get_or b 1 0) (get_or b 2 0) (get_or b 3 0) ≡ false
      → first_bad v (wires_of f) (n - i) i (drop (8 + 4 * i) f) ≡ first_bad v (wires_of f) (n - (i + 1)) (i + 1) (drop (8 + 4 * (i + 1)) f)
  search_goes_on x =
      let at : 8 + 4 * i + 4 ≡ 8 + 4 * suc i = omega arith in
      let g = gate_said (get_or b 0 0) (get_or b 1 0) (get_or b 2 0) (get_or b 3 0) in
      ap (λ (m : ℕ). first_bad v (wires_of f) m i (drop (8 + 4 * i) f)) more
      ∙ first_good v (wires_of f) (n - suc i) i (drop (8 + 4 * i) f) (record { position = i; gate = g }) (four_here ∙ is_good v (wires_of f) i (get_or b 0 0) (get_or b 1 0) (get_or b 2 0) (get_or b 3 0) x)
      ∙ rw (drop-drop 4 (8 + 4 * i) f, at, add-one i)

pub search_done : (f : List ℕ) (v n i : ℕ) → i ≡ n → i ≡ first_bad v (wires_of f) (n - i) i (drop (8 + 4 * i) f)
unfolding first_bad
search_done f v n i e = let z : n - i ≡ 0 = omega arith in rw z

module _ (v w : ℕ) (gs : List Gate) where
  pub version_written : version_of (file_of v w gs) ≡ v
  unfolding file_of
  version_written = omega arith

  pub wires_written : wires_of (file_of v w gs) ≡ w
  unfolding file_of
  wires_written = refl

  pub count_written : count_of (file_of v w gs) ≡ length gs
  unfolding file_of
  count_written = omega arith

  pub rest_written : drop 8 (file_of v w gs) ≡ bytes_of gs
  unfolding file_of
  rest_written = refl

  pub length-file : length (file_of v w gs) ≡ 8 + 4 * length gs
  unfolding file_of
  length-file = let e = length-bytes gs in omega arith

  module _ (h : AllSound w gs) (a : AllAdmitted v gs) where
    -- a gate list written to a file and read again is that list
    pub list_written : gates_of (file_of v w gs) ≡ gs
    list_written =
        ap₂ (λ (n : ℕ) (bs : List ℕ). gates_from (version_of (file_of v w gs)) (wires_of (file_of v w gs)) n 0 bs) count_written rest_written
        ∙ ap₂ (λ (x y : ℕ). gates_from x y (length gs) 0 (bytes_of gs)) version_written wires_written ∙ gates_written v w 0 gs h a

    pub written_passes : (s : ℕ) → 1 ≤ v → v ≤ 2 → 1 ≤ w → w ≤ 10 → length gs ≤ 2048 → outcome (file_checks s (file_of v w gs)) ≡ passed
    unfolding file_of
    written_passes s hv hv' hw hw' k =
        let l = length-file in
        let c = count_written in
        let d = version_written in
        let b : first_bad (version_of (file_of v w gs)) w (count_of (file_of v w gs)) 0 (bytes_of gs) ≡ length gs =
        ap₂ (λ (x n : ℕ). first_bad x w n 0 (bytes_of gs)) d c ∙ first_written v w 0 gs h a ∙ zero-add (length gs) in
        file_passes s (file_of v w gs) (record {
          long = omega arith;
          mark = refl;
          versioned = omega arith;
          known = omega arith;
          some = hw;
          few = hw';
          count = omega arith;
          whole = omega arith;
          gates = omega arith;
        })

module _ (f : List ℕ) (bytes : Bytes f) (h : GoodFile f) where
  file_listed : Listed (version_of f) (wires_of f) (count_of f) 0 (drop 8 f)
  file_listed = listed (version_of f) (wires_of f) (count_of f) 0 (drop 8 f) (bytes_drop 8 f bytes) (length-drop 8 f ∙ omega (arith, h.whole)) (omega (arith, h.gates))

  pub file_sound : AllSound (wires_of f) (gates_of f)
  file_sound = file_listed.sound

  pub file_admitted : AllAdmitted (version_of f) (gates_of f)
  file_admitted = file_listed.admitted

  pub length-gates : length (gates_of f) ≡ count_of f
  length-gates = file_listed.count

  -- a good file's bytes are those that its list writes
  pub file_written : f ≡ file_of (version_of f) (wires_of f) (gates_of f)
  unfolding file_of
  file_written =
      let n = length-gates in
      let e0 : get_or f 0 0 ≡ 0x50 = omega (arith, h.mark, bytes 1, bytes 2) in
      let e1 : get_or f 1 0 ≡ 0x48 = omega (arith, h.mark, bytes 1, bytes 2) in
      let e2 : get_or f 2 0 ≡ 0x47 = omega (arith, h.mark, bytes 1, bytes 2) in
      let e3 : get_or f 3 0 ≡ version_of f / 256 = omega (arith, bytes 4) in
      let e4 : get_or f 4 0 ≡ version_of f % 256 = omega (arith, bytes 4) in
      let e6 : get_or f 6 0 ≡ length (gates_of f) / 256 = omega (arith, bytes 7) in
      let e7 : get_or f 7 0 ≡ length (gates_of f) % 256 = omega (arith, bytes 7) in
      let e8 : bytes_of (gates_of f) ≡ drop 8 f = file_listed.bytes in
      front 8 f h.long ∙ cc

  -- the gate at each position below the count is good, and it is the list's
  pub gate_found : (i : ℕ) → i < count_of f → (g : Gate) × (gate_at f i ≡ good i g) × (drop i (gates_of f) ≡ g ∷ drop (suc i) (gates_of f)) × Sound (wires_of f) g
  gate_found i k =
      let d = gate_at_lem (version_of f) (wires_of f) (count_of f) 0 (drop 8 f) i (bytes_drop 8 f bytes) (omega (arith, h.gates)) k in
      let l : 12 + 4 * i ≤ length f = omega (arith, h.whole) in
      let e : gate_at f i ≡ good i d.0 =
      rw (le-leb (12 + 4 * i) (length f) l)
      (subst₂ (λ (p : ℕ) (bs : List ℕ). decoded_at (version_of f) (wires_of f) p bs ≡ good p d.0) (zero-add i) (drop-drop (4 * i) 8 f) d.1.answer) in
      (d.0, e, d.2, d.1.sound)

  -- the gate that the bytes at i say is the list's, and it is sound
  pub gate_said_lem : (i : ℕ) → i < count_of f → (drop i (gates_of f) ≡ said_at f i ∷ drop (suc i) (gates_of f)) × Sound (wires_of f) (said_at f i)
  gate_said_lem i k =
      let at = 8 + 4 * i in
      let d = gate_at_lem (version_of f) (wires_of f) (count_of f) 0 (drop 8 f) i (bytes_drop 8 f bytes) (omega (arith, h.gates)) k in
      let b = subst (λ (bs : List ℕ). gate_bytes d.0 ≡ get_or bs 0 0 ∷ get_or bs 1 0 ∷ get_or bs 2 0 ∷ get_or bs 3 0 ∷ []) (drop-drop (4 * i) 8 f) d.1.bytes in
      let e = bytes_said d.0 (get_or f at 0) (get_or f (at + 1) 0) (get_or f (at + 2) 0) (get_or f (at + 3) 0)
      (rw (get_or-drop at f 0 0, get_or-drop at f 1 0, get_or-drop at f 2 0, get_or-drop at f 3 0, add-zero at) at b) in
      let l : 12 + 4 * i ≤ length f = omega (arith, h.whole) in
      let s = four_said f i (four_at f i) refl l d.0 e in
      subst (λ (g : Gate). (drop i (gates_of f) ≡ g ∷ drop (suc i) (gates_of f)) × Sound (wires_of f) g) s (d.2, d.1.sound)

  -- at the count the list is at its end
  pub gates_end : (i : ℕ) → count_of f ≤ i → drop i (gates_of f) ≡ []
  gates_end i k = drop_of_length-le (gates_of f) {i = i} (omega (arith, length-gates))
