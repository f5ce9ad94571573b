-- The decoder and the writer of a gate are inverse; the gates of a row of bytes, and the bytes of a row of gates.
use Prim.Native.Nat.{ℕ, zero, suc, ◌+◌, ◌*◌, ◌/◌, ◌%◌, ◌<◌, ◌≤◌}
use native.Mathlib.Nat.{add-zero, add-suc, suc-add}
use native.Mathlib.Decide.{dec_lt, ℕ_discrete}
use native.Mathlib.Omega.{arith}
use mathlib.Core.Bool.{Bool, true, false, not, ◌||◌, cond}
use mathlib.Core.Path.{◌≡◌, refl, sym, ap, ap₂, subst, subst₂, ◌∙◌}
use mathlib.Core.Logic.{◌⊎◌, inl, inr}
use mathlib.Core.List.{List, [], ◌∷◌, ◌++◌, append-nil, append_assoc}
use lib.Dec.{leb, eqb}
use lib.ListN.{length, get_or, drop, length-drop}
use lib.Seq.{drop-drop, get_or-drop}
use borrow.Author.Tests.{le-leb, lt-leb, eq-eqb, ne_eqb}
use Rattle.numbers.specs.Sums.{list}
use Rattle.circuit.specs.declared.Gate.{Gate}
use Rattle.circuit.specs.declared.Gate.TheVariants.{Cnot, Phase, Inverter}
use Rattle.circuit.specs.declared.Placed.{Placed}
use Rattle.refusal.specs.declared.Reason.{Reason}
use Rattle.refusal.specs.declared.Reason.TheVariants.{Kind, Wire, Equal, Spare}
use Rattle.std.specs.Prelude.{Ok, Err}
use Rattle.circuit.specs.Bytes.{Bytes}
use Rattle.circuit.specs.Gates.{Decoded, bad_kind, bad_wire, equal_wires, bad_spare, gate_said, good, decoded, decoded_at, first_bad, gates_from, gate_bytes, bytes_of}
use Rattle.circuit.specs.Working.{bad, low_bad, high_bad, Sound, AllSound, Admitted, AllAdmitted}

pub bytes_drop : (n : ℕ) (bs : List ℕ) → Bytes bs → Bytes (drop n bs)
bytes_drop n bs h i = rw (get_or-drop n bs i 0) (h (n + i))

-- the first four bytes are those of the good gate g
pub record Decodes (v w p : ℕ) (bs : List ℕ) (g : Gate) : Type 0 where
  pub answer : decoded_at v w p bs ≡ good p g
  pub sound : Sound w g
  pub admitted : Admitted v g
  pub bytes : gate_bytes g ≡ get_or bs 0 0 ∷ get_or bs 1 0 ∷ get_or bs 2 0 ∷ get_or bs 3 0 ∷ []

abbrev Four : ℕ → ℕ → ℕ → ℕ → ℕ → ℕ → ℕ → Type 0
Four v w p k a b c = ((x : Reason) × (decoded v w p k a b c ≡ Err x)) ⊎ ((g : Gate) × Decodes v w p (k ∷ a ∷ b ∷ c ∷ []) g)

cnot_four : (v w p a b c : ℕ) → Four v w p 1 a b c
unfolding decoded
cnot_four v w p a b c = by (dec_lt a w) (dec_lt b w) (ℕ_discrete a b) (ℕ_discrete c 0)
  where
    by : Dec (a < w) → Dec (b < w) → Dec (a ≡ b) → Dec (c ≡ 0) → Four v w p 1 a b c
    by (no h) i j k = inl (Wire, rw (le-leb w a (omega arith)))
    by (yes h) (no i) j k = inl (Wire, rw (lt-leb w a h, le-leb w b (omega arith)))
    by (yes h) (yes i) (yes j) k = inl (Equal, rw (lt-leb w a h, lt-leb w b i, eq-eqb a b j))
    by (yes h) (yes i) (no j) (no k) = inl (Spare, rw (lt-leb w a h, lt-leb w b i, ne_eqb a b j, ne_eqb c 0 k))
    by (yes h) (yes i) (no j) (yes k) =
        inr (
          Cnot a b,
          record {
            answer = rw (lt-leb w a h, lt-leb w b i, ne_eqb a b j, eq-eqb c 0 k);
            sound = (h, i, j);
            admitted = tt;
            bytes = ap (λ (n : ℕ). 1 ∷ a ∷ b ∷ n ∷ []) (sym k);
          },
        )

phase_four : (v w p a b c : ℕ) → b < 256 → c < 256 → Four v w p 2 a b c
unfolding decoded
phase_four v w p a b c hb hc = by (dec_lt a w)
  where
    by : Dec (a < w) → Four v w p 2 a b c
    by (no h) = inl (Wire, rw (le-leb w a (omega arith)))
    by (yes h) =
        inr (
          Phase a (b * 256 + c),
          record {
            answer = rw (lt-leb w a h);
            sound = (h, omega arith);
            admitted = tt;
            bytes = ap₂ (λ (m n : ℕ). 2 ∷ a ∷ m ∷ n ∷ []) (omega arith) (omega arith);
          },
        )

inverter_four : (v w p a b c : ℕ) → v ≡ 2 → Four v w p 3 a b c
unfolding decoded
inverter_four v w p a b c e = by (dec_lt a w) (ℕ_discrete b 0) (ℕ_discrete c 0)
  where
    by : Dec (a < w) → Dec (b ≡ 0) → Dec (c ≡ 0) → Four v w p 3 a b c
    by (no h) i j = inl (Wire, rw (eq-eqb v 2 e, le-leb w a (omega arith)))
    by (yes h) (no i) j = inl (Spare, rw (eq-eqb v 2 e, lt-leb w a h, ne_eqb b 0 i))
    by (yes h) (yes i) (no j) = inl (Spare, rw (eq-eqb v 2 e, lt-leb w a h, eq-eqb b 0 i, ne_eqb c 0 j))
    by (yes h) (yes i) (yes j) =
        inr (
          Inverter a,
          record {
            answer = rw (eq-eqb v 2 e, lt-leb w a h, eq-eqb b 0 i, eq-eqb c 0 j);
            sound = h;
            admitted = e;
            bytes = ap₂ (λ (m n : ℕ). 3 ∷ a ∷ m ∷ n ∷ []) (sym i) (sym j);
          },
        )

-- four bytes are bad, or those of one good gate
pub four_bytes : (v w p k a b c : ℕ) → b < 256 → c < 256 → Four v w p k a b c
unfolding decoded
four_bytes v w p k a b c hb hc = by (ℕ_discrete k 1) (ℕ_discrete k 2) (ℕ_discrete k 3) (ℕ_discrete v 2)
  where
    by : Dec (k ≡ 1) → Dec (k ≡ 2) → Dec (k ≡ 3) → Dec (v ≡ 2) → Four v w p k a b c
    by (yes e) d t x = rw e (cnot_four v w p a b c)
    by (no e) (yes d) t x = rw d (phase_four v w p a b c hb hc)
    by (no e) (no d) (yes t) (yes x) = rw t (inverter_four v w p a b c x)
    by (no e) (no d) (yes t) (no x) = inl (Kind, rw (ne_eqb k 1 e, ne_eqb k 2 d, ne_eqb v 2 x, eq-eqb k 3 t))
    by (no e) (no d) (no t) x = inl (Kind, rw (ne_eqb k 1 e, ne_eqb k 2 d, ne_eqb k 3 t))

-- the writer undoes the decoder
pub bytes_decoded : (v w p k a b c : ℕ) (q : Placed) → b < 256 → c < 256 → decoded v w p k a b c ≡ Ok q
    → (gate_bytes q.gate ≡ k ∷ a ∷ b ∷ c ∷ []) × (q.position ≡ p) × Sound w q.gate
bytes_decoded v w p k a b c q hb hc e = by (four_bytes v w p k a b c hb hc)
  where
    by : Four v w p k a b c → (gate_bytes q.gate ≡ k ∷ a ∷ b ∷ c ∷ []) × (q.position ≡ p) × Sound w q.gate
    by (inl (x, d)) = let z : ◌≡◌ {A = ℕ} 0 1 = cc in absurd (omega arith)
    by (inr d) =
        let r : q ≡ record { position = p; gate = d.0 } = cc (e, d.1.answer) in
        rw r (d.1.bytes, refl, d.1.sound)

-- a gate is what its bytes say
pub bytes_said : (g : Gate) (k a b c : ℕ) → gate_bytes g ≡ k ∷ a ∷ b ∷ c ∷ [] → g ≡ gate_said k a b c
bytes_said (Cnot x y) k a b c e =
    let h : k ≡ 1 = cc e in
    rw (eq-eqb k 1 h) (cc e)
bytes_said (Phase i n) k a b c e =
    let h : k ≡ 2 = cc e in
    let high : n / 256 ≡ b = cc e in
    let low : n % 256 ≡ c = cc e in
    let q : n ≡ b * 256 + c = omega arith in
    let z : i ≡ a = cc e in
    rw (ne_eqb k 1 (λ r. omega arith), ne_eqb k 3 (λ r. omega arith)) (ap₂ Phase z q)
bytes_said (Inverter i) k a b c e =
    let h : k ≡ 3 = cc e in
    let z : i ≡ a = cc e in
    rw (ne_eqb k 1 (λ r. omega arith), eq-eqb k 3 h) (ap Inverter z)

-- the decoder's answer, going down its tests
module _ (v w p k a b c : ℕ) where
  pub bad_kind_lem : bad_kind v k ≡ true → decoded v w p k a b c ≡ Err Kind
  unfolding decoded
  bad_kind_lem e = rw e

  module _ (h : bad_kind v k ≡ false) where
    pub bad_wire_lem : bad_wire w k a b ≡ true → decoded v w p k a b c ≡ Err Wire
    unfolding decoded
    bad_wire_lem e = rw (h, e)

    module _ (i : bad_wire w k a b ≡ false) where
      pub equal_wires_lem : equal_wires k a b ≡ true → decoded v w p k a b c ≡ Err Equal
      unfolding decoded
      equal_wires_lem e = rw (h, i, e)

      module _ (j : equal_wires k a b ≡ false) where
        pub bad_spare_lem : bad_spare k b c ≡ true → decoded v w p k a b c ≡ Err Spare
        unfolding decoded
        bad_spare_lem e = rw (h, i, j, e)

        pub no_fault : bad_spare k b c ≡ false → decoded v w p k a b c ≡ good p (gate_said k a b c)
        unfolding decoded
        no_fault e = rw (h, i, j, e)

-- four tests in turn: where none holds the gate is good, and where one does it is bad for some reason
abbrev tried : Bool → Bool → Bool → Bool → Decoded → Decoded
tried k w e s d = cond k (Err Kind) (cond w (Err Wire) (cond e (Err Equal) (cond s (Err Spare) d)))

some_hold : (k w e s : Bool) (d : Decoded) → ((k || w) || e) || s ≡ true → (x : Reason) × (tried k w e s d ≡ Err x)
some_hold true w e s d h = (Kind, refl)
some_hold false true e s d h = (Wire, refl)
some_hold false false true s d h = (Equal, refl)
some_hold false false false true d h = (Spare, refl)
some_hold false false false false d h = let z : ◌≡◌ {A = ℕ} 0 1 = cc in absurd (omega arith)

none_hold : (k w e s : Bool) (d : Decoded) → ((k || w) || e) || s ≡ false → tried k w e s d ≡ d
none_hold true w e s d h = let z : ◌≡◌ {A = ℕ} 0 1 = cc in absurd (omega arith)
none_hold false true e s d h = let z : ◌≡◌ {A = ℕ} 0 1 = cc in absurd (omega arith)
none_hold false false true s d h = let z : ◌≡◌ {A = ℕ} 0 1 = cc in absurd (omega arith)
none_hold false false false true d h = let z : ◌≡◌ {A = ℕ} 0 1 = cc in absurd (omega arith)
none_hold false false false false d h = refl

-- the two halves of the question are the question
or_false : (b : Bool) → b || false ≡ b
or_false true = refl
or_false false = refl

or_assoc : (a b c : Bool) → (a || b) || c ≡ a || (b || c)
or_assoc true b c = refl
or_assoc false b c = refl

pub low_kind : (v w kind a b c : ℕ) → kind < 3 → low_bad w kind a b c ≡ bad v w kind a b c
low_kind v w zero a b c h = refl
low_kind v w (suc zero) a b c h = ap (λ (s : Bool). ((leb w a || leb w b) || eqb a b) || s) (sym (or_false (not (eqb c 0))))
low_kind v w (suc (suc zero)) a b c h = refl
low_kind v w (suc (suc (suc k))) a b c h = absurd (omega arith)

pub high_kind : (v w kind a b c : ℕ) → 3 ≤ kind → high_bad v w kind a b c ≡ bad v w kind a b c
high_kind v w kind a b c h = by (ℕ_discrete kind 3)
  where
    three : high_bad v w 3 a b c ≡ bad v w 3 a b c
    three =
        or_assoc (bad_kind v 3 || leb w a) (not (eqb b 0)) (not (eqb c 0))
        ∙ ap (λ (s : Bool). s || (not (eqb b 0) || not (eqb c 0))) (ap (bad_kind v 3 ||◌) (sym (or_false (leb w a))) ∙ sym (or_false (bad_kind v 3 || (leb w a || false))))

    by : Dec (kind ≡ 3) → high_bad v w kind a b c ≡ bad v w kind a b c
    by (yes e) = rw e three
    by (no e) = rw (ne_eqb kind 1 (λ q. omega arith), ne_eqb kind 2 (λ q. omega arith), ne_eqb kind 3 e)

-- the decoder's answer where the bytes are bad, and where they are not
module _ (v w p k a b c : ℕ) where
  pub is_bad : bad v w k a b c ≡ true → (x : Reason) × (decoded v w p k a b c ≡ Err x)
  unfolding decoded
  is_bad = some_hold (bad_kind v k) (bad_wire w k a b) (equal_wires k a b) (bad_spare k b c) (good p (gate_said k a b c))

  pub is_good : bad v w k a b c ≡ false → decoded v w p k a b c ≡ good p (gate_said k a b c)
  unfolding decoded
  is_good = none_hold (bad_kind v k) (bad_wire w k a b) (equal_wires k a b) (bad_spare k b c) (good p (gate_said k a b c))

-- the decoder undoes the writer
pub decoded_bytes : (v w p : ℕ) (g : Gate) (rest : List ℕ) → Sound w g → Admitted v g → decoded_at v w p (gate_bytes g ++ rest) ≡ good p g
unfolding decoded
decoded_bytes v w p (Cnot c t) rest h k = rw (lt-leb w c h.0, lt-leb w t h.1, ne_eqb c t h.2)
decoded_bytes v w p (Phase i a) rest h k = rw (lt-leb w i h.0) (ap (λ (n : ℕ). good p (Phase i n)) (omega arith))
decoded_bytes v w p (Inverter i) rest h k = rw (eq-eqb v 2 k, lt-leb w i h)

pub first_bad_lem : (v w n p : ℕ) (bs : List ℕ) (x : Reason) → decoded_at v w p bs ≡ Err x → first_bad v w (suc n) p bs ≡ p
unfolding first_bad
first_bad_lem v w n p bs x e = rw e

pub first_good : (v w n p : ℕ) (bs : List ℕ) (q : Placed) → decoded_at v w p bs ≡ Ok q → first_bad v w (suc n) p bs ≡ first_bad v w n (suc p) (drop 4 bs)
unfolding first_bad
first_good v w n p bs q e = rw e

gates_good : (v w n p : ℕ) (bs : List ℕ) (g : Gate) → decoded_at v w p bs ≡ good p g → gates_from v w (suc n) p bs ≡ g ∷ gates_from v w n (suc p) (drop 4 bs)
unfolding gates_from
gates_good v w n p bs g e = rw e

-- where none of n gates is bad the first is good, and none of the others is bad
pub next_gate : (v w n p : ℕ) (bs : List ℕ) → Bytes bs → p + suc n ≤ first_bad v w (suc n) p bs
    → (g : Gate) × Decodes v w p bs g × (suc p + n ≤ first_bad v w n (suc p) (drop 4 bs)) × (gates_from v w (suc n) p bs ≡ g ∷ gates_from v w n (suc p) (drop 4 bs))
next_gate v w n p bs h k = by (four_bytes v w p (get_or bs 0 0) (get_or bs 1 0) (get_or bs 2 0) (get_or bs 3 0) (h 2) (h 3))
  where
    by : Four v w p (get_or bs 0 0) (get_or bs 1 0) (get_or bs 2 0) (get_or bs 3 0)
        → (g : Gate) × Decodes v w p bs g × (suc p + n ≤ first_bad v w n (suc p) (drop 4 bs)) × (gates_from v w (suc n) p bs ≡ g ∷ gates_from v w n (suc p) (drop 4 bs))
    by (inl (x, e)) = let q = first_bad_lem v w n p bs x e in absurd (omega arith)
    by (inr d) =
        let g = d.0 in
        let q = first_good v w n p bs (record { position = p; gate = g }) d.1.answer in
        (g, record { answer = d.1.answer; sound = d.1.sound; admitted = d.1.admitted; bytes = d.1.bytes }, omega arith, gates_good v w n p bs g d.1.answer)

-- the gates of n good fours: as many, each sound, and their bytes are those that were read
pub record Listed (v w n p : ℕ) (bs : List ℕ) : Type 0 where
  pub count : length (gates_from v w n p bs) ≡ n
  pub sound : AllSound w (gates_from v w n p bs)
  pub admitted : AllAdmitted v (gates_from v w n p bs)
  pub bytes : bytes_of (gates_from v w n p bs) ≡ bs

-- a list is its first entries, one by one, and the rest
pub front : (n : ℕ) (l : List ℕ) → n ≤ length l → l ≡ list n (λ i. get_or l i 0) ++ drop n l
front zero l h = refl
front (suc n) [] h = absurd (omega arith)
front (suc n) (a ∷ l) h = ap (λ (r : List ℕ). a ∷ r) (front n l (omega arith))

-- wires below w are wires below any larger number
pub sound_wider : (w v : ℕ) (g : Gate) → w ≤ v → Sound w g → Sound v g
sound_wider w v (Cnot c t) h k = (omega (arith, k.0), omega (arith, k.1), k.2)
sound_wider w v (Phase i a) h k = (omega (arith, k.0), k.1)
sound_wider w v (Inverter i) h k = omega (arith, k)

pub sound_cons : (w : ℕ) (g : Gate) (gs : List Gate) → Sound w g → AllSound w gs → AllSound w (g ∷ gs)
unfolding AllSound
sound_cons w g gs h k = (h, k)

pub all_wider : (w v : ℕ) (gs : List Gate) → w ≤ v → AllSound w gs → AllSound v gs
unfolding AllSound
all_wider w v [] h k = tt
all_wider w v (g ∷ gs) h k = (sound_wider w v g h k.0, all_wider w v gs h k.1)

pub sound_append : (w : ℕ) (xs ys : List Gate) → AllSound w xs → AllSound w ys → AllSound w (xs ++ ys)
unfolding AllSound
sound_append w [] ys h k = k
sound_append w (g ∷ xs) ys h k = (h.0, sound_append w xs ys h.1 k)

-- a beginning of a sound list is sound, and so is its rest
pub sound_parts : (w : ℕ) (xs ys : List Gate) → AllSound w (xs ++ ys) → AllSound w xs × AllSound w ys
unfolding AllSound
sound_parts w [] ys h = (tt, h)
sound_parts w (g ∷ xs) ys h =
    let r = sound_parts w xs ys h.1 in
    ((h.0, r.0), r.1)

-- the same of what a version admits
pub admitted_cons : (v : ℕ) (g : Gate) (gs : List Gate) → Admitted v g → AllAdmitted v gs → AllAdmitted v (g ∷ gs)
unfolding AllAdmitted
admitted_cons v g gs h k = (h, k)

pub admitted_append : (v : ℕ) (xs ys : List Gate) → AllAdmitted v xs → AllAdmitted v ys → AllAdmitted v (xs ++ ys)
unfolding AllAdmitted
admitted_append v [] ys h k = k
admitted_append v (g ∷ xs) ys h k = (h.0, admitted_append v xs ys h.1 k)

pub bytes_append : (xs ys : List Gate) → bytes_of (xs ++ ys) ≡ bytes_of xs ++ bytes_of ys
unfolding bytes_of
bytes_append [] ys = refl
bytes_append (g ∷ xs) ys = ap (gate_bytes g ++◌) (bytes_append xs ys) ∙ sym (append_assoc (gate_bytes g) (bytes_of xs) (bytes_of ys))

pub bytes_one : (g : Gate) → bytes_of (g ∷ []) ≡ gate_bytes g
unfolding bytes_of
bytes_one g = append-nil (gate_bytes g)

pub bytes_cons : (g : Gate) (gs : List Gate) → bytes_of (g ∷ gs) ≡ gate_bytes g ++ bytes_of gs
unfolding bytes_of
bytes_cons g gs = refl

pub listed : (v w n p : ℕ) (bs : List ℕ) → Bytes bs → length bs ≡ 4 * n → p + n ≤ first_bad v w n p bs → Listed v w n p bs
unfolding gates_from bytes_of AllSound AllAdmitted
listed v w zero p [] h e k = record { count = refl; sound = tt; admitted = tt; bytes = refl }
listed v w zero p (b ∷ bs) h e k = absurd (omega arith)
listed v w (suc n) p bs h e k =
    let m : length (drop 4 bs) ≡ 4 * n = length-drop 4 bs ∙ omega arith in
    let d = next_gate v w n p bs h k in
    more d.0 d.1 d.3 (listed v w n (suc p) (drop 4 bs) (bytes_drop 4 bs h) m d.2)
  where
    more : (g : Gate) → Decodes v w p bs g → gates_from v w (suc n) p bs ≡ g ∷ gates_from v w n (suc p) (drop 4 bs) → Listed v w n (suc p) (drop 4 bs) → Listed v w (suc n) p bs
    more g d q r = record {
      count = ap length q ∙ ap suc r.count;
      sound = subst (AllSound w) (sym q) (sound_cons w g (gates_from v w n (suc p) (drop 4 bs)) d.sound r.sound);
      admitted = subst (AllAdmitted v) (sym q) (admitted_cons v g (gates_from v w n (suc p) (drop 4 bs)) d.admitted r.admitted);
      bytes = ap bytes_of q ∙ bytes_cons g (gates_from v w n (suc p) (drop 4 bs)) ∙ ap₂ (λ (x y : List ℕ). x ++ y) d.bytes r.bytes ∙ sym (front 4 bs (omega arith));
    }

-- the i-th of n good fours is the i-th gate
pub gate_at_lem : (v w n p : ℕ) (bs : List ℕ) (i : ℕ) → Bytes bs → p + n ≤ first_bad v w n p bs → i < n
    → (g : Gate) × Decodes v w (p + i) (drop (4 * i) bs) g × (drop i (gates_from v w n p bs) ≡ g ∷ drop (suc i) (gates_from v w n p bs))
gate_at_lem v w zero p bs i h k l = absurd (omega arith)
gate_at_lem v w (suc n) p bs zero h k l =
    let d = next_gate v w n p bs h k in
    (d.0, rw (add-zero p) d.1, d.3 ∙ ap (λ (gs : List Gate). d.0 ∷ drop 1 gs) (sym d.3))
gate_at_lem v w (suc n) p bs (suc i) h k l =
    let d = next_gate v w n p bs h k in
    let r = gate_at_lem v w n (suc p) (drop 4 bs) i (bytes_drop 4 bs h) d.2 (omega arith) in
    let at : 4 + 4 * i ≡ 4 * suc i = omega arith in
    (r.0, subst₂ (λ (q : ℕ) (l : List ℕ). Decodes v w q l r.0) (suc-add p i ∙ sym (add-suc p i)) (drop-drop (4 * i) 4 bs ∙ ap (λ (q : ℕ). drop q bs) at) r.1, ap (drop (suc i)) d.3 ∙ r.2 ∙ ap (λ (gs : List Gate). r.0 ∷ drop (suc (suc i)) gs) (sym d.3))

drop_four : (g : Gate) (bs : List ℕ) → drop 4 (gate_bytes g ++ bs) ≡ bs
drop_four (Cnot c t) bs = refl
drop_four (Phase i a) bs = refl
drop_four (Inverter i) bs = refl

-- what is written is read again
pub first_written : (v w p : ℕ) (gs : List Gate) → AllSound w gs → AllAdmitted v gs → first_bad v w (length gs) p (bytes_of gs) ≡ p + length gs
unfolding first_bad bytes_of AllSound AllAdmitted
first_written v w p [] h k = sym (add-zero p)
first_written v w p (g ∷ gs) h k =
    first_good v w (length gs) p (gate_bytes g ++ bytes_of gs) (record { position = p; gate = g }) (decoded_bytes v w p g (bytes_of gs) h.0 k.0)
    ∙ ap (first_bad v w (length gs) (suc p)) (drop_four g (bytes_of gs)) ∙ first_written v w (suc p) gs h.1 k.1 ∙ suc-add p (length gs) ∙ sym (add-suc p (length gs))

pub gates_written : (v w p : ℕ) (gs : List Gate) → AllSound w gs → AllAdmitted v gs → gates_from v w (length gs) p (bytes_of gs) ≡ gs
unfolding gates_from bytes_of AllSound AllAdmitted
gates_written v w p [] h k = refl
gates_written v w p (g ∷ gs) h k =
    gates_good v w (length gs) p (gate_bytes g ++ bytes_of gs) g (decoded_bytes v w p g (bytes_of gs) h.0 k.0)
    ∙ ap (λ (bs : List ℕ). g ∷ gates_from v w (length gs) (suc p) bs) (drop_four g (bytes_of gs)) ∙ ap (λ (l : List Gate). g ∷ l) (gates_written v w (suc p) gs h.1 k.1)

pub length-bytes : (gs : List Gate) → length (bytes_of gs) ≡ 4 * length gs
unfolding bytes_of
length-bytes [] = refl
length-bytes (Cnot c t ∷ gs) = let e = length-bytes gs in omega arith
length-bytes (Phase i a ∷ gs) = let e = length-bytes gs in omega arith
length-bytes (Inverter i ∷ gs) = let e = length-bytes gs in omega arith
