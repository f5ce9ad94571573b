-- The walk that signs: what each mask has after it, the constant, and what the wires hold. One gate of it, as the code does it.
use Rattle.std.proofs.Common.{◌≡◌, ℕ, zero, suc, ◌+◌, ◌*◌, ◌/◌, ◌%◌, ◌^◌, ◌<◌, List, [], ◌∷◌, length, get_or, set, replicate, sym, refl, ap, ◌∙◌, subst, add-zero, add_assoc, mul-zero, zero-add, zero-mul, mul-one, arith, length-set, get_or-set_other, get_or-set_same}
use native.Mathlib.Decide.{ℕ_discrete}
use lib.ListN.{length-replicate}
use Rattle.numbers.specs.Bits.{equal}
use Rattle.numbers.specs.Turn.{difference}
use Rattle.numbers.specs.Working.{◌≈◌}
use Rattle.numbers.proofs.Parity.{equal_yes, equal_no}
use Rattle.numbers.proofs.Turns.{≈-of, ≈-mod, ≈_sym, ≈-add, ≈_refl, ≈-cancel, ≈-turns, difference_adds, difference_below, ◌≈∙◌}
use Rattle.circuit.specs.declared.Gate.{Gate}
use Rattle.circuit.specs.declared.Gate.TheVariants.{Cnot, Phase, Inverter}
use Rattle.circuit.specs.Working.{AllSound, walked}
use Rattle.running.specs.Masks.{most_wires, most_masks}
use Rattle.running.specs.Working.{numbers_after, numbers_from, Met, Unmet, At, met, met_by, sum_numbers}
use Rattle.running.proofs.Masks.{NumbersBelow, after_below, zeros}
use Rattle.running.proofs.Walks.{held_walked}
use Rattle.coefficients.specs.Coefficients.{sign}
use Rattle.coefficients.specs.Working.{entry, signed_by, turned_of, sign_met, sign_step}

-- first minus second is the first and 65,535 times the second
difference-≈ : (a b : ℕ) → b < 65536 → difference a b ≈ a + b * 65535
difference-≈ a b h = ≈-cancel b (difference_adds a b h ≈∙ ≈_sym (≈-turns a b) ≈∙ ≈-of (let e : a + b * 65536 ≡ a + b * 65535 + b = omega arith in e))

-- an angle with its sign
signed-≈ : (f x a : ℕ) → a < 65536 → signed_by f x a ≈ x + a * sign f
signed-≈ zero x a h = ≈-mod (x + a) ≈∙ ≈-of (ap (x +◌) (sym (mul-one a)))
signed-≈ (suc f) x a h = difference-≈ x a h

signed_below : (f x a : ℕ) → signed_by f x a < 65536
signed_below zero x a = omega arith
signed_below (suc f) x a = difference_below x a

-- what a mask has of an angle that meets number n
abbrev pub signed_at : ℕ → ℕ → ℕ → ℕ
signed_at m n a = a * (equal m (n / 2) * sign (n % 2))

-- what all masks have, each less than a turn
record Row (row : List ℕ) : Type 0 where
  pub long : length row ≡ most_masks
  pub small : (m : ℕ) → entry row m < 65536

module _ (row : List ℕ) (h : Row row) (n a : ℕ) (l : n < 2 ^ suc most_wires) (k : a < 65536) where
  abbrev value : ℕ
  value = signed_by (n % 2) (entry row (n / 2)) a

  at_mask : entry (set row (n / 2) value) (n / 2) ≡ value
  at_mask = get_or-set_same row (n / 2) value 0 (omega (arith, h.long))

  module _ (m : ℕ) where
    angle_signed : Dec (m ≡ n / 2) → (entry (sign_met (At n a) row) m ≈ entry row m + signed_at m n a) × (entry (sign_met (At n a) row) m < 65536)
    angle_signed (yes e) = (
      ≈-of (ap (entry (set row (n / 2) value)) e ∙ at_mask) ≈∙ signed-≈ (n % 2) (entry row (n / 2)) a k
          ≈∙ ≈-of (sym (rw (e, equal_yes {a = n / 2} {b = n / 2} refl) (let z : entry row (n / 2) + a * (1 * sign (n % 2)) ≡ entry row (n / 2) + a * sign (n % 2) = omega arith in z))),
      rw (e, at_mask) (signed_below (n % 2) (entry row (n / 2)) a),
    )
    angle_signed (no e) =
        let same = get_or-set_other row (n / 2) m value 0 e in (
          ≈-of (same ∙ sym (rw (equal_no e, zero-mul (sign (n % 2)), mul-zero a) (add-zero (entry row m)))),
          rw same (h.small m),
        )

  signed_row : Row (sign_met (At n a) row)
  signed_row = record { long = length-set row (n / 2) value ∙ h.long; small = λ m. (angle_signed m (ℕ_discrete m (n / 2))).1 }

-- what stands at a mask: what stood there, and each angle with its sign
signed_walked : (w : ℕ) (gs : List Gate) (ms row : List ℕ) (c : ℕ) → AllSound w gs → NumbersBelow most_wires ms → Row row
    → Row (walked sign_step gs (ms, row, c)).1 × ((m : ℕ) → entry (walked sign_step gs (ms, row, c)).1 m ≈ entry row m + sum_numbers (signed_at m) gs ms)
unfolding walked sum_numbers AllSound
signed_walked w [] ms row c s b h = (h, λ m. ≈-of (sym (add-zero (entry row m))))
signed_walked w (Cnot p t ∷ gs) ms row c s b h =
    let ns = numbers_after (Cnot p t) ms in
    let r = signed_walked w gs ns row ((c + 0) % 65536) s.1 (after_below most_wires (Cnot p t) ms b) h in
    (r.0, λ m. r.1 m ≈∙ ≈-of (ap (entry row m +◌) (sym (zero-add (sum_numbers (signed_at m) gs ns)))))
signed_walked w (Inverter i ∷ gs) ms row c s b h =
    let ns = numbers_after (Inverter i) ms in
    let r = signed_walked w gs ns row ((c + 0) % 65536) s.1 (after_below most_wires (Inverter i) ms b) h in
    (r.0, λ m. r.1 m ≈∙ ≈-of (ap (entry row m +◌) (sym (zero-add (sum_numbers (signed_at m) gs ns)))))
signed_walked w (Phase i a ∷ gs) ms row c s b h =
    let n = get_or ms i 0 in
    let r = signed_walked w gs ms (sign_met (At n a) row) ((c + turned_of n a) % 65536) s.1 b (signed_row row h n a (b i) s.0.1) in
    (r.0, λ m. r.1 m ≈∙ ≈-add (angle_signed row h n a (b i) s.0.1 m (ℕ_discrete m (n / 2))).0 (≈_refl {a = sum_numbers (signed_at m) gs ms}) ≈∙ ≈-of (add_assoc (entry row m) (signed_at m n a) (sum_numbers (signed_at m) gs ms)))

constant_walked : (gs : List Gate) (ms row : List ℕ) (c : ℕ) → c < 65536 → (walked sign_step gs (ms, row, c)).2 ≡ (c + sum_numbers turned_of gs ms) % 65536
unfolding walked sum_numbers
constant_walked [] ms row c h = omega arith
constant_walked (g ∷ gs) ms row c h =
    let x = met_by turned_of (met g ms) in
    let n = sum_numbers turned_of gs (numbers_after g ms) in
    constant_walked gs (numbers_after g ms) (sign_met (met g ms) row) ((c + x) % 65536) (omega arith)
    ∙ (let e : ((c + x) % 65536 + n) % 65536 ≡ (c + (x + n)) % 65536 = omega arith in e)

-- what the walk leaves behind that starts from nothing
pub record Signed (gs : List Gate) (ms held row : List ℕ) (constant : ℕ) : Type 0 where
  pub holds : held ≡ numbers_from gs ms
  pub long : length row ≡ most_masks
  pub has : (m : ℕ) → entry row m ≈ sum_numbers (signed_at m) gs ms
  pub adds : constant ≡ sum_numbers turned_of gs ms % 65536

pub walk_signs : (w : ℕ) (gs : List Gate) (ms held row : List ℕ) (constant : ℕ) → AllSound w gs → NumbersBelow most_wires ms
    → (held, row, constant) ≡ walked sign_step gs (ms, replicate most_masks 0, 0) → Signed gs ms held row constant
walk_signs w gs ms held row constant s b e =
    let none : List ℕ = replicate most_masks 0 in
    let empty : Row none = record { long = length-replicate {A = ℕ} most_masks 0; small = λ m. rw (zeros most_masks m) (omega arith) } in
    let r = signed_walked w gs ms none 0 s b empty in
    let second : row ≡ (walked sign_step gs (ms, none, 0)).1 = ap (λ (t : List ℕ × List ℕ × ℕ). t.1) e in
    record {
      holds = ap (λ (t : List ℕ × List ℕ × ℕ). t.0) e ∙ held_walked sign_step (λ t. t.0) (λ g t. refl) gs (ms, none, 0);
      long = ap length second ∙ r.0.long;
      has = λ m. ≈-of (ap (λ (v : List ℕ). entry v m) second) ≈∙ r.1 m ≈∙ ≈-of (ap (◌+ sum_numbers (signed_at m) gs ms) (zeros most_masks m) ∙ zero-add (sum_numbers (signed_at m) gs ms));
      adds = ap (λ (t : List ℕ × List ℕ × ℕ). t.2) e ∙ constant_walked gs ms none 0 (omega arith) ∙ ap (◌% 65536) (zero-add (sum_numbers turned_of gs ms));
    }

-- one gate
abbrev pub Adds : Gate → List ℕ → List ℕ → List ℕ → List ℕ → ℕ → Type 0
Adds g held row held' row' r = (held' ≡ numbers_after g held) × ((row' ≡ sign_met (met g held) row) × (r ≡ met_by turned_of (met g held)))

module _ (g : Gate) (held row : List ℕ) where
  -- one that meets nothing
  pub cnot_adds : (c t : ℕ) (after : List ℕ) → g ≡ Cnot c t → after ≡ numbers_after (Cnot c t) held → Adds g held row after row 0
  cnot_adds c t after e p = subst (λ (h : Gate). Adds h held row after row 0) (sym e) (p, (refl, refl))

  pub inverter_adds : (i : ℕ) (after : List ℕ) → g ≡ Inverter i → after ≡ numbers_after (Inverter i) held → Adds g held row after row 0
  inverter_adds i after e p = subst (λ (h : Gate). Adds h held row after row 0) (sym e) (p, (refl, refl))

  pub phase_adds : (i a n r : ℕ) (after : List ℕ) → g ≡ Phase i a → n ≡ get_or held i 0 → after ≡ sign_met (At n a) row → r ≡ turned_of n a → Adds g held row held after r
  phase_adds i a n r after e d p q =
      subst (λ (h : Gate). Adds h held row held after r) (sym e) (refl, (p ∙ ap (λ (k : ℕ). sign_met (At k a) row) d, q ∙ ap (λ (k : ℕ). turned_of k a) d))

pub sign_stepped : (g : Gate) (held row : List ℕ) (c : ℕ) (held' row' : List ℕ) (r c' : ℕ) → Adds g held row held' row' r → c' ≡ (c + r) % 65536 → ◌≡◌ {A = List ℕ × List ℕ × ℕ} (held', row', c') (sign_step g (held, row, c))
sign_stepped g held row c held' row' r c' p q i = (p.0 i, p.1.0 i, (q ∙ ap (λ (n : ℕ). (c + n) % 65536) p.1.1) i)

pub length-signed : (x : Met) (row : List ℕ) → length (sign_met x row) ≡ length row
length-signed Unmet row = refl
length-signed (At n a) row = length-set row (n / 2) (signed_by (n % 2) (entry row (n / 2)) a)
