-- What each mask has after the walk, gathered and weighed, with the constant, is the paper's coefficients; with the listed ends, a circuit's summary.
use Rattle.std.proofs.Common.{◌≡◌, ℕ, zero, suc, ◌+◌, ◌*◌, ◌/◌, ◌%◌, ◌^◌, ◌<◌, ◌≤◌, true, List, length, take, replicate, sym, ap, ◌∙◌, ap₂, arith, length-take-le, get_or-take}
use lib.Count.{ones}
use Rattle.numbers.specs.Bits.{equal, subset}
use Rattle.numbers.specs.Sums.{sum, list}
use Rattle.numbers.specs.Working.{◌≈◌}
use Rattle.numbers.proofs.Lists.{list_ext}
use Rattle.numbers.proofs.Powers.{small_power}
use Rattle.numbers.proofs.Angles.{≈-sum}
use Rattle.numbers.proofs.Sums.{sum_of-ext}
use Rattle.numbers.proofs.Subsets.{sum_pick}
use Rattle.numbers.proofs.Turns.{≈-of, ≈-mod, ≈-mul, ≈_sym, ≈_refl, ≈-small, ◌≈∙◌}
use Rattle.circuit.specs.declared.Gate.{Gate}
use Rattle.circuit.specs.Bytes.{Bytes, put_at}
use Rattle.circuit.specs.File.{wires_of, gates_of}
use Rattle.circuit.specs.Working.{AllSound, walked}
use Rattle.circuit.proofs.Callers.{few_states, Answered}
use Rattle.circuit.proofs.Files.{file_sound}
use Rattle.running.specs.Masks.{most_wires, most_masks}
use Rattle.running.specs.Working.{own_numbers, sum_numbers}
use Rattle.running.proofs.Masks.{own_below, own_alike, sum_alike}
use Rattle.running.proofs.Meetings.{sum_numbers-≈, sum_numbers-swap}
use Rattle.coefficients.specs.Coefficients.{sign, coefficient, coefficients, listed_ends}
use Rattle.coefficients.specs.Working.{entry, gathered, weight_of, weighed, turned_of, sign_step, listed_column}
use Rattle.coefficients.proofs.Polynomials.{sum_at, coefficient_constant, coefficient_weight, coefficient_below}
use Rattle.coefficients.proofs.Gathering.{sum_around, entry_gathered}
use Rattle.coefficients.proofs.Signing.{signed_at, Signed, walk_signs}
use Rattle.coefficients.proofs.Ends.{held_long, are_ends}

-- a row that has each mask's signed sum, and the constant
module _ (w : ℕ) (gs : List Gate) (v : List ℕ) (constant : ℕ) (has : (m : ℕ) → m < 2 ^ w → entry v m ≈ sum_numbers (signed_at m) gs (own_numbers w)) (adds : constant ≡ sum_numbers turned_of gs (own_numbers w) % 65536) where
  -- one angle over the masks that contain s: it counts at its own mask only
  one_mask : (s n a : ℕ) → n < 2 ^ suc w → sum (2 ^ w) (λ m. subset s m * signed_at m n a) ≡ a * (subset s (n / 2) * sign (n % 2))
  one_mask s n a h =
      sum_of-ext 0 ◌+◌ (2 ^ w) (λ m. subset s m * signed_at m n a) (λ m. a * (subset s m * sign (n % 2)) * equal m (n / 2)) (λ m l. order (subset s m) a (equal m (n / 2)) (sign (n % 2)))
      ∙ sum_pick (2 ^ w) (n / 2) (λ m. a * (subset s m * sign (n % 2))) (omega arith)
    where
      order : (p a q g : ℕ) → p * (a * (q * g)) ≡ a * (p * g) * q
      order p a q g = omega arith

  -- the sums of the masks that contain s: each gate's angle with its sign
  signed_sum : (s : ℕ) → sum_around true w (entry v) s ≈ sum_at w gs s
  signed_sum s =
      ≈-sum (2 ^ w) (λ m. subset s m * entry v m) (λ m. subset s m * sum_numbers (signed_at m) gs (own_numbers w)) (λ m l. ≈-mul (≈_refl {a = subset s m}) (has m l))
      ≈∙ ≈-of (sum_numbers-swap (2 ^ w) (subset s) signed_at gs (own_numbers w))
      ≈∙ sum_numbers-≈ w (λ n a. sum (2 ^ w) (λ m. subset s m * signed_at m n a)) (λ n a. a * (subset s (n / 2) * sign (n % 2))) (λ n a h. ≈-of (one_mask s n a h)) gs (own_numbers w) (own_below w)

  weighed_at_lem : (s : ℕ) → s < 2 ^ w → weighed constant (gathered true w v) s ≡ coefficient w gs s
  weighed_at_lem zero h = adds ∙ sym (coefficient_constant w gs)
  weighed_at_lem (suc s) h =
      ≈-small (omega arith) (coefficient_below w gs (suc s))
      (≈-mod (weight_of (ones (suc s)) * entry (gathered true w v) (suc s))
      ≈∙ ≈-mul (≈_refl {a = weight_of (ones (suc s))})
      (≈-of (entry_gathered true w v (suc s) h) ≈∙ ≈-mod (sum_around true w (entry v) (suc s)) ≈∙ signed_sum (suc s))
      ≈∙ ≈_sym (≈-mod (weight_of (ones (suc s)) * sum_at w gs (suc s))) ≈∙ ≈-of (sym (coefficient_weight w gs s)))

  pub are_coefficients : list (2 ^ w) (weighed constant (gathered true w v)) ≡ coefficients w gs
  are_coefficients = list_ext (2 ^ w) (weighed constant (gathered true w v)) (coefficient w gs) weighed_at_lem

-- what is known where the gates of a good file are walked
pub record Walked (side : ℕ) (f : List ℕ) (w g : ℕ) (held row : List ℕ) (constant : ℕ) : Type 0 where
  pub read : Answered side f w g
  pub sound : AllSound (wires_of f) (gates_of f)
  pub signs : Signed (gates_of f) (own_numbers most_wires) held row constant

pub file_walked : (side : ℕ) (f : List ℕ) (w g : ℕ) → Answered side f w g → Bytes f → (own none held row : List ℕ) (constant : ℕ) → own ≡ own_numbers most_wires → none ≡ replicate most_masks 0
    → (held, row, constant) ≡ walked sign_step (gates_of f) (own, none, 0) → Walked side f w g held row constant
file_walked side f w g read bytes own none held row constant o z e =
    let sound = file_sound f bytes read.file in
    record {
      read = read;
      sound = sound;
      signs = walk_signs (wires_of f) (gates_of f) (own_numbers most_wires) held row constant sound (own_below most_wires) (e ∙ ap₂ (λ (m n : List ℕ). walked sign_step (gates_of f) (m, n, 0)) o z);
    }

module _ {side : ℕ} {f : List ℕ} {w g : ℕ} {held row : List ℕ} {constant : ℕ} (k : Walked side f w g held row constant) where
  -- the code keeps ten wires' numbers, and meets those of the circuit's
  met_alike : (h : ℕ → ℕ → ℕ) → sum_numbers h (gates_of f) (own_numbers most_wires) ≡ sum_numbers h (gates_of f) (own_numbers (wires_of f))
  met_alike h = sum_alike h (wires_of f) (gates_of f) (own_numbers most_wires) (own_numbers (wires_of f)) k.sound (own_alike most_wires (wires_of f) k.read.file.few)

  pub row_long : length row ≡ most_masks
  row_long = k.signs.long

  module _ (size : ℕ) (p : size ≡ 2 ^ w % 2 ^ 64) where
    size_is : size ≡ 2 ^ wires_of f
    size_is = small_power w size (omega (arith, k.read.wires, k.read.file.few)) p ∙ ap (2 ^◌) k.read.wires

    pub size_fits : size ≤ most_masks
    size_fits = omega (arith, size_is, few_states side f k.read.passes)

    pub part_long : length (take size row) ≡ size
    part_long = length-take-le size row (omega (arith, size_fits, row_long))

    pub coefficients_put : (before after : List ℕ) → ((n : ℕ) → size ≡ 2 ^ n → after ≡ put_at (list (2 ^ n) (weighed constant (gathered true n (take size row)))) 0 before) → after ≡ put_at (coefficients (wires_of f) (gates_of f)) 0 before
    coefficients_put before after h =
        h (wires_of f) size_is
        ∙ ap (λ (v : List ℕ). put_at v 0 before)
        (are_coefficients (wires_of f) (gates_of f) (take size row) constant
        (λ m l. ≈-of (get_or-take size row m 0 (omega (arith, size_is))) ≈∙ k.signs.has m ≈∙ ≈-of (met_alike (signed_at m)))
        (k.signs.adds ∙ ap (◌% 65536) (met_alike turned_of)))

  pub wires_held : length held ≡ most_wires
  wires_held = held_long (wires_of f) (gates_of f) k.read.file.few k.sound held k.signs.holds

  pub part_held : length (take w held) ≡ w
  part_held = length-take-le w held (omega (arith, wires_held, k.read.wires, k.read.file.few))

  pub ends_put : (before after : List ℕ) → after ≡ put_at (list (length (take w held) + 1) (listed_column (take w held))) 0 before → after ≡ put_at (listed_ends (wires_of f) (gates_of f)) 0 before
  ends_put before after q = q ∙ ap (λ (v : List ℕ). put_at v 0 before) (are_ends (wires_of f) (gates_of f) k.read.file.few k.sound held k.signs.holds w k.read.wires)
