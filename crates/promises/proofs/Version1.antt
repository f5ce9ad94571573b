-- What 02 §12 leaves as it was: a version 1 file has no inverter, no flip and no constant; its groups and coefficients are by masks alone, and state 0 never differs.
use Prim.Native.Nat.{ℕ, zero, suc, ◌+◌, ◌-◌, ◌*◌, ◌%◌, ◌^◌, ◌<◌, ◌≤◌}
use native.Mathlib.Nat.{zero-add, zero-mul, one-mul, mul-one}
use native.Mathlib.Decide.{ℕ_discrete, dec_lt}
use native.Mathlib.Omega.{arith}
use mathlib.Core.Path.{◌≡◌, refl, sym, ap, ap₂, subst, ◌∙◌}
use mathlib.Core.List.{List, [], ◌∷◌, ◌++◌}
use lib.Count.{ones}
use lib.ListN.{length, set, take, get_or-eq_default}
use lib.Seq.{get_or-set_same, get_or-set_other, set_out}
use lib.Bits.{bit_xor, xor_self}
use Rattle.std.specs.Prelude.{Result, Ok}
use Rattle.numbers.specs.Bits.{bit, equal, subset}
use Rattle.numbers.proofs.Lists.{length-list, get_or-list}
use Rattle.numbers.proofs.Parity.{equal_yes}
use Rattle.numbers.proofs.Wires.{bit_own}
use Rattle.refusal.specs.declared.Refusal.{Refusal}
use Rattle.refusal.specs.Checks.{passed, outcome}
use Rattle.circuit.specs.declared.Gate.{Gate}
use Rattle.circuit.specs.declared.Gate.TheVariants.{Cnot, Phase, Inverter}
use Rattle.circuit.specs.Working.{Admitted, AllAdmitted}
use Rattle.circuit.specs.Bytes.{Bytes}
use Rattle.circuit.specs.File.{version_of, wires_of, gates_of, file_checks}
use Rattle.circuit.proofs.Callers.{good_file}
use Rattle.circuit.proofs.Files.{file_admitted}
use Rattle.running.specs.Run.{end_from, total_from, inverters}
use Rattle.running.specs.Masks.{Held, held, held_at, own_held, mixed, held_after, held_from, sum_met}
use Rattle.running.specs.Groups.{same_held, group_total, held_before, earlier}
use Rattle.fold.specs.Fold.{kept, first_only, becomes, folded_from, folded}
use Rattle.coefficients.specs.Coefficients.{sign, coefficient}
use Rattle.verdict.specs.declared.Verdict.TheVariants.{Different}
use Rattle.verdict.specs.declared.Verdict.{Verdict}
use Rattle.verdict.specs.Judging.{Compares}
use Rattle.promises.specs.MasksAlone.{total_of_mask, earlier_of_mask, becomes_by_mask, folded_by_mask_from, folded_by_mask, coefficient_by_mask}
use Rattle.promises.proofs.Verdicts.{compare_named}

-- no wire is flipped
abbrev Unflipped : List Held → Type 0
Unflipped hs = (i : ℕ) → (held_at hs i).flip ≡ 0

own_unflipped : (w : ℕ) → Unflipped (own_held w)
own_unflipped w i = by (dec_lt i w)
  where
    by : Dec (i < w) → (held_at (own_held w) i).flip ≡ 0
    by (yes h) = ap (λ (k : Held). k.flip) (get_or-list w (λ j. held (2 ^ j) 0) i (held 0 0) h)
    by (no h) = ap (λ (k : Held). k.flip) (get_or-eq_default (own_held w) (held 0 0) {n = i} (omega (arith, length-list w (λ (j : ℕ). held (2 ^ j) 0))))

set_unflipped : (hs : List Held) (t : ℕ) (h : Held) → h.flip ≡ 0 → Unflipped hs → Unflipped (set hs t h)
set_unflipped hs t h e u i = by (ℕ_discrete i t) (dec_lt t (length hs))
  where
    by : Dec (i ≡ t) → Dec (t < length hs) → (held_at (set hs t h) i).flip ≡ 0
    by (yes p) (yes l) = ap (λ (j : ℕ). (held_at (set hs t h) j).flip) p ∙ ap (λ (k : Held). k.flip) (get_or-set_same hs t h (held 0 0) l) ∙ e
    by (yes p) (no l) = ap (λ (x : List Held). (held_at x i).flip) (set_out hs t h (omega arith)) ∙ u i
    by (no p) l = ap (λ (k : Held). k.flip) (get_or-set_other hs t i h (held 0 0) p) ∙ u i

after_unflipped : (g : Gate) (hs : List Held) → Admitted 1 g → Unflipped hs → Unflipped (held_after g hs)
after_unflipped (Cnot c t) hs a u = set_unflipped hs t (mixed (held_at hs t) (held_at hs c)) (ap₂ (λ (m n : ℕ). (m + n) % 2) (u t) (u c)) u
after_unflipped (Phase i b) hs a u = u
after_unflipped (Inverter i) hs a u = absurd (omega (arith, a))

from_unflipped : (gs : List Gate) (hs : List Held) → AllAdmitted 1 gs → Unflipped hs → Unflipped (held_from gs hs)
unfolding held_from AllAdmitted
from_unflipped [] hs a u = u
from_unflipped (g ∷ gs) hs a u = from_unflipped gs (held_after g hs) a.1 (after_unflipped g hs a.0 u)

take_admitted : (p : ℕ) (gs : List Gate) → AllAdmitted 1 gs → AllAdmitted 1 (take p gs)
unfolding AllAdmitted
take_admitted zero gs a = tt
take_admitted (suc p) [] a = tt
take_admitted (suc p) (g ∷ gs) a = (a.0, take_admitted p gs a.1)

-- two sums over the phase gates whose terms agree where there is no flip
module _ (f g : Held → ℕ → ℕ) (same : (h : Held) (a : ℕ) → h.flip ≡ 0 → f h a ≡ g h a) where
  sum_unflipped : (gs : List Gate) (hs : List Held) → AllAdmitted 1 gs → Unflipped hs → sum_met f gs hs ≡ sum_met g gs hs
  unfolding sum_met AllAdmitted
  sum_unflipped [] hs a u = refl
  sum_unflipped (Cnot c t ∷ gs) hs a u = ap (0 +◌) (sum_unflipped gs (held_after (Cnot c t) hs) a.1 (after_unflipped (Cnot c t) hs a.0 u))
  sum_unflipped (Phase i b ∷ gs) hs a u = ap₂ ◌+◌ (same (held_at hs i) b (u i)) (sum_unflipped gs hs a.1 u)
  sum_unflipped (Inverter i ∷ gs) hs a u = absurd (omega (arith, a.0))

no_terms : (gs : List Gate) (hs : List Held) → sum_met (λ h a. 0) gs hs ≡ 0
unfolding sum_met
no_terms [] hs = refl
no_terms (Cnot c t ∷ gs) hs = ap (0 +◌) (no_terms gs (held_after (Cnot c t) hs))
no_terms (Phase i a ∷ gs) hs = ap (0 +◌) (no_terms gs hs)
no_terms (Inverter i ∷ gs) hs = ap (0 +◌) (no_terms gs (held_after (Inverter i) hs))

none_counted : (gs : List Gate) → AllAdmitted 1 gs → inverters gs ≡ 0
unfolding inverters AllAdmitted
none_counted [] a = refl
none_counted (Cnot c t ∷ gs) a = none_counted gs a.1
none_counted (Phase i b ∷ gs) a = none_counted gs a.1
none_counted (Inverter i ∷ gs) a = absurd (omega (arith, a.0))

no_bit : (c t : ℕ) → bit_xor 0 (bit 0 c * 2 ^ t) ≡ 0
no_bit c t = ap (λ (b : ℕ). bit_xor 0 (b * 2 ^ t)) (ap (λ (n : ℕ). bit n c) (sym (zero-mul (2 ^ c))) ∙ bit_own 0 c (omega arith)) ∙ ap (bit_xor 0) (zero-mul (2 ^ t)) ∙ xor_self 0

-- start 0 stays, and is not turned
start_stays : (gs : List Gate) → AllAdmitted 1 gs → (end_from gs 0 ≡ 0) × (total_from gs 0 ≡ 0)
unfolding end_from total_from AllAdmitted
start_stays [] a = (refl, refl)
start_stays (Cnot c t ∷ gs) a =
    let r = start_stays gs a.1 in
    (ap (end_from gs) (no_bit c t) ∙ r.0, ap (λ (s : ℕ). 0 + total_from gs s) (no_bit c t) ∙ zero-add (total_from gs 0) ∙ r.1)
start_stays (Phase i b ∷ gs) a =
    let r = start_stays gs a.1 in
    let e : bit 0 i ≡ 0 = ap (λ (n : ℕ). bit n i) (sym (zero-mul (2 ^ i))) ∙ bit_own 0 i (omega arith) in
    (r.0, ap₂ (λ (d n : ℕ). b * d + n) e r.1 ∙ (let z : b * 0 + 0 ≡ 0 = omega arith in z))
start_stays (Inverter i ∷ gs) a = absurd (omega (arith, a.0))

module _ (w : ℕ) (gs : List Gate) (a : AllAdmitted 1 gs) where
  own : Unflipped (own_held w)
  own = own_unflipped w

  -- "at 0 it is 0", and the masks alone count
  coefficients_by_mask : (s : ℕ) → coefficient w gs s ≡ coefficient_by_mask w gs s
  unfolding coefficient coefficient_by_mask
  coefficients_by_mask zero = ap (◌% 65536) (sum_unflipped (λ h b. h.flip * b) (λ h b. 0) (λ h b e. ap (◌* b) e ∙ zero-mul b) gs (own_held w) a own ∙ no_terms gs (own_held w))
  coefficients_by_mask (suc s) =
      ap (λ (n : ℕ). 65534 ^ (ones (suc s) - 1) * n % 65536)
      (sum_unflipped (λ h b. subset (suc s) h.mask * (sign h.flip * b)) (λ h b. subset (suc s) h.mask * b)
      (λ h b e. ap (λ (n : ℕ). subset (suc s) h.mask * (sign n * b)) e ∙ ap (subset (suc s) h.mask *◌) (one-mul b)) gs (own_held w) a own)

  -- groups by masks alone
  same_mask : (h k : Held) → h.flip ≡ 0 → k.flip ≡ 0 → same_held h k ≡ equal h.mask k.mask
  same_mask h k p q = ap (equal h.mask k.mask *◌) (equal_yes (p ∙ sym q)) ∙ mul-one (equal h.mask k.mask)

  total_by_mask : (h : Held) → h.flip ≡ 0 → group_total w gs h ≡ total_of_mask w gs h.mask
  total_by_mask h e = ap (◌% 65536) (sum_unflipped (λ k b. b * same_held k h) (λ k b. b * equal k.mask h.mask) (λ k b q. ap (b *◌) (same_mask k h q e)) gs (own_held w) a own)

  earlier_by_mask : (p : ℕ) (h : Held) → h.flip ≡ 0 → earlier w gs p h ≡ earlier_of_mask w gs p h.mask
  earlier_by_mask p h e = sum_unflipped (λ k b. same_held k h) (λ k b. equal k.mask h.mask) (λ k b q. same_mask k h q e) (take p gs) (own_held w) (take_admitted p gs a) own

  met_unflipped : (p i : ℕ) → (held_before w gs p i).flip ≡ 0
  met_unflipped p i = from_unflipped (take p gs) (own_held w) (take_admitted p gs a) own i

  becomes_by_mask_lem : (p : ℕ) (g : Gate) → becomes w gs p g ≡ becomes_by_mask w gs p g
  becomes_by_mask_lem p (Cnot c t) = refl
  becomes_by_mask_lem p (Phase i b) =
      let h = held_before w gs p i in
      ap₂ (λ (n t : ℕ). first_only n (kept i t)) (earlier_by_mask p h (met_unflipped p i)) (total_by_mask h (met_unflipped p i))
  becomes_by_mask_lem p (Inverter i) = refl

  folds_by_mask : (p : ℕ) (rest : List Gate) → folded_from w gs p rest ≡ folded_by_mask_from w gs p rest
  unfolding folded_from folded_by_mask_from
  folds_by_mask p [] = refl
  folds_by_mask p (g ∷ rest) = ap₂ ◌++◌ (becomes_by_mask_lem p g) (folds_by_mask (suc p) rest)

-- a version 1 file that passes
module _ (f : List ℕ) (bytes : Bytes f) (side : ℕ) (good : outcome (file_checks side f) ≡ passed) (one : version_of f ≡ 1) where
  plain : AllAdmitted 1 (gates_of f)
  plain = subst (λ (v : ℕ). AllAdmitted v (gates_of f)) one (file_admitted f bytes (good_file side f good))

  pub no_inverters : inverters (gates_of f) ≡ 0
  no_inverters = none_counted (gates_of f) plain

  pub masks_alone : (s : ℕ) → coefficient (wires_of f) (gates_of f) s ≡ coefficient_by_mask (wires_of f) (gates_of f) s
  masks_alone = coefficients_by_mask (wires_of f) (gates_of f) plain

  pub folded_alone : folded (wires_of f) (gates_of f) ≡ folded_by_mask (wires_of f) (gates_of f)
  folded_alone = folds_by_mask (wires_of f) (gates_of f) plain 0 (gates_of f)

  pub zero_stays : (end_from (gates_of f) 0 ≡ 0) × (total_from (gates_of f) 0 ≡ 0)
  zero_stays = start_stays (gates_of f) plain

-- of two version 1 files the lowest differing state is never 0
pub never_at_zero : (f g work : List ℕ) (answer : Result Verdict Refusal) (after : List ℕ) → Compares f g work answer after → Bytes f → Bytes g → outcome (file_checks 0 f) ≡ passed → outcome (file_checks 1 g) ≡ passed
    → version_of f ≡ 1 → version_of g ≡ 1 → (s e h p : ℕ) → answer ≡ Ok (Different s e h p) → 1 ≤ s
never_at_zero f g work answer after m b d p q v w zero e h t r =
    let x = zero_stays f b 0 p v in
    let y = zero_stays g d 1 q w in
    absurd ((compare_named f g work answer after m zero e h t r).parts (record { ends = x.0 ∙ sym y.0; phases = ap (◌% 65536) (x.1 ∙ sym y.1) }))
never_at_zero f g work answer after m b d p q v w (suc s) e h t r = omega arith
