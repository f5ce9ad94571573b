-- Phase gates by the number that they meet: a sum over the gates, collected number by number.
use Rattle.std.proofs.Common.{◌≡◌, ℕ, suc, ◌+◌, ◌*◌, ◌^◌, ◌≤◌, List, [], ◌∷◌, length, get_or, sym, refl, ap, ◌∙◌, ap₂, add-mul, mul-zero, zero-mul, arith, pow_mono}
use Prim.Native.Nat.{◌∣◌}
use native.Mathlib.Nat.{dvd-zero, dvd-add}
use Rattle.numbers.specs.Bits.{equal}
use Rattle.numbers.specs.Sums.{sum}
use Rattle.numbers.proofs.Sums.{ℕ-adds, sum_of-ext, sum_of-none, sum_of-plus}
use Rattle.numbers.proofs.Lists.{length-list, get_or-list_else}
use Rattle.numbers.proofs.Parity.{equal_sym, equal_no}
use Rattle.numbers.proofs.Turns.{≈-of, ◌≈∙◌}
use Rattle.numbers.proofs.Subsets.{sum_pick}
use Rattle.circuit.specs.declared.Gate.{Gate}
use Rattle.circuit.specs.declared.Gate.TheVariants.{Cnot, Phase, Inverter}
use Rattle.running.specs.Run.{scores, score_by}
use Rattle.circuit.specs.File.{wires_of, gates_of}
use Rattle.running.specs.Masks.{most_wires}
use Rattle.running.specs.Groups.{group_total}
use Rattle.running.specs.Working.{held_of, most_groups, totals_of, own_numbers, numbers_after, Met, Unmet, At, met, met_by, sum_numbers}
use Rattle.running.proofs.Masks.{NumbersBelow, own_below, after_below, sum_none, sum_cons}
use Rattle.running.proofs.Held.{total_number}
use Rattle.running.proofs.Meetings.{sum_numbers-≈}

none : (n : ℕ) (f p : ℕ → ℕ) → ((m : ℕ) → f m ≡ 0) → sum n (λ m. f m * p m) ≡ 0
none n f p e = sum_of-ext 0 ◌+◌ n (λ m. f m * p m) (λ m. 0) (λ m l. ap (◌* p m) (e m) ∙ zero-mul (p m)) ∙ sum_of-none 0 ◌+◌ ℕ-adds n

module _ (h p : ℕ → ℕ) (v : ℕ) where
  -- one gate counts at its own number only
  one : (g : Gate) (ms : List ℕ) → NumbersBelow v ms → met_by (λ k a. h a * p k) (met g ms) ≡ sum (2 ^ suc v) (λ m. met_by (λ k a. h a * equal k m) (met g ms) * p m)
  one (Cnot c t) ms b = sym (none (2 ^ suc v) (λ m. 0) p (λ m. refl))
  one (Inverter i) ms b = sym (none (2 ^ suc v) (λ m. 0) p (λ m. refl))
  one (Phase i a) ms b =
      sym (sum_of-ext 0 ◌+◌ (2 ^ suc v) (λ m. h a * equal (get_or ms i 0) m * p m) (λ m. h a * p m * equal m (get_or ms i 0)) (λ m l. let e : h a * equal (get_or ms i 0) m * p m ≡ h a * p m * equal (get_or ms i 0) m = omega arith in e ∙ ap (h a * p m *◌) (equal_sym (get_or ms i 0) m)) ∙ sum_pick (2 ^ suc v) (get_or ms i 0) (λ m. h a * p m) (b i))

  -- a sum over the gates is the sum over the numbers of what each one's gates come to
  pub collect : (gs : List Gate) (ms : List ℕ) → NumbersBelow v ms → sum_numbers (λ k a. h a * p k) gs ms ≡ sum (2 ^ suc v) (λ m. sum_numbers (λ k a. h a * equal k m) gs ms * p m)
  collect [] ms b = sum_none (λ k a. h a * p k) ms ∙ sym (none (2 ^ suc v) (λ m. sum_numbers (λ k a. h a * equal k m) [] ms) p (λ m. sum_none (λ k a. h a * equal k m) ms))
  collect (g ∷ gs) ms b =
      sum_cons (λ k a. h a * p k) g gs ms ∙ ap₂ ◌+◌ (one g ms b) (collect gs (numbers_after g ms) (after_below v g ms b))
      ∙ sym (sum_of-plus 0 ◌+◌ ℕ-adds (2 ^ suc v) (λ m. met_by (λ k a. h a * equal k m) (met g ms) * p m) (λ m. sum_numbers (λ k a. h a * equal k m) gs (numbers_after g ms) * p m))
      ∙ sum_of-ext 0 ◌+◌ (2 ^ suc v) (λ m. met_by (λ k a. h a * equal k m) (met g ms) * p m + sum_numbers (λ k a. h a * equal k m) gs (numbers_after g ms) * p m) (λ m. sum_numbers (λ k a. h a * equal k m) (g ∷ gs) ms * p m)
      (λ m l. sym (ap (◌* p m) (sum_cons (λ k a. h a * equal k m) g gs ms) ∙ add-mul (met_by (λ k a. h a * equal k m) (met g ms)) (sum_numbers (λ k a. h a * equal k m) gs (numbers_after g ms)) (p m)))

-- if d divides g's term wherever f's is 0, then d divides g's sum where f's is 0
module _ (d : ℕ) (f g : ℕ → ℕ → ℕ) (h : (k a : ℕ) → f k a ≡ 0 → d ∣ g k a) where
  divides_term : (x : Met) → met_by f x ≡ 0 → d ∣ met_by g x
  divides_term Unmet e = dvd-zero d
  divides_term (At k a) e = h k a e

  pub divides_sum : (gs : List Gate) (ms : List ℕ) → sum_numbers f gs ms ≡ 0 → d ∣ sum_numbers g gs ms
  divides_sum [] ms e = rw (sum_none g ms) (dvd-zero d)
  divides_sum (x ∷ gs) ms e =
      let c = sum_cons f x gs ms in
      rw (sum_cons g x gs ms) (dvd-add d (divides_term (met x ms) (omega arith)) (divides_sum gs (numbers_after x ms) (omega arith)))

-- the score as such a sum, whatever the numbers
pub score_met : (d : ℕ) (gs : List Gate) (ms : List ℕ) → score_by d gs ≡ sum_numbers (λ k a. scores d a * 1) gs ms
unfolding score_by sum_numbers
score_met d [] ms = refl
score_met d (Cnot c t ∷ gs) ms = let r = score_met d gs (numbers_after (Cnot c t) ms) in omega arith
score_met d (Phase i a ∷ gs) ms = let r = score_met d gs ms in omega arith
score_met d (Inverter i ∷ gs) ms = let r = score_met d gs (numbers_after (Inverter i) ms) in omega arith

-- no gate meets a number of more than w + 1 bits
sum_nothing : (gs : List Gate) (ms : List ℕ) → sum_numbers (λ k a. 0) gs ms ≡ 0
unfolding sum_numbers
sum_nothing [] ms = refl
sum_nothing (Cnot c t ∷ gs) ms = let r = sum_nothing gs (numbers_after (Cnot c t) ms) in omega arith
sum_nothing (Phase i a ∷ gs) ms = let r = sum_nothing gs ms in omega arith
sum_nothing (Inverter i ∷ gs) ms = let r = sum_nothing gs (numbers_after (Inverter i) ms) in omega arith

pub no_group : (w : ℕ) (gs : List Gate) (n : ℕ) → 2 ^ suc w ≤ n → group_total w gs (held_of n) ≡ 0
no_group w gs n h =
    total_number w gs n
    ∙ (sum_numbers-≈ w (λ k a. a * equal k n) (λ k a. 0) (λ k a l. ≈-of (ap (a *◌) (equal_no (λ (e : k ≡ n). omega arith)) ∙ mul-zero a)) gs (own_numbers w) (own_below w)
    ≈∙ ≈-of (sum_nothing gs (own_numbers w))).alike

-- a file's row of totals
pub length-totals : (f : List ℕ) → length (totals_of f) ≡ most_groups
unfolding totals_of
length-totals f = length-list most_groups (λ k. group_total (wires_of f) (gates_of f) (held_of k))

-- a good file's row of totals has each group's
pub total_at_lem : (f : List ℕ) → wires_of f ≤ most_wires → (n : ℕ) → get_or (totals_of f) n 0 ≡ group_total (wires_of f) (gates_of f) (held_of n)
unfolding totals_of
total_at_lem f h n =
    get_or-list_else most_groups (λ k. group_total (wires_of f) (gates_of f) (held_of k)) n 0
    (λ l. sym (no_group (wires_of f) (gates_of f) n (omega (arith, pow_mono {i = wires_of f} {j = most_wires} h))))
