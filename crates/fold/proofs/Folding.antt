-- What folding keeps, over every number of wires: the CNOTs and inverters, every group's total, every run, and itself when folded again.
use Rattle.std.proofs.Common.{◌≡◌, ℕ, zero, suc, ◌+◌, ◌*◌, ◌%◌, ◌^◌, ◌<◌, ◌≤◌, eqb, List, [], ◌∷◌, length, get_or, sym, refl, ap, ◌∙◌, ap₂, arith}
use native.Mathlib.Nat.{mod-mod, dvd-zero, dvd-mul_left_of_dvd, mod-eq-zero_of_dvd}
use Rattle.numbers.specs.Bits.{equal, dot}
use Rattle.numbers.specs.Search.{least}
use Rattle.numbers.specs.Working.{◌≈◌}
use Rattle.numbers.proofs.Turns.{≈-of, ≈-mod, ≈-scale, ◌≈∙◌}
use Rattle.numbers.proofs.Angles.{≈-sum}
use Rattle.circuit.specs.declared.Gate.{Gate}
use Rattle.circuit.specs.declared.Gate.TheVariants.{Cnot, Phase, Inverter}
use Rattle.circuit.specs.Working.{AllSound, AllAdmitted}
use Rattle.running.specs.Run.{stepped, end_from, total_from, phase_from, cnots, inverters}
use Rattle.running.specs.Working.{held_of, own_numbers, numbers_after, numbers_from, sum_numbers, start_of}
use Rattle.running.proofs.Masks.{own_below, total_parity}
use Rattle.running.proofs.Groups.{collect, divides_sum}
use Rattle.running.specs.Masks.{held, held_at, own_held, held_from}
use Rattle.running.specs.Groups.{same_held}
use Rattle.running.specs.Ends.{lowest_loose}
use Rattle.running.proofs.Held.{held_number, total_number}
use Rattle.fold.specs.Working.{moves_of}
use Rattle.fold.specs.Fold.{folded}
use Rattle.fold.proofs.Remaining.{remains, same_function, if_met, moves_remain, sound_remains, admitted_remains, length-remains, remains_twice, group_remains}
use Rattle.fold.proofs.Positions.{total_at, folded_remains}

-- only CNOTs and inverters change what wires hold, and states
pub numbers_of_moves : (gs : List Gate) (ms : List ℕ) → numbers_from (moves_of gs) ms ≡ numbers_from gs ms
unfolding moves_of numbers_from
numbers_of_moves [] ms = refl
numbers_of_moves (Cnot c t ∷ gs) ms = numbers_of_moves gs (numbers_after (Cnot c t) ms)
numbers_of_moves (Phase i a ∷ gs) ms = numbers_of_moves gs ms
numbers_of_moves (Inverter i ∷ gs) ms = numbers_of_moves gs (numbers_after (Inverter i) ms)

pub end_of_moves : (gs : List Gate) (s : ℕ) → end_from (moves_of gs) s ≡ end_from gs s
unfolding moves_of end_from
end_of_moves [] s = refl
end_of_moves (Cnot c t ∷ gs) s = end_of_moves gs (stepped (Cnot c t) s)
end_of_moves (Phase i a ∷ gs) s = end_of_moves gs s
end_of_moves (Inverter i ∷ gs) s = end_of_moves gs (stepped (Inverter i) s)

cnots_of_moves : (gs : List Gate) → cnots (moves_of gs) ≡ cnots gs
unfolding moves_of cnots
cnots_of_moves [] = refl
cnots_of_moves (Cnot c t ∷ gs) = ap (1 +◌) (cnots_of_moves gs)
cnots_of_moves (Phase i a ∷ gs) = cnots_of_moves gs
cnots_of_moves (Inverter i ∷ gs) = cnots_of_moves gs

inverters_of_moves : (gs : List Gate) → inverters (moves_of gs) ≡ inverters gs
unfolding moves_of inverters
inverters_of_moves [] = refl
inverters_of_moves (Cnot c t ∷ gs) = inverters_of_moves gs
inverters_of_moves (Phase i a ∷ gs) = inverters_of_moves gs
inverters_of_moves (Inverter i ∷ gs) = ap (1 +◌) (inverters_of_moves gs)

module _ (w : ℕ) (gs : List Gate) where
  -- "CNOTs stay in order", and inverters among them
  pub same_moves : moves_of (folded w gs) ≡ moves_of gs
  same_moves = ap moves_of (folded_remains w gs) ∙ moves_remain (total_at w gs) gs (own_numbers w)

  -- so whatever goes by them alone is as before
  by_moves : {A : Type 0} (f : List Gate → A) → ((l : List Gate) → f (moves_of l) ≡ f l) → f (folded w gs) ≡ f gs
  by_moves f e = sym (e (folded w gs)) ∙ ap f same_moves ∙ e gs

  pub same_numbers : (ms : List ℕ) → numbers_from (folded w gs) ms ≡ numbers_from gs ms
  same_numbers ms = by_moves (λ l. numbers_from l ms) (λ l. numbers_of_moves l ms)

  pub same_held_lem : (i : ℕ) → held_at (held_from (folded w gs) (own_held w)) i ≡ held_at (held_from gs (own_held w)) i
  same_held_lem i = held_number w (folded w gs) i ∙ ap (λ (ns : List ℕ). held_of (get_or ns i 0)) (same_numbers (own_numbers w)) ∙ sym (held_number w gs i)

  -- what comes back still does, and what does not does not
  pub same_loose : lowest_loose w (folded w gs) ≡ lowest_loose w gs
  same_loose j = least (λ i. eqb (same_held (same_held_lem i j) (held (2 ^ i) 0)) 0) w 0

  pub same_end : (s : ℕ) → end_from (folded w gs) s ≡ end_from gs s
  same_end s = by_moves (λ l. end_from l s) (λ l. end_of_moves l s)

  pub same_number_of_cnots : cnots (folded w gs) ≡ cnots gs
  same_number_of_cnots = by_moves cnots cnots_of_moves

  pub same_number_of_inverters : inverters (folded w gs) ≡ inverters gs
  same_number_of_inverters = by_moves inverters inverters_of_moves

  pub total_below : (n : ℕ) → total_at w gs n < 65536
  total_below n = omega arith

  -- good gates on the same wires, and never more of them
  pub folded_sound : AllSound w gs → AllSound w (folded w gs)
  folded_sound h = rw (folded_remains w gs) (sound_remains w (total_at w gs) gs (own_numbers w) total_below h)

  pub folded_admitted : (v : ℕ) → AllAdmitted v gs → AllAdmitted v (folded w gs)
  folded_admitted v h = rw (folded_remains w gs) (admitted_remains v (total_at w gs) gs (own_numbers w) h)

  pub folded_shorter : length (folded w gs) ≤ length gs
  folded_shorter = rw (folded_remains w gs) (length-remains (total_at w gs) gs (own_numbers w))

  -- a group without a gate has total 0
  unmet : (n : ℕ) → sum_numbers (λ k a. equal k n) gs (own_numbers w) ≡ 0 → total_at w gs n ≡ 0
  unmet n e =
      total_number w gs n
      ∙ mod-eq-zero_of_dvd 65536 (divides_sum 65536 (λ k a. equal k n) (λ k a. a * equal k n) (λ k a d. rw d (dvd-mul_left_of_dvd 65536 (dvd-zero 65536) a)) gs (own_numbers w) e)

  -- whatever counts by the angle, and counts 0 as nothing, counts of a group what it counts of the total
  pub group_folded : (h : ℕ → ℕ) → h 0 ≡ 0 → (n : ℕ) → sum_numbers (λ k a. h a * equal k n) (folded w gs) (own_numbers w) ≡ h (total_at w gs n)
  group_folded h none n =
      ap (λ (l : List Gate). sum_numbers (λ k a. h a * equal k n) l (own_numbers w)) (folded_remains w gs) ∙ group_remains h none n (total_at w gs) gs (own_numbers w)
      ∙ by (sum_numbers (λ k a. equal k n) gs (own_numbers w)) refl
    where
      by : (c : ℕ) → sum_numbers (λ k a. equal k n) gs (own_numbers w) ≡ c → if_met c (h (total_at w gs n)) ≡ h (total_at w gs n)
      by zero e = sym (ap h (unmet n e) ∙ none)
      by (suc c) e = refl

  pub same_total : (n : ℕ) → total_at w (folded w gs) n ≡ total_at w gs n
  same_total n =
      total_number w (folded w gs) n ∙ ap (◌% 65536) (group_folded (λ a. a) refl n ∙ total_number w gs n)
      ∙ mod-mod (sum_numbers (λ k a. a * equal k n) gs (own_numbers w)) 65536 ∙ sym (total_number w gs n)

  -- any sum over the phase gates by angle and number is the same angle as before
  pub fold_sum : (p : ℕ → ℕ) → sum_numbers (λ n a. a * p n) (folded w gs) (own_numbers w) ≈ sum_numbers (λ n a. a * p n) gs (own_numbers w)
  fold_sum p =
      ≈-of (collect (λ a. a) p w (folded w gs) (own_numbers w) (own_below w))
      ≈∙ ≈-sum (2 ^ suc w) (λ n. sum_numbers (λ k a. a * equal k n) (folded w gs) (own_numbers w) * p n) (λ n. sum_numbers (λ k a. a * equal k n) gs (own_numbers w) * p n)
      (λ n l. ≈-scale (p n) (≈-of (group_folded (λ a. a) refl n ∙ total_number w gs n) ≈∙ ≈-mod (sum_numbers (λ k a. a * equal k n) gs (own_numbers w))))
      ≈∙ ≈-of (sym (collect (λ a. a) p w gs (own_numbers w) (own_below w)))

  -- every start has the same phase
  pub folded_total : AllSound w gs → (x : ℕ) → total_from (folded w gs) x ≈ total_from gs x
  folded_total h x = ≈-of (total_parity w (folded w gs) (folded_sound h) x) ≈∙ fold_sum (λ n. dot n (start_of x)) ≈∙ ≈-of (sym (total_parity w gs h x))

  pub same_phase : AllSound w gs → (x : ℕ) → phase_from (folded w gs) x ≡ phase_from gs x
  same_phase h x = (folded_total h x).alike

  -- folding the folded list changes nothing
  pub folded_twice : folded w (folded w gs) ≡ folded w gs
  folded_twice =
      folded_remains w (folded w gs)
      ∙ ap₂ (λ (T : ℕ → ℕ) (l : List Gate). remains T l (own_numbers w)) (same_function (total_at w (folded w gs)) (total_at w gs) same_total) (folded_remains w gs)
      ∙ remains_twice (total_at w gs) gs (own_numbers w) ∙ sym (folded_remains w gs)
