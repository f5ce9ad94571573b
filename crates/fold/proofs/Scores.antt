-- How many gates the folded list has and what they score, by the groups' totals; no score by a divisor of a full turn rises.
use Rattle.std.proofs.Common.{◌≡◌, ℕ, zero, suc, ◌+◌, ◌*◌, ◌^◌, ◌≤◌, Bool, true, false, eqb, List, length, sym, refl, ap, ◌∙◌, le_trans, mul-one, arith, pow_mono}
use Prim.Native.Nat.{◌∣◌}
use native.Mathlib.Nat.{dvd-zero, dvd-mul_left_of_dvd, dvd-mul_right_of_dvd, dvd-mod_iff, dvd_of_mod-eq-zero}
use Rattle.numbers.specs.Bits.{indicator, equal}
use Rattle.numbers.specs.Sums.{sum}
use Rattle.numbers.proofs.Sums.{sum_of-ext}
use Rattle.numbers.proofs.Singles.{sum-≤}
use Rattle.circuit.specs.declared.Gate.{Gate}
use Rattle.running.specs.Run.{free_turn, scores, score_by, cnots, score, inverters}
use Rattle.running.specs.Working.{own_numbers, sum_numbers}
use Rattle.running.proofs.Masks.{own_below}
use Rattle.running.proofs.Groups.{collect, divides_sum, score_met}
use Rattle.running.proofs.Counts.{scores_at_most_one, multiple_is_free, free_is_multiple}
use Rattle.running.proofs.Held.{total_number}
use Rattle.fold.specs.Fold.{folded}
use Rattle.fold.specs.Working.{staying}
use Rattle.fold.proofs.Remaining.{counts_remain}
use Rattle.fold.proofs.Positions.{total_at, folded_remains}
use Rattle.fold.proofs.Folding.{group_folded}

-- what an angle that does not score adds to its group is a multiple, and so is the 0 of another group's angle
unscored : (d a : ℕ) (b : Bool) → scores d a * indicator b ≡ 0 → d ∣ a * indicator b
unscored d a true e = dvd-mul_right_of_dvd d (free_is_multiple d a (omega arith)) 1
unscored d a false e = dvd-mul_left_of_dvd d (dvd-zero d) a

module _ (w : ℕ) (gs : List Gate) where
  -- what counts by the angle, of any list, group by group among those of v wires
  by_groups : (h : ℕ → ℕ) (v : ℕ) → w ≤ v → (hs : List Gate) → sum_numbers (λ k a. h a * 1) hs (own_numbers w) ≡ sum (2 ^ suc v) (λ n. sum_numbers (λ k a. h a * equal k n) hs (own_numbers w) * 1)
  by_groups h v l hs = collect h (λ n. 1) v hs (own_numbers w) (λ i. le_trans (own_below w i) (pow_mono {i = suc w} {j = suc v} (omega arith)))

  -- of the folded list it counts the totals, if it counts 0 as nothing
  counts_totals : (h : ℕ → ℕ) → h 0 ≡ 0 → (v : ℕ) → w ≤ v → sum_numbers (λ k a. h a * 1) (folded w gs) (own_numbers w) ≡ sum (2 ^ suc v) (λ n. h (total_at w gs n))
  counts_totals h none v l =
      by_groups h v l (folded w gs)
      ∙ sum_of-ext 0 ◌+◌ (2 ^ suc v) (λ n. sum_numbers (λ k a. h a * equal k n) (folded w gs) (own_numbers w) * 1) (λ n. h (total_at w gs n))
      (λ n k. mul-one (sum_numbers (λ k a. h a * equal k n) (folded w gs) (own_numbers w)) ∙ group_folded w gs h none n)

  -- the score afterwards is that of the totals
  pub score_of_totals : (d v : ℕ) → w ≤ v → score_by d (folded w gs) ≡ sum (2 ^ suc v) (λ n. scores d (total_at w gs n))
  score_of_totals d v h = score_met d (folded w gs) (own_numbers w) ∙ counts_totals (scores d) (multiple_is_free d 0 (dvd-zero d)) v h

  -- whatever divides a full turn divides a group's total if it divides each of its angles
  module _ (d : ℕ) (turn : d ∣ 65536) where
    pub free_total : (n : ℕ) → sum_numbers (λ k a. scores d a * equal k n) gs (own_numbers w) ≡ 0 → d ∣ total_at w gs n
    free_total n e =
        rw (total_number w gs n)
        ((dvd-mod_iff d turn).1 (divides_sum d (λ k a. scores d a * equal k n) (λ k a. a * equal k n) (λ k a. unscored d a (eqb k n)) gs (own_numbers w) e))

    -- a total that scores has a member that scores
    pub scored_member : (n : ℕ) → scores d (total_at w gs n) ≤ sum_numbers (λ k a. scores d a * equal k n) gs (own_numbers w)
    scored_member n = by (sum_numbers (λ k a. scores d a * equal k n) gs (own_numbers w)) refl
      where
        by : (c : ℕ) → sum_numbers (λ k a. scores d a * equal k n) gs (own_numbers w) ≡ c → scores d (total_at w gs n) ≤ c
        by zero e = omega (arith, multiple_is_free d (total_at w gs n) (free_total n e))
        by (suc c) e = omega (arith, scores_at_most_one d (total_at w gs n))

    -- so no score rises, group by group
    pub any_score_falls : score_by d (folded w gs) ≤ score_by d gs
    any_score_falls =
        rw (score_of_totals d w (omega arith), score_met d gs (own_numbers w), by_groups (scores d) w (omega arith) gs)
        (sum-≤ (2 ^ suc w) (λ n. scores d (total_at w gs n)) (λ n. sum_numbers (λ k a. scores d a * equal k n) gs (own_numbers w) * 1) (λ n l. omega (arith, scored_member n)))

  -- 02 §2, "folding never raises the new score"
  pub score_falls : score (folded w gs) ≤ score gs
  score_falls = any_score_falls free_turn (dvd_of_mod-eq-zero free_turn refl)

  -- what stays are the CNOTs and the inverters, and a gate for each total that is not 0
  pub length-folded : (v : ℕ) → w ≤ v → length (folded w gs) ≡ cnots gs + inverters gs + sum (2 ^ suc v) (λ n. staying (total_at w gs n))
  length-folded v h =
      ap length (folded_remains w gs) ∙ counts_remain (total_at w gs) gs (own_numbers w)
      ∙ ap (cnots gs + inverters gs +◌) (ap (λ (l : List Gate). sum_numbers (λ k a. staying a * 1) l (own_numbers w)) (sym (folded_remains w gs)) ∙ counts_totals staying refl v h)
