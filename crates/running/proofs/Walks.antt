-- The walks over a list of gates come to what the definitions say: a run, a count, and the groups' totals, each at its number.
use Rattle.std.proofs.Common.{◌≡◌, ℕ, suc, ◌+◌, ◌*◌, ◌%◌, ◌^◌, ◌<◌, List, [], ◌∷◌, length, get_or, set, replicate, sym, refl, ap, ◌∙◌, ap₂, add-zero, add_assoc, mul-zero, zero-add, mul-one, arith, length-set, get_or-set_other, get_or-set_same}
use native.Mathlib.Decide.{ℕ_discrete}
use lib.ListN.{length-replicate}
use Rattle.numbers.specs.Bits.{equal}
use Rattle.numbers.proofs.Lists.{is_list}
use Rattle.numbers.proofs.Parity.{equal_yes, equal_no}
use Rattle.circuit.specs.declared.Gate.{Gate}
use Rattle.circuit.specs.declared.Gate.TheVariants.{Cnot, Phase, Inverter}
use Rattle.circuit.specs.Bytes.{Bytes}
use Rattle.circuit.specs.File.{wires_of, gates_of}
use Rattle.circuit.specs.Working.{walked}
use Rattle.circuit.proofs.Callers.{GoodFile}
use Rattle.circuit.proofs.Files.{file_sound}
use Rattle.running.specs.Run.{stepped, added, end_from, total_from, cnots, score_by, score, inverters}
use Rattle.running.specs.Masks.{most_wires}
use Rattle.running.specs.Groups.{group_total}
use Rattle.running.specs.Working.{held_of, most_groups, totals_of, own_numbers, numbers_after, numbers_from, At, sum_numbers, run_step, count_step, add_met, sum_step}
use Rattle.running.proofs.Counts.{cnots_cons, score_cons, inverters_cons}
use Rattle.running.proofs.Masks.{NumbersBelow, own_below, after_below, own_alike, sum_alike, zeros}
use Rattle.running.proofs.Held.{total_number}

pub run_walked : (gs : List Gate) (s p : ℕ) → p < 65536 → walked run_step gs (s, p) ≡ (end_from gs s, (p + total_from gs s) % 65536)
unfolding walked end_from total_from
run_walked [] s p h = ap (λ (n : ℕ). (s, n)) (omega arith)
run_walked (g ∷ gs) s p h =
    run_walked gs (stepped g s) ((p + added g s) % 65536) (omega arith)
    ∙ ap (λ (n : ℕ). (end_from gs (stepped g s), n)) (let e : ((p + added g s) % 65536 + total_from gs (stepped g s)) % 65536 ≡ (p + (added g s + total_from gs (stepped g s))) % 65536 = omega arith in e)

-- three numbers as one
pub three : {a b c d e f : ℕ} → a ≡ d → b ≡ e → c ≡ f → ◌≡◌ {A = ℕ × ℕ × ℕ} (a, b, c) (d, e, f)
three p q r i = (p i, q i, r i)

pub count_walked : (gs : List Gate) (c s x : ℕ) → walked count_step gs (c, s, x) ≡ (c + cnots gs, s + score gs, x + inverters gs)
unfolding walked cnots score_by inverters
count_walked [] c s x = three (sym (add-zero c)) (sym (add-zero s)) (sym (add-zero x))
count_walked (g ∷ gs) c s x =
    count_walked gs (c + cnots (g ∷ [])) (s + score (g ∷ [])) (x + inverters (g ∷ []))
    ∙ three (add_assoc c (cnots (g ∷ [])) (cnots gs) ∙ ap (c +◌) (sym (cnots_cons g gs))) (add_assoc s (score (g ∷ [])) (score gs) ∙ ap (s +◌) (sym (score_cons g gs)))
    (add_assoc x (inverters (g ∷ [])) (inverters gs) ∙ ap (x +◌) (sym (inverters_cons g gs)))

-- what the wires hold behind a walk, whatever else its state has
module _ {S : Type 0} (step : Gate → S → S) (held : S → List ℕ) (each : (g : Gate) (s : S) → held (step g s) ≡ numbers_after g (held s)) where
  pub held_walked : (gs : List Gate) (s : S) → held (walked step gs s) ≡ numbers_from gs (held s)
  unfolding walked numbers_from
  held_walked [] s = refl
  held_walked (g ∷ gs) s = held_walked gs (step g s) ∙ ap (numbers_from gs) (each g s)

-- a row of all groups' totals, each less than a turn
record Row (row : List ℕ) : Type 0 where
  pub long : length row ≡ most_groups
  pub small : (m : ℕ) → get_or row m 0 < 65536

module _ (row : List ℕ) (h : Row row) (k a : ℕ) (l : k < 2 ^ suc most_wires) where
  abbrev sum_of : ℕ
  sum_of = (get_or row k 0 + a) % 65536

  angle_added : (m : ℕ) → get_or (add_met (At k a) row) m 0 ≡ (get_or row m 0 + a * equal k m) % 65536
  angle_added m = by (ℕ_discrete m k)
    where
      by : Dec (m ≡ k) → get_or (set row k sum_of) m 0 ≡ (get_or row m 0 + a * equal k m) % 65536
      by (yes e) = rw (e, get_or-set_same row k sum_of 0 (omega (arith, h.long)), equal_yes {a = k} {b = k} refl) (ap (λ (n : ℕ). (get_or row k 0 + n) % 65536) (sym (mul-one a)))
      by (no e) = rw (get_or-set_other row k m sum_of 0 e, equal_no (λ (q : k ≡ m). e (sym q)), mul-zero a) (let s = h.small m in omega arith)

  added_row : Row (add_met (At k a) row)
  added_row = record { long = length-set row k sum_of ∙ h.long; small = λ m. rw (angle_added m) (omega arith) }

-- what stands at a number: what stood there, and the angles of the gates that met it
totals_walked : (gs : List Gate) (ms row : List ℕ) → NumbersBelow most_wires ms → Row row
    → Row (walked sum_step gs (ms, row)).1 × ((m : ℕ) → get_or (walked sum_step gs (ms, row)).1 m 0 ≡ (get_or row m 0 + sum_numbers (λ k a. a * equal k m) gs ms) % 65536)
unfolding walked sum_numbers
totals_walked [] ms row b h = (h, λ m. let s = h.small m in omega arith)
totals_walked (Cnot c t ∷ gs) ms row b h =
    let r = totals_walked gs (numbers_after (Cnot c t) ms) row (after_below most_wires (Cnot c t) ms b) h in
    (r.0, λ m. r.1 m ∙ omega arith)
totals_walked (Inverter i ∷ gs) ms row b h =
    let r = totals_walked gs (numbers_after (Inverter i) ms) row (after_below most_wires (Inverter i) ms b) h in
    (r.0, λ m. r.1 m ∙ omega arith)
totals_walked (Phase i a ∷ gs) ms row b h =
    let k = get_or ms i 0 in
    let r = totals_walked gs ms (add_met (At k a) row) b (added_row row h k a (b i)) in
    (r.0, λ m. r.1 m ∙ rw (angle_added row h k a (b i) m) (let n = sum_numbers (λ k a. a * equal k m) gs ms in let e : ((get_or row m 0 + a * equal k m) % 65536 + n) % 65536 ≡ (get_or row m 0 + (a * equal k m + n)) % 65536 = omega arith in e))

-- a good file's totals
module _ (f : List ℕ) (bytes : Bytes f) (good : GoodFile f) (held row : List ℕ) (e : (held, row) ≡ walked sum_step (gates_of f) (own_numbers most_wires, replicate most_groups 0)) where
  empty : Row (replicate most_groups 0)
  empty = record { long = length-replicate {A = ℕ} most_groups 0; small = λ m. rw (zeros most_groups m) (omega arith) }

  pub file_totals : row ≡ totals_of f
  unfolding totals_of
  file_totals =
      let w = wires_of f in
      let r = totals_walked (gates_of f) (own_numbers most_wires) (replicate most_groups 0) (own_below most_wires) empty in
      ap (λ (s : List ℕ × List ℕ). s.1) e
      ∙ is_list 0 (walked sum_step (gates_of f) (own_numbers most_wires, replicate most_groups 0)).1 most_groups (λ n. group_total w (gates_of f) (held_of n)) r.0.long
      (λ m l. r.1 m ∙ ap₂ (λ (a b : ℕ). (a + b) % 65536) (zeros most_groups m) (sum_alike (λ k a. a * equal k m) w (gates_of f) (own_numbers most_wires) (own_numbers w) (file_sound f bytes good) (own_alike most_wires w good.few))
      ∙ ap (◌% 65536) (zero-add (sum_numbers (λ k a. a * equal k m) (gates_of f) (own_numbers w))) ∙ sym (total_number w (gates_of f) m))
