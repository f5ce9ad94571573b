-- 01, "a comparison that tries the first states only": two sides that part at the last state and nowhere else, so that whoever tries fewer states calls them the same.
-- For compare two circuits on 10 wires, for judge a table of 8 variables: the most that there are.
use Prim.Native.Nat.{ℕ, zero, suc, ◌+◌, ◌*◌, ◌%◌, ◌^◌, ◌<◌, ◌≤◌}
use native.Mathlib.Decide.{dec_lt, ℕ_discrete}
use native.Mathlib.Omega.{arith}
use mathlib.Core.Path.{◌≡◌, refl, sym, ap, ◌∙◌}
use mathlib.Core.Bool.{cond}
use mathlib.Core.List.{List, [], ◌∷◌, ◌++◌}
use borrow.Author.Tests.{lt-ltb, le-ltb, ne_eqb}
use lib.Dec.{ltb, eqb}
use lib.ListN.{replicate, length-replicate}
use lib.Pow.{pow-add}
use Rattle.std.specs.Prelude.{Result, Ok}
use Rattle.numbers.specs.Bits.{bit}
use Rattle.numbers.specs.Sums.{sum}
use Rattle.numbers.specs.Turn.{difference}
use Rattle.numbers.proofs.Search.{Lowest}
use Rattle.refusal.specs.declared.Refusal.{Refusal}
use Rattle.refusal.specs.Checks.{passed, outcome}
use Rattle.table.specs.Table.{value_at}
use Rattle.circuit.specs.Gates.{bytes_of, gates_from}
use Rattle.circuit.specs.Working.{AllSound, AllAdmitted}
use Rattle.circuit.specs.File.{wires_of, gates_of, file_checks, file_of}
use Rattle.circuit.proofs.Files.{wires_written, list_written, written_passes}
use Rattle.running.specs.Run.{end_from, phase_from, total_from}
use Rattle.build.specs.Construction.{construction}
use Rattle.build.proofs.Circuits.{sound_construction, admitted_construction}
use Rattle.build.proofs.Files.{construction_count}
use Rattle.verdict.specs.declared.Verdict.{Verdict}
use Rattle.verdict.specs.declared.Verdict.TheVariants.{Same, Different}
use Rattle.verdict.specs.Verdicts.{Side, circuit, ideal, verdict, Agree}
use Rattle.verdict.specs.Judging.{Compares, Judges}
use Rattle.verdict.proofs.Lowest.{lowest_part, verdict_found}
use Rattle.verdict.proofs.Callers.{compare_gives, compare_passes, judge_gives, judge_passes}
use Rattle.promises.specs.Wrong.{Unacceptable, ComparesAt, JudgesAt, verdict_among, TriesFirst, JudgesFirst}
use Rattle.promises.proofs.Demand3.{split_state, construction_agrees}

past_same : (x k : ℕ) (v : Verdict) → k ≤ x → cond (ltb x k) v Same ≡ Same
past_same x k v h = rw (le-ltb x k h)

-- where n states agree, the verdict of k of them is Same
among_same : (a b : Side) (n k : ℕ) → ((x : ℕ) → x < n → Agree a b x) → k ≤ n → verdict_among k a b ≡ Same
among_same a b n k agrees h = past_same _ k _ (none _ (lowest_part a b k))
  where
    none : (x : ℕ) → Lowest (Agree a b) k x → k ≤ x
    none x l = by (dec_lt x k)
      where
        by : Dec (x < k) → k ≤ x
        by (yes p) = absurd (l.there p (agrees x (omega arith)))
        by (no p) = omega arith

-- where only the last of 2^w states parts, the verdict names it
verdict_last : (w l : ℕ) (a b : Side) → suc l ≡ 2 ^ w → ((x : ℕ) → x < l → Agree a b x) → (Agree a b l → ⊥) → verdict w a b ≡ Different l (a.end l) (b.end l) (difference (a.phase l) (b.phase l))
verdict_last w l a b e agrees parts = verdict_found a b w l (record { within = omega arith; before = agrees; there = λ h. parts }) ∙ rw (lt-ltb l (2 ^ w) (omega arith))

-- a circuit of no gates turns nothing
pub nothing : ℕ → List ℕ
nothing w = file_of 1 w []

still : Side
still = record { end = λ s. s; phase = λ s. 0 }

nothing_does : (w s : ℕ) → Agree (circuit (gates_of (nothing w))) still s
unfolding nothing still file_of bytes_of gates_from end_from total_from
nothing_does w s = record { ends = refl; phases = refl }

nothing_passes : (w side : ℕ) → 1 ≤ w → w ≤ 10 → outcome (file_checks side (nothing w)) ≡ passed
unfolding nothing AllSound AllAdmitted
nothing_passes w side some few = written_passes 1 w [] tt tt side (omega arith) (omega arith) some few (omega arith)

nothing_wires : (w : ℕ) → wires_of (nothing w) ≡ w
unfolding nothing
nothing_wires w = wires_written 1 w []

-- where f is 0 but at the last x, its ideal turns the last state alone
module _ (n : ℕ) (f : ℕ → ℕ) (zeros : (x : ℕ) → suc x < 2 ^ n → f x ≡ 0) where
  last_only : (s : ℕ) → suc s < 2 ^ (n + 1) → Agree (ideal n f) still s
  unfolding still
  last_only s h = record { ends = refl; phases = ap (32768 *◌) (none (ℕ_discrete (bit s n) 0)) }
    where
      none : Dec (bit s n ≡ 0) → f (s % 2 ^ n) * bit s n ≡ 0
      none (yes e) = ap (f (s % 2 ^ n) *◌) e ∙ omega arith
      none (no e) =
          let b : bit s n ≡ 1 = omega arith in
          let c : s ≡ s % 2 ^ n + 1 * 2 ^ n = split_state n s (omega arith) ∙ ap (λ (y : ℕ). s % 2 ^ n + y * 2 ^ n) b in
          ap (◌* bit s n) (zeros (s % 2 ^ n) (omega (arith, pow-add 2 n 1))) ∙ omega arith

-- ---- compare: the construction for the function of 9 variables that is 1 where all of them are, and the circuit of no gates

all_nine : ℕ → ℕ
all_nine x = cond (eqb x 511) 1 0

nine_value : (x : ℕ) → all_nine x < 2
unfolding all_nine
nine_value x = by (ℕ_discrete x 511)
  where
    by : Dec (x ≡ 511) → cond (eqb x 511) 1 0 < 2
    by (yes e) = rw e (omega arith)
    by (no e) = rw (ne_eqb x 511 e) (omega arith)

nine_zero : (x : ℕ) → suc x < 2 ^ 9 → all_nine x ≡ 0
unfolding all_nine
nine_zero x h = rw (ne_eqb x 511 (λ e. omega arith))

-- 10 wires and 2,046 gates
pub oracle : List ℕ
oracle = file_of 1 10 (construction 9 all_nine)

oracle_passes : (side : ℕ) → outcome (file_checks side oracle) ≡ passed
unfolding oracle
oracle_passes side = written_passes 1 10 (construction 9 all_nine) (sound_construction 9 all_nine) (admitted_construction 1 9 all_nine) side (omega arith) (omega arith) (omega arith) (omega arith) (omega (arith, construction_count 9 all_nine (omega arith)))

oracle_wires : wires_of oracle ≡ 10
unfolding oracle
oracle_wires = wires_written 1 10 (construction 9 all_nine)

oracle_agrees : (s : ℕ) → s < 1024 → Agree (circuit (gates_of oracle)) (ideal 9 all_nine) s
unfolding oracle
oracle_agrees s h = rw (list_written 1 10 (construction 9 all_nine) (sound_construction 9 all_nine) (admitted_construction 1 9 all_nine)) (construction_agrees 9 all_nine (omega arith) nine_value s h)

agrees : (s : ℕ) → s < 1023 → Agree (circuit (gates_of oracle)) (circuit (gates_of (nothing 10))) s
agrees s h =
    let o = oracle_agrees s (omega arith) in
    let i = last_only 9 all_nine nine_zero s (omega arith) in
    let n = nothing_does 10 s in
    record { ends = o.ends ∙ i.ends ∙ sym n.ends; phases = o.phases ∙ i.phases ∙ sym n.phases }

turned_last : phase_from (gates_of oracle) 1023 ≡ 32768
unfolding all_nine
turned_last = (oracle_agrees 1023 (omega arith)).phases

parts_last : Agree (circuit (gates_of oracle)) (circuit (gates_of (nothing 10))) 1023 → ⊥
unfolding still
parts_last a =
    let e : ◌≡◌ {A = ℕ} 32768 0 = sym turned_last ∙ a.phases ∙ (nothing_does 10 1023).phases in
    omega arith

-- the two pass every check, and part at the last state alone
pub last_state : (answer : Result Verdict Refusal) (after : List ℕ) → Compares oracle (nothing 10) (replicate 1024 0) answer after → answer ≡ Ok (Different 1023 1023 1023 32768)
unfolding still
last_state answer after m =
    let a = circuit (gates_of oracle) in
    let b = circuit (gates_of (nothing 10)) in
    compare_gives oracle (nothing 10) (replicate 1024 0) answer after m
    (compare_passes oracle (nothing 10) (replicate 1024 0) (oracle_passes 0) (nothing_passes 10 1 (omega arith) (omega arith)) (oracle_wires ∙ sym (nothing_wires 10)) (omega (arith, ap (2 ^◌) oracle_wires, length-replicate {A = ℕ} 1024 0)))
    ∙ ap (λ (w : ℕ). Ok (verdict w a b)) oracle_wires ∙ ap Ok (verdict_last 10 1023 a b refl agrees parts_last)
    ∙ rw ((oracle_agrees 1023 (omega arith)).ends, (nothing_does 10 1023).ends, turned_last, (nothing_does 10 1023).phases)

-- whoever tries at most 1,023 of the 1,024 states
pub first_states_only : (k : ℕ) → k ≤ 1023 → Unacceptable ComparesAt (TriesFirst k)
first_states_only k h = record {
  input = (oracle, nothing 10, replicate 1024 0);
  fails = λ a x e m.
      let q : Same ≡ Different 1023 1023 1023 32768 = cc (sym (among_same (circuit (gates_of oracle)) (circuit (gates_of (nothing 10))) 1023 k agrees h), sym e ∙ last_state a x m) in
      let z : ◌≡◌ {A = ℕ} 0 1 = cc in
      omega arith;
}

-- ---- judge: the circuit of no gates, and the table of 8 variables that is 1 where all of them are

pub all_eight : List ℕ
all_eight = replicate 31 0 ++ (0x80 ∷ [])

-- a sum is 0 only where each term is
no_term : (n : ℕ) (f : ℕ → ℕ) → sum n f ≡ 0 → (i : ℕ) → i < n → f i ≡ 0
no_term zero f e i h = absurd (omega arith)
no_term (suc n) f e i h = by (no_term n f (omega arith) i) (ℕ_discrete i n)
  where
    by : (i < n → f i ≡ 0) → Dec (i ≡ n) → f i ≡ 0
    by before (yes p) = ap f p ∙ omega arith
    by before (no p) = before (omega (arith, p))

eight_zero : (x : ℕ) → suc x < 2 ^ 8 → value_at all_eight x ≡ 0
unfolding all_eight
eight_zero x h = no_term 255 (value_at all_eight) refl x (omega arith)

judged_agrees : (s : ℕ) → s < 511 → Agree (circuit (gates_of (nothing 9))) (ideal 8 (value_at all_eight)) s
judged_agrees s h =
    let i = last_only 8 (value_at all_eight) eight_zero s (omega arith) in
    let n = nothing_does 9 s in
    record { ends = n.ends ∙ sym i.ends; phases = n.phases ∙ sym i.phases }

judged_parts : Agree (circuit (gates_of (nothing 9))) (ideal 8 (value_at all_eight)) 511 → ⊥
unfolding all_eight still
judged_parts a =
    let e : ◌≡◌ {A = ℕ} 0 32768 = sym (nothing_does 9 511).phases ∙ a.phases in
    omega arith

-- the call passes every check, and the two part at the last state alone
pub last_state_judged : (answer : Result Verdict Refusal) (after : List ℕ) → Judges 8 all_eight (nothing 9) (replicate 512 0) answer after → answer ≡ Ok (Different 511 511 511 32768)
unfolding all_eight still outcome
last_state_judged answer after m =
    let a = circuit (gates_of (nothing 9)) in
    let b = ideal 8 (value_at all_eight) in
    judge_gives 8 all_eight (nothing 9) (replicate 512 0) answer after m
    (judge_passes 8 all_eight (nothing 9) (replicate 512 0) refl (nothing_passes 9 0 (omega arith) (omega arith)) (nothing_wires 9) (omega (arith, ap (2 ^◌) (nothing_wires 9), length-replicate {A = ℕ} 512 0)))
    ∙ ap (λ (w : ℕ). Ok (verdict w a b)) (nothing_wires 9) ∙ ap Ok (verdict_last 9 511 a b refl judged_agrees judged_parts)
    ∙ rw ((nothing_does 9 511).ends, (nothing_does 9 511).phases)

-- whoever tries at most 511 of the 512 states
pub first_states_judged : (k : ℕ) → k ≤ 511 → Unacceptable JudgesAt (JudgesFirst k)
first_states_judged k h = record {
  input = (8, all_eight, nothing 9, replicate 512 0);
  fails = λ a x e m.
      let q : Same ≡ Different 511 511 511 32768 = cc (sym (among_same (circuit (gates_of (nothing 9))) (ideal 8 (value_at all_eight)) 511 k judged_agrees h), sym e ∙ last_state_judged a x m) in
      let z : ◌≡◌ {A = ℕ} 0 1 = cc in
      omega arith;
}
