-- The third demand of any two circuits, and of a circuit and a table: for every pair of files and every table that pass the checks, whoever made the file.
use Prim.Native.Nat.{ℕ, suc, ◌+◌, ◌^◌, ◌<◌, ◌≤◌}
use mathlib.Core.Path.{◌≡◌, refl, sym, ap, ◌∙◌}
use mathlib.Core.Logic.{inl, inr}
use mathlib.Core.List.{List}
use lib.ListN.{length}
use Rattle.std.specs.Prelude.{Result, Ok}
use Rattle.refusal.specs.declared.Refusal.{Refusal}
use Rattle.refusal.specs.Checks.{passed, outcome}
use Rattle.table.specs.Table.{table_checks, value_at}
use Rattle.circuit.specs.declared.Gate.{Gate}
use Rattle.circuit.specs.Working.{AllSound}
use Rattle.circuit.specs.File.{wires_of, gates_of, file_checks}
use Rattle.running.specs.Run.{end_from}
use Rattle.verdict.specs.declared.Verdict.{Verdict}
use Rattle.verdict.specs.declared.Verdict.TheVariants.{Same, Different}
use Rattle.coefficients.specs.Coefficients.{listed_start, coefficient}
use Rattle.verdict.specs.Verdicts.{Side, circuit, ideal, verdict, Agree, Named}
use Rattle.verdict.specs.Judging.{compare_checks, judge_checks, Compares, Judges}
use Rattle.verdict.proofs.Lowest.{same_agree, agree_same, different_named}
use Rattle.verdict.proofs.Scanning.{agree_everywhere, everywhere_coefficients, everywhere_ends}
use Rattle.verdict.proofs.Sides.{circuit_summed}
use Rattle.verdict.proofs.Callers.{compare_gives, compare_finds, compare_passes, judge_gives, judge_finds, judge_passes}
use Rattle.promises.specs.Demands.{ThirdDemand}

-- either every start agrees, or the lowest that does not is named
pub verdict_either : (w : ℕ) (a b : Side) → ThirdDemand w a b (Ok (verdict w a b))
verdict_either w a b = by (verdict w a b) refl
  where
    by : (v : Verdict) → verdict w a b ≡ v → ThirdDemand w a b (Ok (verdict w a b))
    by Same e = inl (record { same = ap Ok e; agree = same_agree a b w e })
    by (Different s e f p) q = inr (record { state = s; first = e; second = f; phase = p; different = ap Ok q; named = different_named a b w s e f p q })

module _ (f g work : List ℕ) (answer : Result Verdict Refusal) (after : List ℕ) (m : Compares f g work answer after) where
  -- "the verdict is "same" exactly when every starting state ends in the same state under both, with the same phase modulo a full turn"
  pub compare_same : answer ≡ Ok Same → (x : ℕ) → x < 2 ^ wires_of f → Agree (circuit (gates_of f)) (circuit (gates_of g)) x
  compare_same e = same_agree (circuit (gates_of f)) (circuit (gates_of g)) (wires_of f) (sym (compare_finds f g work answer after m Same e).1)

  pub compare_all_same : outcome (compare_checks f g (length work)) ≡ passed → ((x : ℕ) → x < 2 ^ wires_of f → Agree (circuit (gates_of f)) (circuit (gates_of g)) x) → answer ≡ Ok Same
  compare_all_same p h = compare_gives f g work answer after m p ∙ ap Ok (agree_same (circuit (gates_of f)) (circuit (gates_of g)) (wires_of f) h)

  -- "For two well-formed circuits on the same wires, with work room enough": all of it at once
  pub compare_either : outcome (file_checks 0 f) ≡ passed → outcome (file_checks 1 g) ≡ passed → wires_of f ≡ wires_of g → 2 ^ wires_of f ≤ length work
      → ThirdDemand (wires_of f) (circuit (gates_of f)) (circuit (gates_of g)) answer
  compare_either p q u r = rw (compare_gives f g work answer after m (compare_passes f g work p q u r)) (verdict_either (wires_of f) (circuit (gates_of f)) (circuit (gates_of g)))

  -- "Otherwise it names the lowest starting state where they part, and how."
  pub compare_named : (s e h p : ℕ) → answer ≡ Ok (Different s e h p) → Named (circuit (gates_of f)) (circuit (gates_of g)) (wires_of f) s e h p
  compare_named s e h p q = different_named (circuit (gates_of f)) (circuit (gates_of g)) (wires_of f) s e h p (sym (compare_finds f g work answer after m (Different s e h p) q).1)

-- "Judging against a table obeys this too, with 01's ideal as second."
module _ (n : ℕ) (t f work : List ℕ) (answer : Result Verdict Refusal) (after : List ℕ) (m : Judges n t f work answer after) where
  pub judge_same : answer ≡ Ok Same → (x : ℕ) → x < 2 ^ wires_of f → Agree (circuit (gates_of f)) (ideal n (value_at t)) x
  judge_same e = same_agree (circuit (gates_of f)) (ideal n (value_at t)) (wires_of f) (sym (judge_finds n t f work answer after m Same e).1)

  pub judge_all_same : outcome (judge_checks n t f (length work)) ≡ passed → ((x : ℕ) → x < 2 ^ wires_of f → Agree (circuit (gates_of f)) (ideal n (value_at t)) x) → answer ≡ Ok Same
  judge_all_same p h = judge_gives n t f work answer after m p ∙ ap Ok (agree_same (circuit (gates_of f)) (ideal n (value_at t)) (wires_of f) h)

  pub judge_either : outcome (table_checks n t) ≡ passed → outcome (file_checks 0 f) ≡ passed → wires_of f ≡ n + 1 → 2 ^ wires_of f ≤ length work
      → ThirdDemand (wires_of f) (circuit (gates_of f)) (ideal n (value_at t)) answer
  judge_either p q u r = rw (judge_gives n t f work answer after m (judge_passes n t f work p q u r)) (verdict_either (wires_of f) (circuit (gates_of f)) (ideal n (value_at t)))

  pub judge_named : (s e h p : ℕ) → answer ≡ Ok (Different s e h p) → Named (circuit (gates_of f)) (ideal n (value_at t)) (wires_of f) s e h p
  judge_named s e h p q = different_named (circuit (gates_of f)) (ideal n (value_at t)) (wires_of f) s e h p (sym (judge_finds n t f work answer after m (Different s e h p) q).1)

-- two circuits agree everywhere exactly where all coefficients and all listed ends agree: "the coefficients settle it"
module _ (w : ℕ) (gs hs : List Gate) (x : AllSound w gs) (y : AllSound w hs) where
  pub coefficients_settle : ((s : ℕ) → s < 2 ^ w → coefficient w gs s ≡ coefficient w hs s) → ((j : ℕ) → j < suc w → end_from gs (listed_start j) ≡ end_from hs (listed_start j))
      → (s : ℕ) → s < 2 ^ w → Agree (circuit gs) (circuit hs) s
  coefficients_settle = agree_everywhere w (circuit gs) (circuit hs) (coefficient w gs) (coefficient w hs) (circuit_summed w gs x) (circuit_summed w hs y)

  pub agree_coefficients : ((s : ℕ) → s < 2 ^ w → Agree (circuit gs) (circuit hs) s) → (s : ℕ) → s < 2 ^ w → coefficient w gs s ≡ coefficient w hs s
  agree_coefficients = everywhere_coefficients w (circuit gs) (circuit hs) (coefficient w gs) (coefficient w hs) (circuit_summed w gs x) (circuit_summed w hs y)

  pub agree_ends : ((s : ℕ) → s < 2 ^ w → Agree (circuit gs) (circuit hs) s) → (j : ℕ) → j < suc w → end_from gs (listed_start j) ≡ end_from hs (listed_start j)
  agree_ends = everywhere_ends w (circuit gs) (circuit hs) (coefficient w gs) (coefficient w hs) (circuit_summed w gs x) (circuit_summed w hs y)
