-- The second demand: "The spectrum, the circuit built from it, the folded circuit and the end state and phase of a run equal the published construction and rules condensed in document 01,
-- gate for gate and angle for angle." Where a call's checks pass, what is answered and what the lent slice then holds. Beside it 02 §2 on folding's two scores.
use Prim.Native.Nat.{ℕ, ◌+◌, ◌-◌, ◌^◌, ◌<◌, ◌≤◌}
use native.Mathlib.Omega.{arith}
use mathlib.Core.Path.{◌≡◌, refl, ap, ◌∙◌}
use mathlib.Core.List.{List, ◌++◌}
use lib.ListN.{length, get_or, drop, get_or-append}
use lib.IntN.{ℤ, pos}
use Rattle.std.specs.Prelude.{Result, Ok}
use Rattle.numbers.proofs.Lists.{get_or-list}
use Rattle.refusal.specs.declared.Refusal.{Refusal}
use Rattle.refusal.specs.Checks.{passed, outcome}
use Rattle.refusal.proofs.Outcomes.{parts_pass}
use Rattle.refusal.proofs.Contracts.{when_passed}
use Rattle.table.specs.Table.{table_checks, value_at}
use Rattle.table.proofs.Callers.{good_variables}
use Rattle.running.specs.declared.Ran.{Ran}
use Rattle.running.specs.declared.Counted.{Counted}
use Rattle.spectrum.specs.Spectrum.{coefficient, spectrum_of, spectrum_checks, transformed_says, Transforms}
use Rattle.spectrum.proofs.Callers.{transformed_distinct, length-spectrum}
use Rattle.circuit.specs.File.{version_of, wires_of, count_of, gates_of, file_checks}
use Rattle.circuit.specs.Bytes.{Bytes}
use Rattle.running.specs.Run.{end_from, phase_from, run_checks, Runs, cnots, phases, score, inverters, Counts}
use Rattle.running.proofs.Callers.{ran_distinct, counted_distinct}
use Rattle.build.specs.Construction.{construction, built_file, build_checks, built_says, Builds}
use Rattle.build.proofs.Files.{built_version, built_wires, built_count, built_gates}
use Rattle.build.proofs.Callers.{built_distinct}
use Rattle.fold.specs.declared.Folded.{Folded}
use Rattle.fold.specs.Fold.{folded, folded_file, fold_checks, folded_says, Folds}
use Rattle.fold.proofs.Files.{same_version, same_wires, gates_of_folded}
use Rattle.fold.proofs.Scores.{score_falls}
use Rattle.fold.proofs.Callers.{fold_answers, folded_distinct}

-- "s_k is the sum over x of +1 or -1, minus when f(x) + k.x is odd": each entry
pub record PaperSpectrum (n : ℕ) (t : List ℕ) (out : List ℤ) (answer : Result ℕ Refusal) (after : List ℤ) : Type 0 where
  pub answers : answer ≡ Ok (2 ^ n)
  pub holds : after ≡ spectrum_of n t ++ drop (2 ^ n) out
  pub entry : (k : ℕ) → k < 2 ^ n → get_or after k (pos 0) ≡ coefficient n (value_at t) k

pub spectrum_paper : (n : ℕ) (t : List ℕ) (out : List ℤ) (a : Result ℕ Refusal) (after : List ℤ) → Transforms n t out a after → outcome (spectrum_checks n t (length out)) ≡ passed → PaperSpectrum n t out a after
unfolding spectrum_of
spectrum_paper n t out a after m p =
    let r = when_passed transformed_says _ _ (spectrum_of n t) out a after p m in
    record {
      answers = transformed_distinct a (Ok (2 ^ n)) r.0;
      holds = r.1 ∙ ap (λ (k : ℕ). spectrum_of n t ++ drop k out) (length-spectrum n t);
      entry = λ k h.
          ap (λ l. get_or l k (pos 0)) r.1 ∙ get_or-append (spectrum_of n t) (drop (length (spectrum_of n t)) out) (pos 0) k (omega (arith, length-spectrum n t))
          ∙ get_or-list (2 ^ n) (coefficient n (value_at t)) k (pos 0) h;
    }

-- Construction 1 on n + 1 wires, at the front of the slice, and as a reader finds it there
pub record PaperBuilt (n : ℕ) (t out : List ℕ) (answer : Result ℕ Refusal) (after : List ℕ) : Type 0 where
  pub answers : answer ≡ Ok (2 ^ (n + 4))
  pub holds : after ≡ built_file n t ++ drop (length (built_file n t)) out
  pub gates : gates_of (built_file n t) ≡ construction n (value_at t)
  -- 02 §12, "the builders write 1"
  pub version : version_of (built_file n t) ≡ 1
  pub wires : wires_of (built_file n t) ≡ n + 1
  pub count : count_of (built_file n t) ≡ 2 ^ (n + 2) - 2

pub build_paper : (n : ℕ) (t out : List ℕ) (a : Result ℕ Refusal) (after : List ℕ) → Builds n t out a after → outcome (build_checks n t (length out)) ≡ passed → PaperBuilt n t out a after
build_paper n t out a after m p =
    let r = when_passed built_says _ _ (built_file n t) out a after p m in
    let v = good_variables n t (parts_pass (table_checks n t) _ p).0 in
    record {
      answers = built_distinct a (Ok (2 ^ (n + 4))) r.0;
      holds = r.1;
      gates = built_gates n t v.0 v.1;
      version = built_version n t v.0 v.1;
      wires = built_wires n t v.0 v.1;
      count = built_count n t v.0 v.1;
    }

-- the folded gates on the same wires, at the front of the slice, with the scores before and after
pub record PaperFolded (f out : List ℕ) (answer : Result Folded Refusal) (after : List ℕ) : Type 0 where
  pub answers : answer ≡ Ok (record { length = length (folded_file f); before = score (gates_of f); after = score (folded (wires_of f) (gates_of f)) })
  pub holds : after ≡ folded_file f ++ drop (length (folded_file f)) out
  pub gates : gates_of (folded_file f) ≡ folded (wires_of f) (gates_of f)
  -- 02 §12, "Folding .. write[s] the input's version"
  pub version : version_of (folded_file f) ≡ version_of f
  pub wires : wires_of (folded_file f) ≡ wires_of f

pub fold_paper : (f out : List ℕ) (a : Result Folded Refusal) (after : List ℕ) → Bytes f → Folds f out a after → outcome (fold_checks f (length out)) ≡ passed → PaperFolded f out a after
fold_paper f out a after b m p =
    let r = when_passed folded_says _ _ (folded_file f) out a after p m in
    record { answers = folded_distinct a (Ok (record { length = length (folded_file f); before = score (gates_of f); after = score (folded (wires_of f) (gates_of f)) })) r.0; holds = r.1; gates = gates_of_folded 0 f b (parts_pass (file_checks 0 f) _ p).0; version = same_version f; wires = same_wires f }

-- 02 §2, "folding never raises the new score"
pub never_raises : (f out : List ℕ) (a : Folded) (x : List ℕ) → Folds f out (Ok a) x → a.after ≤ a.before
never_raises f out a x m =
    let r = fold_answers f out (Ok a) x m a refl in
    rw (r.was, r.is) (score_falls (wires_of f) (gates_of f))

-- "the end state and phase of a run"
pub run_paper : (f : List ℕ) (start : ℕ) (a : Result Ran Refusal) → Runs f start a → outcome (run_checks f start) ≡ passed → a ≡ Ok (record { state = end_from (gates_of f) start; phase = phase_from (gates_of f) start })
run_paper f start a m p = ran_distinct a (Ok (record { state = end_from (gates_of f) start; phase = phase_from (gates_of f) start })) (rw p at m)

-- "The count answers CNOTs, phase gates, and score."; 02 §12, "The count answers the X gates too"
pub count_paper : (f : List ℕ) (a : Result Counted Refusal) → Counts f a → outcome (file_checks 0 f) ≡ passed → a ≡ Ok (record { cnots = cnots (gates_of f); phases = phases (gates_of f); score = score (gates_of f); inverters = inverters (gates_of f) })
count_paper f a m p = counted_distinct a (Ok (record { cnots = cnots (gates_of f); phases = phases (gates_of f); score = score (gates_of f); inverters = inverters (gates_of f) })) (rw p at m)
