-- 01, "These programs are to be shown unacceptable", two of 02 §12 and three of 02 §8, as theorems over the contracts, each with the input that shows it.
use Prim.Native.Nat.{ℕ, zero, suc, ◌^◌, ◌<◌, ◌∣◌}
use native.Mathlib.Nat.{dvd_refl, dvd_antisymm, le_of_dvd}
use native.Mathlib.Decide.{ℕ_discrete, dec_dvd}
use native.Mathlib.Omega.{arith}
use mathlib.Core.Path.{◌≡◌, refl, sym, ap, ◌∙◌}
use mathlib.Core.Bool.{true, false}
use mathlib.Core.List.{List, [], ◌∷◌, ◌++◌}
use lib.ListN.{length, get_or, replicate, length-replicate}
use lib.Count.{ones}
use lib.IntN.{pos}
use Rattle.std.specs.Prelude.{Result, Ok, Err, Some}
use Rattle.numbers.specs.Bits.{subset}
use Rattle.refusal.specs.declared.Refusal.{Refusal}
use Rattle.refusal.specs.Names.{refusal, bad_gate, LOOSE}
use Rattle.refusal.specs.Checks.{Check, passed, outcome}
use Rattle.refusal.specs.Contract.{Said, values, Says}
use Rattle.refusal.proofs.Rooms.{room_suffices}
use Rattle.refusal.proofs.Contracts.{says_refused}
use Rattle.table.specs.Table.{table_checks, checked_says}
use Rattle.spectrum.specs.Spectrum.{spectrum_checks, transformed_says}
use Rattle.circuit.specs.declared.Gate.TheVariants.{Cnot, Phase, Inverter}
use Rattle.refusal.specs.declared.Reason.TheVariants.{Kind, Equal}
use Rattle.circuit.specs.Gates.{decoded, first_bad, gates_from, bytes_of}
use Rattle.circuit.specs.Working.{AllSound, AllAdmitted}
use Rattle.circuit.specs.File.{header_bytes, gates_of, file_of, file_checks, reading_says, Reads}
use Rattle.circuit.proofs.Files.{list_written}
use Rattle.running.specs.declared.Counted.{Counted}
use Rattle.running.specs.Run.{end_from, total_from, cnots, phases, free_turn, scores, score_by, inverters, run_checks, ran_says, counted_says, Counts}
use Rattle.running.proofs.Counts.{multiple_is_free, free_is_multiple}
use Rattle.running.proofs.Callers.{count_answers}
use Rattle.running.specs.Masks.{held_from, sum_met}
use Rattle.build.specs.Construction.{build_checks, built_says}
use Rattle.fold.specs.declared.Folded.{Folded}
use Rattle.fold.specs.Fold.{folded_from, fold_checks, folded_says, Folds}
use Rattle.cancel.specs.Cancel.{cancelled, cancel_checks, cancelled_says}
use Rattle.verdict.specs.declared.Verdict.{Verdict}
use Rattle.verdict.specs.declared.Verdict.TheVariants.{Same, Different}
use Rattle.coefficients.specs.Coefficients.{coefficient, ideal_coefficient}
use Rattle.verdict.specs.Verdicts.{verdict, differences}
use Rattle.numbers.specs.Search.{least}
use Rattle.verdict.specs.Judging.{compare_checks, judge_checks, compared_says, Compares, Judges}
use Rattle.running.specs.Ends.{held_at_end}
use Rattle.listing.specs.Listing.{head_lines, wrap_line, cnot_line, gate_lines, listing_of, list_checks, listed_says}
use Rattle.listing.specs.Text.{decimal_from}
use Rattle.oracle_listing.specs.Oracle.{oracle_checks}
use Rattle.oracle_listing.proofs.Callers.{room_for_text}
use Rattle.promises.specs.Demands.{Refuses}
use Rattle.promises.specs.Cases.{built_here, empty, one_cnot, on_one, empty_on_one, two_flips}
use Rattle.promises.specs.Wrong.{Unacceptable, ChecksAt, TransformsAt, ReadsAt, RunsAt, CountsAt, BuildsAt, FoldsAt, CancelsAt, ComparesAt, JudgesAt, ListsAt, ListsOracleAt, RefusesEverything, AlwaysFinds, LeavesBuffer, Copies, first_held, first_group, FoldsFirstGroup, AlwaysScores, AlwaysScoresBefore, AlwaysScoresAfter, ScoresBy, AlwaysReasons, last_reason, ReasonsByLast, NeverLoose, AsksMasksAlone, AlwaysAsks, NeverNamesZero}
use Rattle.promises.specs.MasksAlone.{folded_by_mask_from, FoldsByMask}
use Rattle.promises.proofs.OneAnswer.{one_reading, one_count, one_build, one_fold, one_comparison, one_judgement, one_listing}
use Rattle.promises.proofs.Cases.{build_here, cnot_differs, turned_differs, cnot_loose, flip_loose}

-- no program that goes wrong at every input in such a way meets its contract at every input
pub no_program : {Input Answer Entry : Type 0} (Contract Wrong : Input → Answer → List Entry → Type 0) → Unacceptable Contract Wrong
    → (program : Input → Answer × List Entry) → ((i : Input) → Wrong i (program i).0 (program i).1) → ((i : Input) → Contract i (program i).0 (program i).1) → ⊥
no_program Contract Wrong u program wrong meets = u.fails (program u.input).0 (program u.input).1 (wrong u.input) (meets u.input)

-- a count that is answered, and a folding
abbrev counts_to : ℕ → ℕ → ℕ → ℕ → Result Counted Refusal
counts_to c p s x = Ok (record { cnots = c; phases = p; score = s; inverters = x })

abbrev folds_to : ℕ → ℕ → ℕ → Result Folded Refusal
folds_to l b a = Ok (record { length = l; before = b; after = a })

-- ---- refuses everything

-- an input that passes every check is not refused
never : {Answer : Type 0} (said : Answer → Said) (checks : List Check) (vs : List ℕ) (a : Answer) → outcome checks ≡ passed → Says said (outcome checks) vs a → Refuses said a → ⊥
never said checks vs a p m r = let e = sym p ∙ says_refused (outcome checks) vs r.0 (sym r.1 ∙ m) in let z : ◌≡◌ {A = ℕ} 0 1 = cc in omega arith

one_variable : outcome (table_checks 1 (2 ∷ [])) ≡ passed
unfolding outcome
one_variable = refl

-- by the table 02 of one variable, the empty circuit on 2 wires, and a slice with room
pub check_refusing : Unacceptable ChecksAt (RefusesEverything checked_says)
unfolding outcome
check_refusing = record { input = (1, 2 ∷ []); fails = λ a x r m. never checked_says (table_checks 1 (2 ∷ [])) _ a refl m r }

pub spectrum_refusing : Unacceptable TransformsAt (RefusesEverything transformed_says)
unfolding outcome
spectrum_refusing = record { input = (1, 2 ∷ [], replicate 2 (pos 0)); fails = λ a x r m. never transformed_says (spectrum_checks 1 (2 ∷ []) 2) _ a refl m.says r }

pub read_refusing : Unacceptable ReadsAt (RefusesEverything reading_says)
unfolding outcome file_of bytes_of first_bad
read_refusing = record { input = empty; fails = λ a x r m. never reading_says (file_checks 0 empty) _ a refl m r }

pub run_refusing : Unacceptable RunsAt (RefusesEverything ran_says)
unfolding outcome file_of bytes_of first_bad
run_refusing = record { input = (empty, 0); fails = λ a x r m. never ran_says (run_checks empty 0) _ a refl m r }

pub count_refusing : Unacceptable CountsAt (RefusesEverything counted_says)
unfolding outcome file_of bytes_of first_bad
count_refusing = record { input = empty; fails = λ a x r m. never counted_says (file_checks 0 empty) _ a refl m r }

pub build_refusing : Unacceptable BuildsAt (RefusesEverything built_says)
unfolding outcome
build_refusing = record { input = (1, 2 ∷ [], replicate 32 0); fails = λ a x r m. never built_says (build_checks 1 (2 ∷ []) 32) _ a refl m.says r }

pub fold_refusing : Unacceptable FoldsAt (RefusesEverything folded_says)
unfolding outcome file_of bytes_of first_bad gates_from folded_from
fold_refusing = record { input = (empty, replicate 8 0); fails = λ a x r m. never folded_says (fold_checks empty 8) _ a refl m.says r }

pub cancel_refusing : Unacceptable CancelsAt (RefusesEverything cancelled_says)
unfolding outcome file_of bytes_of first_bad gates_from cancelled
cancel_refusing = record { input = (empty, 0, replicate 8 0); fails = λ a x r m. never cancelled_says (cancel_checks empty 0 8) _ a refl m.says r }

pub compare_refusing : Unacceptable ComparesAt (RefusesEverything compared_says)
unfolding outcome file_of bytes_of first_bad
compare_refusing = record { input = (empty, empty, replicate 4 0); fails = λ a x r m. never compared_says (compare_checks empty empty 4) _ a refl m.says r }

pub judge_refusing : Unacceptable JudgesAt (RefusesEverything compared_says)
unfolding outcome file_of bytes_of first_bad
judge_refusing = record { input = (1, 2 ∷ [], empty, replicate 4 0); fails = λ a x r m. never compared_says (judge_checks 1 (2 ∷ []) empty 4) _ a refl m.says r }

pub list_refusing : Unacceptable ListsAt (RefusesEverything listed_says)
unfolding outcome file_of bytes_of first_bad gates_from listing_of head_lines wrap_line gate_lines decimal_from
list_refusing = record { input = (false, empty, replicate 64 0); fails = λ a x r m. never listed_says (list_checks false empty 64) _ a refl m.says r }

pub oracle_refusing : Unacceptable ListsOracleAt (RefusesEverything listed_says)
oracle_refusing = record {
  input = (1, 2 ∷ [], replicate 65536 0);
  fails = λ a x r m. never listed_says (oracle_checks 1 (2 ∷ []) (length {A = ℕ} (replicate 65536 0))) _ a (room_suffices (table_checks 1 (2 ∷ [])) _ _ (λ e. omega (arith, room_for_text 1 (2 ∷ []) one_variable, length-replicate {A = ℕ} 65536 0)) ∙ one_variable) m.says r;
}

-- ---- a constant verdict

same_file : Compares empty empty (replicate 4 0) (Ok Same) (replicate 4 0)
unfolding outcome file_of bytes_of first_bad gates_from verdict least end_from total_from differences coefficient sum_met ones
same_file = record { says = refl; leaves = refl }

-- "CNOT 0 to 1 differs at 1"
one_cnot_lem : List ℕ
one_cnot_lem = file_of 1 2 (Cnot 0 1 ∷ [])

-- Same fails where CNOT 0 to 1 meets the empty circuit; any Different fails where a circuit meets itself
pub constant_verdict : (v : Verdict) → Unacceptable ComparesAt (AlwaysFinds v)
unfolding one_cnot_lem
constant_verdict Same = record {
  input = (one_cnot_lem, empty, replicate 4 0);
  fails = λ a x e m. let q = sym e ∙ (one_comparison one_cnot_lem empty (replicate 4 0) a _ x _ m cnot_differs).0 in let z : ◌≡◌ {A = ℕ} 0 1 = cc in omega arith;
}
constant_verdict (Different s e f p) = record {
  input = (empty, empty, replicate 4 0);
  fails = λ a x d m. let q = sym d ∙ (one_comparison empty empty (replicate 4 0) a _ x _ m same_file).0 in let z : ◌≡◌ {A = ℕ} 0 1 = cc in omega arith;
}

-- the same of judge, by the table 02 of one variable: its own circuit is Same, the empty one Different
judge_built : Judges 1 (2 ∷ []) built_here (replicate 4 0) (Ok Same) (replicate 4 0)
unfolding outcome decoded first_bad gates_from verdict least end_from total_from differences coefficient ideal_coefficient sum_met subset ones
judge_built = record { says = refl; leaves = refl }

judge_empty : Judges 1 (2 ∷ []) empty (replicate 4 0) (Ok (Different 3 3 3 32768)) (0 ∷ 0 ∷ 0 ∷ 32768 ∷ [])
unfolding outcome file_of bytes_of first_bad gates_from verdict least end_from total_from differences coefficient ideal_coefficient sum_met subset ones
judge_empty = record { says = refl; leaves = refl }

pub constant_judgement : (v : Verdict) → Unacceptable JudgesAt (AlwaysFinds v)
constant_judgement Same = record {
  input = (1, 2 ∷ [], empty, replicate 4 0);
  fails = λ a x e m. let q = sym e ∙ (one_judgement 1 (2 ∷ []) empty (replicate 4 0) a _ x _ m judge_empty).0 in let z : ◌≡◌ {A = ℕ} 0 1 = cc in omega arith;
}
constant_judgement (Different s e f p) = record {
  input = (1, 2 ∷ [], built_here, replicate 4 0);
  fails = λ a x d m. let q = sym d ∙ (one_judgement 1 (2 ∷ []) built_here (replicate 4 0) a _ x _ m judge_built).0 in let z : ◌≡◌ {A = ℕ} 0 1 = cc in omega arith;
}

-- ---- leaves its buffer when building

pub leaves_buffer : Unacceptable BuildsAt LeavesBuffer
leaves_buffer = record {
  input = (1, 2 ∷ [], replicate 32 0);
  fails = λ a x e m. let q = sym e ∙ (one_build 1 (2 ∷ []) (replicate 32 0) a _ x _ m build_here).1 in let z : ◌≡◌ {A = ℕ} 0 0x50 = ap (λ l. get_or l 0 0) q in omega arith;
}

-- ---- copies when folding, and folds the first group only

-- wire 0 by 1 then by 65,535: the result has no gate, and a copy has two
opposite : List ℕ
opposite = file_of 1 1 (Phase 0 1 ∷ Phase 0 65535 ∷ [])

opposite_folds : Folds opposite (replicate 16 0) (folds_to 8 2 0) (file_of 1 1 [] ++ replicate 8 0)
unfolding opposite outcome file_of bytes_of decoded first_bad gates_from folded_from held_from sum_met score_by
opposite_folds = record { says = refl; leaves = refl }

pub copies : Unacceptable FoldsAt Copies
unfolding opposite file_of bytes_of
copies = record {
  input = (opposite, replicate 16 0);
  fails = λ a x e m. let q = sym e ∙ (one_fold opposite (replicate 16 0) a _ x _ m opposite_folds).1 in let z : ◌≡◌ {A = ℕ} 2 0 = ap (λ l. get_or l 8 0) q in omega arith;
}

-- two groups of two: 1 and 2 on wire 0, 3 and 4 on wire 1
two_groups : List ℕ
two_groups = file_of 1 2 (Phase 0 1 ∷ Phase 0 2 ∷ Phase 1 3 ∷ Phase 1 4 ∷ [])

two_groups_fold : Folds two_groups (replicate 24 0) (folds_to 16 4 2) (file_of 1 2 (Phase 0 3 ∷ Phase 1 7 ∷ []) ++ replicate 8 0)
unfolding two_groups outcome file_of bytes_of decoded first_bad gates_from folded_from held_from sum_met score_by
two_groups_fold = record { says = refl; leaves = refl }

pub first_group_only : Unacceptable FoldsAt FoldsFirstGroup
unfolding two_groups file_of bytes_of decoded gates_from folded_from held_from sum_met first_group first_held
first_group_only = record {
  input = (two_groups, replicate 24 0);
  fails = λ a x e m. let q = sym e ∙ (one_fold two_groups (replicate 24 0) a _ x _ m two_groups_fold).1 in let z : ◌≡◌ {A = ℕ} 3 2 = ap (λ l. get_or l 7 0) q in omega arith;
}

-- ---- an invented score

one_phase : List ℕ
one_phase = file_of 1 2 (Phase 0 1 ∷ [])

none_counted : Counts empty (counts_to 0 0 0 0)
unfolding outcome file_of bytes_of first_bad gates_from cnots phases score_by inverters
none_counted = refl

one_counted : Counts one_phase (counts_to 0 1 1 0)
unfolding one_phase outcome file_of bytes_of decoded first_bad gates_from cnots phases score_by inverters
one_counted = refl

-- folding's scores are both 1 for the one phase gate, 0 for no gate
one_folded : Folds one_phase (replicate 12 0) (folds_to 12 1 1) one_phase
unfolding one_phase outcome file_of bytes_of decoded first_bad gates_from folded_from held_from sum_met score_by
one_folded = record { says = refl; leaves = refl }

none_folded : Folds empty (replicate 8 0) (folds_to 8 0 0) empty
unfolding outcome file_of bytes_of first_bad gates_from folded_from score_by
none_folded = record { says = refl; leaves = refl }

-- a number that is 1 for one input and 0 for another is no constant
invented : {Input Answer Entry : Type 0} (Contract : Input → Answer → List Entry → Type 0) (Scores : ℕ → Input → Answer → List Entry → Type 0) (one none : Input)
    → ((s : ℕ) (a : Answer) (x : List Entry) → Contract one a x → Scores s one a x → s ≡ 1) → ((s : ℕ) (a : Answer) (x : List Entry) → Contract none a x → Scores s none a x → s ≡ 0)
    → (s : ℕ) → Unacceptable Contract (Scores s)
invented Contract Scores one none is_one is_none zero = record { input = one; fails = λ a x e m. let z : ◌≡◌ {A = ℕ} 0 1 = is_one 0 a x m e in omega arith }
invented Contract Scores one none is_one is_none (suc s) = record { input = none; fails = λ a x e m. let z : suc s ≡ 0 = is_none (suc s) a x m e in omega arith }

pub invented_score : (s : ℕ) → Unacceptable CountsAt (AlwaysScores s)
invented_score =
    invented CountsAt AlwaysScores one_phase empty
    (λ s a x m e. let q : values (e.0 ∷ e.1 ∷ s ∷ e.2 ∷ []) ≡ values (0 ∷ 1 ∷ 1 ∷ 0 ∷ []) = ap counted_says (sym e.3 ∙ one_count one_phase a (counts_to 0 1 1 0) m one_counted) in cc)
    (λ s a x m e. let q : values (e.0 ∷ e.1 ∷ s ∷ e.2 ∷ []) ≡ values (0 ∷ 0 ∷ 0 ∷ 0 ∷ []) = ap counted_says (sym e.3 ∙ one_count empty a (counts_to 0 0 0 0) m none_counted) in cc)

pub invented_score_before : (s : ℕ) → Unacceptable FoldsAt (AlwaysScoresBefore s)
invented_score_before =
    invented FoldsAt AlwaysScoresBefore (one_phase, replicate 12 0) (empty, replicate 8 0)
    (λ s a x m e. let q : values (e.0 ∷ s ∷ e.1 ∷ []) ≡ values (12 ∷ 1 ∷ 1 ∷ []) = ap folded_says (sym e.2 ∙ (one_fold one_phase (replicate 12 0) a (folds_to 12 1 1) x _ m one_folded).0) in cc)
    (λ s a x m e. let q : values (e.0 ∷ s ∷ e.1 ∷ []) ≡ values (8 ∷ 0 ∷ 0 ∷ []) = ap folded_says (sym e.2 ∙ (one_fold empty (replicate 8 0) a (folds_to 8 0 0) x _ m none_folded).0) in cc)

pub invented_score_after : (s : ℕ) → Unacceptable FoldsAt (AlwaysScoresAfter s)
invented_score_after =
    invented FoldsAt AlwaysScoresAfter (one_phase, replicate 12 0) (empty, replicate 8 0)
    (λ s a x m e. let q : values (e.0 ∷ e.1 ∷ s ∷ []) ≡ values (12 ∷ 1 ∷ 1 ∷ []) = ap folded_says (sym e.2 ∙ (one_fold one_phase (replicate 12 0) a (folds_to 12 1 1) x _ m one_folded).0) in cc)
    (λ s a x m e. let q : values (e.0 ∷ e.1 ∷ s ∷ []) ≡ values (8 ∷ 0 ∷ 0 ∷ []) = ap folded_says (sym e.2 ∙ (one_fold empty (replicate 8 0) a (folds_to 8 0 0) x _ m none_folded).0) in cc)

-- ---- another free turn

-- one phase gate of an angle
alone : ℕ → List ℕ
alone a = file_of 1 1 (Phase 0 a ∷ [])

-- a score by d meets the contract only where both numbers have the angle free, or neither
scored_alike : (d a : ℕ) → a < 65536 → (r : Result Counted Refusal) (x : List ℕ) → ScoresBy d (alone a) r x → Counts (alone a) r → scores d a ≡ scores free_turn a
unfolding alone AllSound AllAdmitted score_by
scored_alike d a l r x e m =
    let g : gates_of (file_of 1 1 (Phase 0 a ∷ [])) ≡ Phase 0 a ∷ [] = list_written 1 1 (Phase 0 a ∷ []) ((omega arith, l), tt) (tt, tt) in
    let k = rw g at (count_answers (alone a) r m (record { cnots = e.0; phases = e.1; score = score_by d (gates_of (alone a)); inverters = e.2 }) e.3).has_score in
    omega arith

pub another_free_turn : (d : ℕ) → ¬ (d ≡ free_turn) → Unacceptable CountsAt (ScoresBy d)
another_free_turn d other = by (dec_dvd d free_turn)
  where
    by : Dec (d ∣ free_turn) → Unacceptable CountsAt (ScoresBy d)
    by (yes h) = record {
      input = alone d;
      fails = λ r x e m. other (dvd_antisymm h (free_is_multiple free_turn d (sym (scored_alike d d (omega (arith, le_of_dvd {m = d} {n = free_turn} (omega arith) h)) r x e m) ∙ multiple_is_free d d (dvd_refl d))));
    }
    by (no n) = record {
      input = alone free_turn;
      fails = λ r x e m. n (free_is_multiple d free_turn (scored_alike d free_turn (omega arith) r x e m ∙ multiple_is_free free_turn free_turn (dvd_refl free_turn)));
    }

-- ---- an invented reason

-- two bad gates: the first of no kind, the second from wire 0 to itself
two_bad : List ℕ
two_bad = header_bytes 1 2 2 ++ (0 ∷ 0 ∷ 0 ∷ 0 ∷ 1 ∷ 0 ∷ 0 ∷ 0 ∷ [])

two_bad_read : Reads two_bad (Err (bad_gate 0 0 (Some Kind)))
unfolding two_bad outcome decoded first_bad
two_bad_read = refl

-- the second of them alone
one_bad : List ℕ
one_bad = header_bytes 1 2 1 ++ (1 ∷ 0 ∷ 0 ∷ 0 ∷ [])

one_bad_read : Reads one_bad (Err (bad_gate 0 0 (Some Equal)))
unfolding one_bad outcome decoded first_bad
one_bad_read = refl

pub invented_reason : (x : ℕ) → Unacceptable ReadsAt (AlwaysReasons x)
invented_reason x = by (ℕ_discrete x 1)
  where
    by : Dec (x ≡ 1) → Unacceptable ReadsAt (AlwaysReasons x)
    by (yes e) = record {
      input = one_bad;
      fails = λ a l wrong m. let z : 3 ≡ x = wrong (bad_gate 0 0 (Some Equal)) (one_reading one_bad a _ m one_bad_read) refl in omega arith;
    }
    by (no n) = record {
      input = two_bad;
      fails = λ a l wrong m. n (sym (wrong (bad_gate 0 0 (Some Kind)) (one_reading two_bad a _ m two_bad_read) refl));
    }

pub last_reason_lem : Unacceptable ReadsAt ReasonsByLast
unfolding two_bad decoded last_reason
last_reason_lem = record {
  input = two_bad;
  fails = λ a l wrong m. let z : ◌≡◌ {A = ℕ} 1 3 = wrong (bad_gate 0 0 (Some Kind)) (one_reading two_bad a _ m two_bad_read) refl in omega arith;
}

-- ---- never names start 0, and folds by masks alone

pub never_names_zero : Unacceptable ComparesAt NeverNamesZero
never_names_zero = record {
  input = (on_one (Inverter 0 ∷ []), empty_on_one, replicate 2 0);
  fails = λ a x wrong m. wrong 0 1 0 0 (one_comparison (on_one (Inverter 0 ∷ [])) empty_on_one (replicate 2 0) a _ x _ m turned_differs).0 refl;
}

-- the groups of 14 and 7 would be one of 21
two_flips_fold : Folds two_flips (replicate 28 0) (folds_to 24 3 2) (on_one (Phase 0 14 ∷ Inverter 0 ∷ Phase 0 7 ∷ Inverter 0 ∷ []) ++ replicate 4 0)
unfolding outcome file_of bytes_of decoded first_bad gates_from folded_from held_from sum_met score_by
two_flips_fold = record { says = refl; leaves = refl }

pub masks_alone_folded : Unacceptable FoldsAt FoldsByMask
unfolding file_of bytes_of decoded gates_from folded_by_mask_from held_from sum_met
masks_alone_folded = record {
  input = (two_flips, replicate 28 0);
  fails = λ a x e m. let q = sym e ∙ (one_fold two_flips (replicate 28 0) a _ x _ m two_flips_fold).1 in let z : ◌≡◌ {A = ℕ} 21 14 = ap (λ l. get_or l 11 0) q in omega arith;
}

-- ---- wraps what does not come back, asks masks alone, and asks of a plain listing too

pub wraps_loose : Unacceptable ListsAt NeverLoose
wraps_loose = record {
  input = (true, one_cnot, []);
  fails = λ a x wrong m. wrong (refusal LOOSE) (one_listing true one_cnot [] a _ x _ m cnot_loose).0 refl;
}

pub wraps_flipped : Unacceptable ListsAt AsksMasksAlone
unfolding file_of bytes_of decoded gates_from held_from
wraps_flipped = record {
  input = (true, on_one (Inverter 0 ∷ []), []);
  fails = λ a x wrong m. wrong own (refusal LOOSE) (one_listing true (on_one (Inverter 0 ∷ [])) [] a _ x _ m flip_loose).0 refl;
}
  where
    own : (i : ℕ) → i < 1 → (held_at_end 1 (Inverter 0 ∷ []) i).mask ≡ 2 ^ i
    own zero h = refl
    own (suc i) h = absurd (omega arith)

pub plain_refused : Unacceptable ListsAt AlwaysAsks
unfolding outcome file_of bytes_of decoded first_bad gates_from held_from least listing_of head_lines wrap_line cnot_line gate_lines decimal_from
plain_refused = record {
  input = (false, one_cnot, replicate 80 0);
  fails = λ a x wrong m. never listed_says (list_checks false one_cnot 80) _ a refl m.says (refusal LOOSE, ap listed_says (wrong (omega arith)));
}
