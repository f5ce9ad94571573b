-- 02 §9: programs that follow another rule are unacceptable, each with the input that shows it.
use Prim.Native.Nat.{ℕ, suc}
use native.Mathlib.Omega.{arith}
use mathlib.Core.Path.{◌≡◌, refl, sym, ap, ◌∙◌}
use mathlib.Core.List.{List, [], ◌∷◌, ◌++◌}
use lib.ListN.{length, get_or, drop, replicate}
use Rattle.std.specs.Prelude.{Result, Ok}
use Rattle.refusal.specs.declared.Refusal.{Refusal}
use Rattle.refusal.specs.Checks.{outcome}
use Rattle.refusal.specs.Contract.{values}
use Rattle.circuit.specs.declared.Gate.{Gate}
use Rattle.circuit.specs.declared.Gate.TheVariants.{Cnot}
use Rattle.circuit.specs.Gates.{decoded, first_bad, gates_from, bytes_of}
use Rattle.circuit.specs.File.{version_of, wires_of, gates_of, file_of}
use Rattle.cancel.specs.declared.Cancelled.{Cancelled}
use Rattle.cancel.specs.Cancel.{paired, removed, cancelled, steps, cancelled_says, Cancels}
use Rattle.promises.specs.Cases.{empty}
use Rattle.promises.specs.PairCases.{twice, nested, phase_between}
use Rattle.promises.specs.Wrong.{Unacceptable, CancelsAt}
use Rattle.promises.specs.OtherPairs.{repeated, highest_removed, begins_across, first_cnot_removed, across_removed, swept, LeavesBy, CountsGates}
use Rattle.promises.proofs.OneAnswer.{one_cancel}

-- what a rule leaves at the front of a slice
abbrev ruled : (ℕ → List Gate → List Gate) → List ℕ → ℕ → List ℕ → List ℕ
ruled rule f most out =
    let file = file_of (version_of f) (wires_of f) (rule most (gates_of f)) in
    file ++ drop (length file) out

-- a rule that leaves another byte somewhere than the call does
leaves_another : (rule : ℕ → List Gate → List Gate) (f : List ℕ) (most : ℕ) (out : List ℕ) (a : Result Cancelled Refusal) (after : List ℕ) → Cancels f most out a after
    → (k : ℕ) → (get_or (ruled rule f most out) k 0 ≡ get_or after k 0 → ⊥) → Unacceptable CancelsAt (LeavesBy rule)
leaves_another rule f most out a after known k other = record {
  input = (f, most, out);
  fails = λ b x e m. other (ap (λ (l : List ℕ). get_or l k 0) (sym e ∙ (one_cancel f most out b a x after m known).1));
}

-- ---- what five calls answer

twice_goes : Cancels twice 1 (replicate 16 0) (Ok (record { length = 8; pairs = 1 })) (empty ++ replicate 8 0)
unfolding outcome file_of bytes_of decoded first_bad gates_from paired removed cancelled steps
twice_goes = record { says = refl; leaves = refl }

twice_stays : Cancels twice 0 (replicate 16 0) (Ok (record { length = 16; pairs = 0 })) twice
unfolding outcome file_of bytes_of decoded first_bad gates_from paired removed cancelled steps
twice_stays = record { says = refl; leaves = refl }

nested_goes : Cancels nested 2 (replicate 24 0) (Ok (record { length = 8; pairs = 2 })) (empty ++ replicate 16 0)
unfolding outcome file_of bytes_of decoded first_bad gates_from paired removed cancelled steps
nested_goes = record { says = refl; leaves = refl }

phase_keeps : Cancels phase_between 1 (replicate 20 0) (Ok (record { length = 20; pairs = 0 })) phase_between
unfolding outcome file_of bytes_of decoded first_bad gates_from paired removed cancelled steps
phase_keeps = record { says = refl; leaves = refl }

-- CNOT 1 to 0 twice, then CNOT 0 to 1 twice
one_then_other : List ℕ
one_then_other = file_of 1 2 (Cnot 1 0 ∷ Cnot 1 0 ∷ Cnot 0 1 ∷ Cnot 0 1 ∷ [])

lowest_goes : Cancels one_then_other 1 (replicate 24 0) (Ok (record { length = 16; pairs = 1 })) (twice ++ replicate 8 0)
unfolding one_then_other outcome file_of bytes_of decoded first_bad gates_from paired removed cancelled steps
lowest_goes = record { says = refl; leaves = refl }

-- ---- the programs

-- one that removes nothing: two gates for none
pub removes_nothing : Unacceptable CancelsAt (LeavesBy (λ most gs. gs))
unfolding file_of bytes_of decoded gates_from
removes_nothing = leaves_another (λ most gs. gs) twice 1 (replicate 16 0) (Ok (record { length = 8; pairs = 1 })) (empty ++ replicate 8 0) twice_goes 7 (λ e. let z : ◌≡◌ {A = ℕ} 2 0 = e in omega arith)

-- the highest pair first: CNOT 1 to 0 is left for CNOT 0 to 1
pub highest_first : Unacceptable CancelsAt (LeavesBy (repeated highest_removed))
unfolding one_then_other file_of bytes_of decoded gates_from paired highest_removed
highest_first = leaves_another (repeated highest_removed) one_then_other 1 (replicate 24 0) (Ok (record { length = 16; pairs = 1 })) (twice ++ replicate 8 0) lowest_goes 9 (λ e. let z : ◌≡◌ {A = ℕ} 1 0 = e in omega arith)

-- pairs across a phase: one gate for three
pub across_phases : Unacceptable CancelsAt (LeavesBy (repeated across_removed))
unfolding file_of bytes_of decoded gates_from begins_across first_cnot_removed across_removed
across_phases = leaves_another (repeated across_removed) phase_between 1 (replicate 20 0) (Ok (record { length = 20; pairs = 0 })) phase_between phase_keeps 7 (λ e. let z : ◌≡◌ {A = ℕ} 1 3 = e in omega arith)

-- one way through the gates: of nested twins the outer ones stay
pub without_going_back : Unacceptable CancelsAt (LeavesBy (λ most. swept []))
unfolding file_of bytes_of decoded gates_from swept
without_going_back = leaves_another (λ most. swept []) nested 2 (replicate 24 0) (Ok (record { length = 8; pairs = 2 })) (empty ++ replicate 16 0) nested_goes 7 (λ e. let z : ◌≡◌ {A = ℕ} 2 0 = e in omega arith)

-- one removal more than is allowed: none for two
pub one_more_removed : Unacceptable CancelsAt (LeavesBy (λ most. cancelled (suc most)))
unfolding file_of bytes_of decoded gates_from paired removed cancelled
one_more_removed = leaves_another (λ most. cancelled (suc most)) twice 0 (replicate 16 0) (Ok (record { length = 16; pairs = 0 })) twice twice_stays 7 (λ e. let z : ◌≡◌ {A = ℕ} 0 2 = e in omega arith)

-- the number of gates for that of pairs: two for one
pub counts_gates : Unacceptable CancelsAt CountsGates
unfolding file_of bytes_of decoded gates_from paired removed steps
counts_gates = record {
  input = (twice, 1, replicate 16 0);
  fails = λ a x w m. let q : values (w.0 ∷ 2 ∷ []) ≡ values (8 ∷ 1 ∷ []) = ap cancelled_says (sym w.1 ∙ (one_cancel twice 1 (replicate 16 0) a (Ok (record { length = 8; pairs = 1 })) x (empty ++ replicate 8 0) m twice_goes).0) in let z : ◌≡◌ {A = ℕ} 2 1 = cc in omega arith;
}
