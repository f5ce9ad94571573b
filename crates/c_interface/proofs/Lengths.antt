-- The lengths that phg.h names, and that folding's score does not rise, for a caller in C who finds answer[0] 0.
use Prim.Native.Nat.{ℕ, ◌+◌, ◌*◌, ◌^◌, ◌≤◌}
use native.Mathlib.Omega.{arith}
use mathlib.Core.Path.{◌≡◌, ap}
use mathlib.Core.Bool.{Bool}
use mathlib.Core.List.{List, [], ◌∷◌, ◌++◌}
use lib.ListN.{length, get_or}
use lib.IntN.{ℤ}
use Rattle.refusal.specs.Checks.{Check, passed, outcome, room_check}
use Rattle.refusal.specs.Contract.{Said, values, Meets}
use Rattle.refusal.proofs.Outcomes.{parts_pass}
use Rattle.table.specs.Table.{table_checks}
use Rattle.circuit.specs.Bytes.{Bytes}
use Rattle.circuit.specs.File.{wires_of, gates_of, file_checks}
use Rattle.spectrum.specs.Spectrum.{spectrum_checks, spectrum_of, transformed_says, Transforms}
use Rattle.build.specs.Construction.{build_checks, built_file, built_says, Builds}
use Rattle.fold.specs.Fold.{folded_file, fold_checks, folded_says, Folds}
use Rattle.fold.proofs.Files.{file_shorter}
use Rattle.fold.proofs.Scores.{score_falls}
use Rattle.fold.proofs.Callers.{fold_values}
use Rattle.cancel.specs.Cancel.{cancelled_file, allow_check, cancel_checks, cancelled_says, Cancels}
use Rattle.cancel.proofs.Files.{length-falls}
use Rattle.cancel.proofs.Callers.{cancel_values}
use Rattle.listing.specs.Listing.{listing_of_file, loose_check, list_checks, listed_says, Lists}
use Rattle.listing.proofs.Callers.{list_short}
use Rattle.oracle_listing.specs.Oracle.{oracle_text, oracle_checks, ListsOracle}
use Rattle.oracle_listing.proofs.Callers.{room_for_text}
use Rattle.c_interface.specs.Numbers.{numbers_of, Tells}
use Rattle.c_interface.proofs.Answers.{told_values, told_passed, slice_told}

-- every check passed, and the numbers are the values
all_values : {Answer Entry : Type 0} (said : Answer → Said) (cs : List Check) (vs : List ℕ) (result before : List Entry) (ns : List ℕ) (after : List Entry)
    → Tells (Meets said (outcome cs) vs result before) said ns after → get_or ns 0 0 ≡ 0 → (outcome cs ≡ passed) × (ns ≡ numbers_of (values vs))
all_values said cs vs result before ns after t zero =
    let s = slice_told said cs vs result before ns after t in
    let p = told_passed said cs vs ns s zero in
    (p, told_values said cs vs ns s p)

-- answer[1]
first_value : {Answer Entry : Type 0} (said : Answer → Said) (cs : List Check) (v : ℕ) (vs : List ℕ) (result before : List Entry) (ns : List ℕ) (after : List Entry)
    → Tells (Meets said (outcome cs) (v ∷ vs) result before) said ns after → get_or ns 0 0 ≡ 0 → (outcome cs ≡ passed) × (get_or ns 1 0 ≡ v)
first_value said cs v vs result before ns after t zero =
    let a = all_values said cs (v ∷ vs) result before ns after t zero in
    (a.0, ap (λ l. get_or l 1 0) a.1)

module _ (n : ℕ) (t ns : List ℕ) (zero : get_or ns 0 0 ≡ 0) where
  -- phg_spectrum: "answer[1]: 2^n"
  pub spectrum_entries : (out after : List ℤ) → Tells (Transforms n t out) transformed_says ns after → get_or ns 1 0 ≡ 2 ^ n
  spectrum_entries out after s = (first_value transformed_says (spectrum_checks n t (length out)) (2 ^ n) [] (spectrum_of n t) out ns after s zero).1

  -- phg_build: "answer[1]: its length, 2^(n + 4)"
  pub build_length : (out after : List ℕ) → Tells (Builds n t out) built_says ns after → get_or ns 1 0 ≡ 2 ^ (n + 4)
  build_length out after s = (first_value built_says (build_checks n t (length out)) (2 ^ (n + 4)) [] (built_file n t) out ns after s zero).1

  -- phg_list_oracle: "answer[1]: the text's length, at most 65,536"
  pub oracle_length : (out after : List ℕ) → Tells (ListsOracle n t out) listed_says ns after → get_or ns 1 0 ≤ 65536
  oracle_length out after s =
      let v = first_value listed_says (oracle_checks n t (length out)) (length (oracle_text n t)) [] (oracle_text n t) out ns after s zero in
      omega (arith, v.1, room_for_text n t (parts_pass (table_checks n t) (room_check (length out) (length (oracle_text n t))) v.0).0)

-- phg_fold: "[2]: score before, [3]: score after, which is never higher"
pub fold_scores : (f ns out after : List ℕ) → get_or ns 0 0 ≡ 0 → Tells (Folds f out) folded_says ns after → get_or ns 3 0 ≤ get_or ns 2 0
fold_scores f ns out after zero s = rw (all_values folded_says (fold_checks f (length out)) (fold_values f) (folded_file f) out ns after s zero).1 (score_falls (wires_of f) (gates_of f))

module _ (f : List ℕ) (bytes : Bytes f) (ns : List ℕ) (zero : get_or ns 0 0 ≡ 0) (out after : List ℕ) where
  -- phg_fold: "answer[1]: its length, at most file_len"
  pub fold_length : Tells (Folds f out) folded_says ns after → get_or ns 1 0 ≤ length f
  fold_length s =
      let v = all_values folded_says (fold_checks f (length out)) (fold_values f) (folded_file f) out ns after s zero in
      omega (arith, ap (λ l. get_or l 1 0) v.1, file_shorter 0 f bytes (parts_pass (file_checks 0 f) (room_check (length out) (length (folded_file f))) v.0).0)

  -- phg_cancel: "answer[1]: its length, file_len less 8 for each pair, [2]: how many pairs went"
  pub cancel_length : (most : ℕ) → Tells (Cancels f most out) cancelled_says ns after → get_or ns 1 0 + 8 * get_or ns 2 0 ≡ length f
  cancel_length most s =
      let v = all_values cancelled_says (cancel_checks f most (length out)) (cancel_values f most) (cancelled_file f most) out ns after s zero in
      let rest = allow_check most ++ room_check (length out) (length (cancelled_file f most)) in
      rw v.1 (length-falls 0 f bytes (parts_pass (file_checks 0 f) rest v.0).0 most)

  -- phg_list: "answer[1]: its length, at most 65,600"
  pub list_length : (wrapped : Bool) → Tells (Lists wrapped f out) listed_says ns after → get_or ns 1 0 ≤ 65600
  list_length wrapped s =
      let v = first_value listed_says (list_checks wrapped f (length out)) (length (listing_of_file wrapped f)) [] (listing_of_file wrapped f) out ns after s zero in
      let rest = loose_check wrapped (wires_of f) (gates_of f) ++ room_check (length out) (length (listing_of_file wrapped f)) in
      omega (arith, v.1, list_short wrapped f bytes (parts_pass (file_checks 0 f) rest v.0).0)
