-- One operation after another: each is lent room enough, so that only its input can be refused.
use Prim.Native.Nat.{ℕ, ◌-◌, ◌≤◌}
use native.Mathlib.Omega.{arith}
use mathlib.Core.Path.{◌≡◌, refl, sym, ap, ap₂, subst, ◌∙◌}
use mathlib.Core.Bool.{true}
use mathlib.Core.Logic.{inl}
use mathlib.Core.List.{List, [], ◌∷◌, ◌++◌}
use lib.ListN.{length, take, drop, length-append, length-drop}
use lib.Seq.{take_at, take_all}
use Rattle.refusal.specs.declared.Refusal.{Refusal}
use Rattle.refusal.specs.Names.{refusal, VARS, LOOSE}
use Rattle.refusal.specs.Checks.{Check, check, less, Outcome, passed, refused, outcome, settle, room_check}
use Rattle.refusal.specs.Contract.{Meets}
use Rattle.refusal.proofs.Outcomes.{reaches, outcome_append, then_refused, then_passed, both_pass}
use Rattle.refusal.proofs.Rooms.{earlier_refused}
use Rattle.table.specs.Table.{table_checks}
use Rattle.table.proofs.Callers.{good_variables}
use Rattle.circuit.specs.File.{wires_of, gates_of, file_checks}
use Rattle.circuit.specs.Bytes.{Bytes}
use Rattle.std.specs.Prelude.{Result, Ok, Err}
use Rattle.fold.specs.declared.Folded.{Folded}
use Rattle.build.specs.Construction.{built_file, build_checks, Builds}
use Rattle.build.proofs.Files.{built_long, built_passes, built_back}
use Rattle.build.proofs.Callers.{build_room, build_answers, build_refuses}
use Rattle.fold.specs.Fold.{folded_file, fold_checks, Folds}
use Rattle.fold.proofs.Files.{same_wires, folded_passes, file_loose, fold_room}
use Rattle.fold.proofs.Callers.{fold_answers, fold_refuses}
use Rattle.listing.specs.Listing.{loose_check, listed_says, Lists}
use Rattle.listing.proofs.Wrapping.{back_passes}
use Rattle.oracle_listing.specs.Working.{ListsFolded}
use Rattle.oracle_listing.specs.Oracle.{variables_of, table_of, folded_listing, oracle_text, ListsOracle}

-- a file stands at the front of a slice
pub record Ready (cs : List Check) (file slice : List ℕ) (l : ℕ) : Type 0 where
  pub passes : outcome cs ≡ passed
  pub fits : l ≤ length slice
  pub front : take l slice ≡ file

ready : (cs : List Check) (result before after : List ℕ) (l : ℕ) → outcome cs ≡ passed → l ≡ length result → after ≡ result ++ drop (length result) before → Ready cs result after l
ready cs result before after l p e q =
    record {
      passes = p;
      fits = omega (arith, length-append result (drop (length result) before), ap length q);
      front = ap (take l) q ∙ take_at result (drop (length result) before) l (sym e);
    }

-- folding, with room for the largest file
module _ (f lent : List ℕ) (bytes : Bytes f) (long : 8200 ≡ length lent) (a : Result Folded Refusal) (after : List ℕ) (m : Folds f lent a after) where
  only_file : outcome (fold_checks f (length lent)) ≡ outcome (file_checks 0 f)
  only_file = fold_room f bytes (length lent) (omega arith)

  pub file_refuses : (r : Refusal) → a ≡ Err r → outcome (file_checks 0 f) ≡ refused r
  file_refuses r e = sym only_file ∙ (fold_refuses f lent a after m r e).0

  pub fold_ready : (d : Folded) → a ≡ Ok d → Ready (file_checks 0 f) (folded_file f) after d.length
  fold_ready d e = let v = fold_answers f lent a after m d e in ready (file_checks 0 f) (folded_file f) lent after d.length (sym only_file ∙ v.passes) v.long v.writes

-- building, with room for the largest
module _ (n : ℕ) (t lent : List ℕ) (long : 4096 ≡ length lent) (a : Result ℕ Refusal) (after : List ℕ) (m : Builds n t lent a after) where
  only_table : outcome (build_checks n t (length lent)) ≡ outcome (table_checks n t)
  only_table = build_room n t (length lent) (omega arith)

  pub table_refuses : (r : Refusal) → a ≡ Err r → outcome (table_checks n t) ≡ refused r
  table_refuses r e = sym only_table ∙ (build_refuses n t lent a after m r e).0

  pub build_ready : (l : ℕ) → a ≡ Ok l → Ready (table_checks n t) (built_file n t) after l
  build_ready l e =
      let v = build_answers n t lent a after m l e in
      let p : outcome (table_checks n t) ≡ passed = sym only_table ∙ v.0 in
      ready (table_checks n t) (built_file n t) lent after l p (v.1 ∙ sym (built_long n t (good_variables n t p).0)) v.2

-- a contract whose checks come to the same is the same
passed_on : (cs ds : List Check) (text before : List ℕ) (a : Result ℕ Refusal) (after : List ℕ) → outcome ds ≡ outcome cs
    → Meets listed_says (outcome (ds ++ room_check (length before) (length text))) (length text ∷ []) text before a after
    → Meets listed_says (outcome (cs ++ room_check (length before) (length text))) (length text ∷ []) text before a after
passed_on cs ds text before a after e m =
    let room = room_check (length before) (length text) in
    subst (λ (o : Outcome). Meets listed_says o (length text ∷ []) text before a after)
    (outcome_append ds room ∙ ap (λ (o : Outcome). settle o refused (outcome room)) e ∙ sym (outcome_append cs room)) m

-- what a file passes to be listed, wrapped
abbrev listable : List ℕ → List Check
listable f = file_checks 0 f ++ loose_check true (wires_of f) (gates_of f)

pub folded_refused : (f before : List ℕ) (r : Refusal) → outcome (file_checks 0 f) ≡ refused r → ListsFolded f before (Err r) before
folded_refused f before r e =
    earlier_refused listed_says (listable f) (length (folded_listing f)) (length (folded_listing f) ∷ []) (folded_listing f) before (Err r) r refl (then_refused (file_checks 0 f) (loose_check true (wires_of f) (gates_of f)) r e)

-- the folding of a file that passes is listable where the file is
still_listable : (f : List ℕ) → Bytes f → outcome (file_checks 0 f) ≡ passed → outcome (listable (folded_file f)) ≡ outcome (listable f)
still_listable f bytes p =
    let loose : ℕ → ℕ → List Check = λ l w. check (less l w) (refusal LOOSE) ∷ [] in
    then_passed (file_checks 0 (folded_file f)) (loose_check true (wires_of (folded_file f)) (gates_of (folded_file f))) (folded_passes 0 f bytes p 0)
    ∙ ap₂ (λ (l w : ℕ). outcome (loose l w)) (file_loose 0 f bytes p) (same_wires f) ∙ sym (then_passed (file_checks 0 f) (loose_check true (wires_of f) (gates_of f)) p)

pub folded_listed : (f slice before : List ℕ) (l : ℕ) → Bytes f → Ready (file_checks 0 f) (folded_file f) slice l → (a : Result ℕ Refusal) (after : List ℕ) → Lists true (take l slice) before a after → ListsFolded f before a after
folded_listed f slice before l bytes g a after m =
    passed_on (listable f) (listable (folded_file f)) (folded_listing f) before a after (still_listable f bytes g.passes)
    (subst (λ (x : List ℕ). Lists true x before a after) g.front m)

pub table_refused : (n : ℕ) (t before : List ℕ) (r : Refusal) → outcome (table_checks n t) ≡ refused r → ListsOracle n t before (Err r) before
table_refused n t before r e = earlier_refused listed_says (table_checks n t) (length (oracle_text n t)) (length (oracle_text n t) ∷ []) (oracle_text n t) before (Err r) r refl e

-- a built file brings every wire back: 17 never comes
built_listable : (n : ℕ) (t : List ℕ) → outcome (table_checks n t) ≡ passed → outcome (listable (built_file n t)) ≡ passed
built_listable n t p =
    let v = good_variables n t p in
    let f = built_file n t in
    both_pass (file_checks 0 f) (loose_check true (wires_of f) (gates_of f)) (built_passes n t v.0 v.1 0) (back_passes (wires_of f) (gates_of f) true (built_back n t v.0 v.1))

pub table_listed : (n : ℕ) (t slice before : List ℕ) (l : ℕ) → Ready (table_checks n t) (built_file n t) slice l → (a : Result ℕ Refusal) (after : List ℕ) → ListsFolded (take l slice) before a after → ListsOracle n t before a after
table_listed n t slice before l g a after m =
    passed_on (table_checks n t) (listable (built_file n t)) (oracle_text n t) before a after (built_listable n t g.passes ∙ sym g.passes)
    (subst (λ (x : List ℕ). ListsFolded x before a after) g.front m)

-- "An empty input is refused 1."
first_of_none : (input : List ℕ) → length input ≡ 0 → variables_of input ≡ 0
first_of_none [] e = refl
first_of_none (x ∷ xs) e = absurd (omega arith)

pub empty_refused : (input : List ℕ) → length input ≡ 0 → (before : List ℕ) (r : Refusal) → r ≡ refusal VARS → ListsOracle (variables_of input) (table_of input) before (Err r) before
empty_refused input e before r p =
    table_refused (variables_of input) (table_of input) before r (reaches (table_checks (variables_of input) (table_of input)) (refused r) (inl (first_of_none input e, ap refused p)))

pub rest_of : (input : List ℕ) → take (length input - 1) (drop 1 input) ≡ table_of input
rest_of input = take_all (length input - 1) (drop 1 input) (omega (arith, length-drop 1 input))
