-- 02 §4: refusal 10 hands the reason on in every operation, no other refusal has one, and another reason is another answer.
use Prim.Native.Nat.{ℕ, ◌+◌, ◌*◌, ◌^◌, ◌<◌}
use mathlib.Core.Path.{◌≡◌, refl, sym, ap, subst, ◌∙◌}
use mathlib.Core.Logic.{⊎_elim}
use mathlib.Core.Bool.{Bool}
use mathlib.Core.List.{List, [], ◌∷◌, ◌++◌}
use lib.ListN.{length, get_or}
use lib.IntN.{ℤ}
use Rattle.std.specs.Prelude.{Result}
use Rattle.refusal.specs.declared.Refusal.{Refusal}
use Rattle.refusal.specs.declared.Cause.{Cause}
use Rattle.refusal.specs.Names.{reason_said, refusal_at, bad_gate, refusal, VARS, TABLE, PAD, SHORT, MARK, VERSION, WIRES, COUNT, LENGTH, GATE, STATE, UNLIKE, ROOM, LOOSE, ALLOW}
use Rattle.refusal.specs.Checks.{Check, check, at_least, Outcome, refused, outcome, room_check}
use Rattle.refusal.specs.Contract.{Said, said_of, Says}
use Rattle.refusal.proofs.Outcomes.{part_refuses}
use Rattle.refusal.proofs.Given.{given_where, given_by}
use Rattle.refusal.proofs.Contracts.{same_refusal}
use Rattle.running.specs.declared.Ran.{Ran}
use Rattle.running.specs.declared.Counted.{Counted}
use Rattle.table.specs.Table.{table_checks, checked_says, Checks}
use Rattle.spectrum.specs.Spectrum.{transformed_says, Transforms}
use Rattle.circuit.specs.declared.Header.{Header}
use Rattle.circuit.specs.Gates.{Decoded, reason_of}
use Rattle.circuit.specs.File.{wires_of, count_of, gates_of, bad_of, reason_at, file_checks, reading_says, ReadsSide, Reads}
use Rattle.circuit.proofs.FirstBad.{first_is_bad, before_is_good}
use Rattle.running.specs.Run.{run_checks, ran_says, Runs, counted_says, Counts}
use Rattle.build.specs.Construction.{built_says, Builds}
use Rattle.fold.specs.declared.Folded.{Folded}
use Rattle.fold.specs.Fold.{folded_file, fold_checks, folded_says, Folds}
use Rattle.cancel.specs.declared.Cancelled.{Cancelled}
use Rattle.cancel.specs.Cancel.{cancelled_file, allow_check, cancel_checks, cancelled_says, Cancels}
use Rattle.verdict.specs.declared.Verdict.{Verdict}
use Rattle.verdict.specs.Judging.{work_checks, compare_checks, judge_checks, compared_says, Compares, Judges}
use Rattle.listing.specs.Listing.{listing_of_file, loose_check, list_checks, listed_says, Lists, Writes}
use Rattle.listing.proofs.Wrapping.{loose_given}
use Rattle.oracle_listing.specs.Oracle.{oracle_text, ListsOracle, printout, Prints}
use Rattle.promises.specs.Demands.{FirstDemand}
use Rattle.promises.specs.Reasons.{FirstBadGate, HandsOn, NoReason}
use Rattle.promises.proofs.Demand1.{check_first, spectrum_first, side_read_first, run_first, count_first, build_first, fold_first, cancel_first, compare_first, judge_first, list_first, oracle_first, writing_first}

-- ---- once over the contract's shape

-- P holds of every refusal of these checks
abbrev Always : (Refusal → Type 0) → List Check → Type 0
Always P cs = (r : Refusal) → outcome cs ≡ refused r → P r

in_turn : (P : Refusal → Type 0) (xs ys : List Check) → Always P xs → Always P ys → Always P (xs ++ ys)
in_turn P xs ys f g r e = ⊎_elim (f r) (λ q. g r q.1) (part_refuses xs ys r e)

-- what holds of every refusal that the checks give holds of the one that is answered
pub answered_refusal : {Answer Entry : Type 0} (said : Answer → Said) (checks : List Check) (before : List Entry) (answer : Answer) (after : List Entry) (P : Refusal → Type 0)
    → Always P checks → FirstDemand said checks before answer after → (r : Refusal) → said answer ≡ said_of r → P r
answered_refusal said checks before answer after P all d r e = all r (d.only r e)

-- an answer with another reason is another answer
pub another_reason : {Answer : Type 0} (said : Answer → Said) (a b : Answer) (r s : Refusal) → said a ≡ said_of r → said b ≡ said_of s → ¬ (r.reason ≡ s.reason) → ¬ (a ≡ b)
another_reason said a b r s p q n e = n (ap (λ (x : Refusal). x.reason) (same_refusal r s (sym p ∙ ap said e ∙ q)))

-- and of two that meet a contract both have the same
pub one_reason : {Answer : Type 0} (said : Answer → Said) (o : Outcome) (vs : List ℕ) (a b : Answer) → Says said o vs a → Says said o vs b
    → (r s : Refusal) → said a ≡ said_of r → said b ≡ said_of s → r.reason ≡ s.reason
one_reason said o vs a b m k r s p q = ap (λ (x : Refusal). x.reason) (same_refusal r s (sym p ∙ m ∙ sym k ∙ q))

-- ---- the rows

no_reason : (c : Cause) (s : ℕ) → ¬ (c ≡ GATE) → NoReason (refusal_at c s 0)
no_reason c s other = record { other = other; none = refl }

-- which is what a call with files asks of them too
plain : (file : ℕ → List ℕ) (r : Refusal) → NoReason r → HandsOn file r
plain file r h = record { gate = λ e. absurd (h.other e); none = λ n. h.none }

table_rows : (n : ℕ) (t : List ℕ) → Always NoReason (table_checks n t)
table_rows n t = given_by NoReason (table_checks n t) (no_reason VARS 0 (λ e. cc), (no_reason VARS 0 (λ e. cc), (no_reason TABLE 0 (λ e. cc), (no_reason PAD 0 (λ e. cc), tt))))

room_row : (room need : ℕ) → Always NoReason (room_check room need)
room_row room need = given_by NoReason (room_check room need) (no_reason ROOM 0 (λ e. cc), tt)

state_row : (start states : ℕ) → Always NoReason (check (at_least start states) (refusal STATE) ∷ [])
state_row start states = given_by NoReason (check (at_least start states) (refusal STATE) ∷ []) (no_reason STATE 0 (λ e. cc), tt)

work_rows : (w v room : ℕ) → Always NoReason (work_checks w v room)
work_rows w v room = given_by NoReason (work_checks w v room) (no_reason UNLIKE 0 (λ e. cc), (no_reason ROOM 0 (λ e. cc), tt))

module _ (s : ℕ) (f : List ℕ) (file : ℕ → List ℕ) (given : file s ≡ f) where
  row : (c : Cause) → ¬ (c ≡ GATE) → HandsOn file (refusal_at c s 0)
  row c other = plain file (refusal_at c s 0) (no_reason c s other)

  gate_row : bad_of f < count_of f → length f ≡ 8 + 4 * count_of f → HandsOn file (bad_gate s (bad_of f) (reason_at f (bad_of f)))
  gate_row h whole =
      let x = first_is_bad f h whole in
      let g : FirstBadGate f (bad_of f) (reason_said (reason_at f (bad_of f))) = record { inside = h; reason = x.0; bad = x.1; number = ap (λ (d : Decoded). reason_said (reason_of d)) x.1; before = before_is_good f h whole } in
      record {
        gate = λ e. subst (λ (l : List ℕ). FirstBadGate l (bad_of f) (reason_said (reason_at f (bad_of f)))) (sym given) g;
        none = λ n. absurd (n refl);
      }

  file_rows : Always (HandsOn file) (file_checks s f)
  file_rows =
      given_where (HandsOn file) (file_checks s f) (
        λ _. row SHORT (λ e. cc),
        λ _. (
          λ _. row MARK (λ e. cc),
          λ _. (
            λ _. row VERSION (λ e. cc),
            λ _. (
              λ _. row VERSION (λ e. cc),
              λ _. (
                λ _. row WIRES (λ e. cc),
                λ _. (
                  λ _. row WIRES (λ e. cc),
                  λ _. (
                    λ _. row COUNT (λ e. cc),
                    λ _. (
                      λ _. row LENGTH (λ e. cc),
                      λ whole. (
                        λ h. gate_row h whole,
                        λ _. tt,
                      ),
                    ),
                  ),
                ),
              ),
            ),
          ),
        ),
      )

  -- and rows behind the file's
  then_plain : (cs : List Check) → Always NoReason cs → Always (HandsOn file) (file_checks s f ++ cs)
  then_plain cs h = in_turn (HandsOn file) (file_checks s f) cs file_rows (λ r e. plain file r (h r e))

-- ---- each public operation: given files

module _ (f : List ℕ) where
  -- the only file, whatever its side
  abbrev only : ℕ → List ℕ
  only s = f

  pub side_read_reason : (s : ℕ) (a : Result Header Refusal) → ReadsSide s f a → (r : Refusal) → reading_says a ≡ said_of r → HandsOn only r
  side_read_reason s a m = answered_refusal reading_says (file_checks s f) [] a [] (HandsOn only) (file_rows s f only refl) (side_read_first s f a m)

  pub read_reason : (a : Result Header Refusal) → Reads f a → (r : Refusal) → reading_says a ≡ said_of r → HandsOn only r
  read_reason = side_read_reason 0

  pub run_reason : (start : ℕ) (a : Result Ran Refusal) → Runs f start a → (r : Refusal) → ran_says a ≡ said_of r → HandsOn only r
  run_reason start a m =
      answered_refusal ran_says (run_checks f start) [] a [] (HandsOn only) (then_plain 0 f only refl _ (state_row start (2 ^ wires_of f))) (run_first f start a m)

  pub count_reason : (a : Result Counted Refusal) → Counts f a → (r : Refusal) → counted_says a ≡ said_of r → HandsOn only r
  count_reason a m = answered_refusal counted_says (file_checks 0 f) [] a [] (HandsOn only) (file_rows 0 f only refl) (count_first f a m)

  pub fold_reason : (out : List ℕ) (a : Result Folded Refusal) (after : List ℕ) → Folds f out a after → (r : Refusal) → folded_says a ≡ said_of r → HandsOn only r
  fold_reason out a after m =
      answered_refusal folded_says (fold_checks f (length out)) out a after (HandsOn only) (then_plain 0 f only refl _ (room_row (length out) (length (folded_file f)))) (fold_first f out a after m)

  pub cancel_reason : (most : ℕ) (out : List ℕ) (a : Result Cancelled Refusal) (after : List ℕ) → Cancels f most out a after → (r : Refusal) → cancelled_says a ≡ said_of r → HandsOn only r
  cancel_reason most out a after m =
      let room = room_check (length out) (length (cancelled_file f most)) in
      answered_refusal cancelled_says (cancel_checks f most (length out)) out a after (HandsOn only)
      (then_plain 0 f only refl (allow_check most ++ room) (given_by NoReason (allow_check most ++ room) (no_reason ALLOW 0 (λ e. cc), (no_reason ROOM 0 (λ e. cc), tt)))) (cancel_first f most out a after m)

  pub list_reason : (wrapped : Bool) (out : List ℕ) (a : Result ℕ Refusal) (after : List ℕ) → Lists wrapped f out a after → (r : Refusal) → listed_says a ≡ said_of r → HandsOn only r
  list_reason wrapped out a after m =
      let loose = loose_check wrapped (wires_of f) (gates_of f) in
      let room = room_check (length out) (length (listing_of_file wrapped f)) in
      answered_refusal listed_says (list_checks wrapped f (length out)) out a after (HandsOn only)
      (then_plain 0 f only refl (loose ++ room) (in_turn NoReason loose room (loose_given (wires_of f) (gates_of f) NoReason (no_reason LOOSE 0 (λ e. cc)) wrapped) (room_row (length out) (length (listing_of_file wrapped f)))))
      (list_first wrapped f out a after m)

  pub judge_reason : (n : ℕ) (t work : List ℕ) (a : Result Verdict Refusal) (after : List ℕ) → Judges n t f work a after → (r : Refusal) → compared_says a ≡ said_of r → HandsOn only r
  judge_reason n t work a after m =
      answered_refusal compared_says (judge_checks n t f (length work)) work a after (HandsOn only)
      (in_turn (HandsOn only) (table_checks n t) _ (λ r e. plain only r (table_rows n t r e)) (then_plain 0 f only refl _ (work_rows (wires_of f) (n + 1) (length work))))
      (judge_first n t f work a after m)

-- "so 1 for compare's second file"
pub compare_reason : (f g work : List ℕ) (a : Result Verdict Refusal) (after : List ℕ) → Compares f g work a after → (r : Refusal) → compared_says a ≡ said_of r → HandsOn (λ s. get_or (f ∷ g ∷ []) s []) r
compare_reason f g work a after m =
    let both : ℕ → List ℕ = λ s. get_or (f ∷ g ∷ []) s [] in
    answered_refusal compared_says (compare_checks f g (length work)) work a after (HandsOn both)
    (in_turn (HandsOn both) (file_checks 0 f) _ (file_rows 0 f both refl) (then_plain 1 g both refl _ (work_rows (wires_of f) (wires_of g) (length work))))
    (compare_first f g work a after m)

-- ---- and given none

module _ (n : ℕ) (t : List ℕ) where
  pub check_reason : (a : Result (Unit {0}) Refusal) → Checks n t a → (r : Refusal) → checked_says a ≡ said_of r → NoReason r
  check_reason a m = answered_refusal checked_says (table_checks n t) [] a [] NoReason (table_rows n t) (check_first n t a m)

  -- a table, then room for what is written
  with_room : (room need : ℕ) → Always NoReason (table_checks n t ++ room_check room need)
  with_room room need = in_turn NoReason (table_checks n t) (room_check room need) (table_rows n t) (room_row room need)

  pub spectrum_reason : (out : List ℤ) (a : Result ℕ Refusal) (after : List ℤ) → Transforms n t out a after → (r : Refusal) → transformed_says a ≡ said_of r → NoReason r
  spectrum_reason out a after m = answered_refusal transformed_says _ out a after NoReason (with_room (length out) (2 ^ n)) (spectrum_first n t out a after m)

  pub build_reason : (out : List ℕ) (a : Result ℕ Refusal) (after : List ℕ) → Builds n t out a after → (r : Refusal) → built_says a ≡ said_of r → NoReason r
  build_reason out a after m = answered_refusal built_says _ out a after NoReason (with_room (length out) (2 ^ (n + 4))) (build_first n t out a after m)

  pub oracle_reason : (out : List ℕ) (a : Result ℕ Refusal) (after : List ℕ) → ListsOracle n t out a after → (r : Refusal) → listed_says a ≡ said_of r → NoReason r
  oracle_reason out a after m = answered_refusal listed_says _ out a after NoReason (with_room (length out) (length (oracle_text n t))) (oracle_first n t out a after m)

pub writing_reason : (text out : List ℕ) (a : Result ℕ Refusal) (after : List ℕ) → Writes text out a after → (r : Refusal) → listed_says a ≡ said_of r → NoReason r
writing_reason text out a after m = answered_refusal listed_says _ out a after NoReason (room_row (length out) (length text)) (writing_first text out a after m)

pub printout_reason : (input out : List ℕ) (a : Result ℕ Refusal) (after : List ℕ) → Prints input out a after → (r : Refusal) → listed_says a ≡ said_of r → NoReason r
printout_reason input = writing_reason (printout input)
