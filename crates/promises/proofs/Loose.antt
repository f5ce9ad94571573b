-- 02 §8: what is wrapped, in which order it is asked, that all else is as before, and that a table's listing never says 17.
use Prim.Native.Nat.{ℕ, ◌<◌}
use native.Mathlib.Decide.{dec_lt}
use native.Mathlib.Omega.{arith}
use mathlib.Core.Path.{◌≡◌, refl, sym, ap, subst, ◌∙◌}
use mathlib.Core.Bool.{Bool, true, false}
use mathlib.Core.Logic.{◌↔◌, ◌⊎◌, inl, inr}
use mathlib.Core.List.{List, [], ◌∷◌, ◌++◌}
use lib.ListN.{length, get_or}
use Rattle.std.specs.Prelude.{Result}
use Rattle.refusal.specs.declared.Refusal.{Refusal}
use Rattle.refusal.specs.Names.{number_of, refusal, ROOM, LOOSE}
use Rattle.refusal.specs.Checks.{Check, Outcome, passed, refused, outcome, room_check}
use Rattle.refusal.specs.Contract.{said_of, Meets}
use Rattle.refusal.proofs.Outcomes.{reaches, either, then_refused, then_passed}
use Rattle.refusal.proofs.Contracts.{when_refused}
use Rattle.refusal.proofs.Given.{given_by}
use Rattle.table.specs.Table.{table_checks}
use Rattle.table.proofs.Callers.{good_variables, table_refusal}
use Rattle.circuit.specs.Bytes.{Bytes}
use Rattle.circuit.specs.File.{wires_of, gates_of, file_checks}
use Rattle.circuit.proofs.Callers.{good_file}
use Rattle.circuit.proofs.Files.{file_sound}
use Rattle.running.specs.Ends.{lowest_loose, ComesBack}
use Rattle.running.proofs.Ends.{back_exactly, back_ends, ends_back}
use Rattle.build.specs.Construction.{built_file}
use Rattle.build.proofs.Files.{built_passes, built_back}
use Rattle.fold.specs.Fold.{folded_file}
use Rattle.fold.proofs.Files.{same_wires, file_loose}
use Rattle.listing.specs.Text.{decimal_from}
use Rattle.listing.specs.Listing.{head_lines, listing_of, listing_of_file, loose_check, list_checks, listed_says, Lists, refused_line}
use Rattle.listing.proofs.Decimals.{one_digit}
use Rattle.listing.proofs.Lengths.{refused_long}
use Rattle.listing.proofs.Wrapping.{loose_refused, wrapped_passes, back_passes}
use Rattle.oracle_listing.specs.Oracle.{variables_of, table_of, oracle_text, oracle_checks, ListsOracle, printout, Prints}
use Rattle.oracle_listing.proofs.Callers.{printed_text, printed_line}
use Rattle.promises.specs.Loose.{Wraps, NotLoose, ListsAnyway}
use Rattle.promises.proofs.Demand1.{oracle_first, printout_first}
use Rattle.promises.proofs.Demand3.{built_bytes}
use Rattle.promises.proofs.Reasons.{answered_refusal}

-- the check is the paper's, for every file that the reader accepts
pub wraps_exactly : (f : List ℕ) → Bytes f → outcome (file_checks 0 f) ≡ passed → Wraps (wires_of f) (gates_of f)
wraps_exactly f bytes good =
    let w = wires_of f in
    let gs = gates_of f in
    let sound = file_sound f bytes (good_file 0 f good) in
    let p = wrapped_passes w gs in
    record { masks = p; states = (λ e. back_ends w gs sound (p.0 e), λ h. p.1 (ends_back w gs sound h)) }

-- ---- the order

module _ (f out : List ℕ) (a : Result ℕ Refusal) (after : List ℕ) where
  abbrev loose : Bool → List Check
  loose wrapped = loose_check wrapped (wires_of f) (gates_of f)

  abbrev room : Bool → List Check
  room wrapped = room_check (length out) (length (listing_of_file wrapped f))

  -- where the checks come to a refusal it is answered, and nothing is written
  answers : (wrapped : Bool) (r : Refusal) → outcome (list_checks wrapped f (length out)) ≡ refused r → Lists wrapped f out a after → (listed_says a ≡ said_of r) × (after ≡ out)
  answers wrapped r e m = when_refused listed_says (outcome (list_checks wrapped f (length out))) (length (listing_of_file wrapped f) ∷ []) (listing_of_file wrapped f) out a after r e m

  -- "after 10": the file's own refusals first, whatever its wires and the room
  pub file_before_loose : (wrapped : Bool) (r : Refusal) → outcome (file_checks 0 f) ≡ refused r → Lists wrapped f out a after → (listed_says a ≡ said_of r) × (after ≡ out)
  file_before_loose wrapped r e = answers wrapped r (then_refused (file_checks 0 f) (loose wrapped ++ room wrapped) r e)

  module _ (good : outcome (file_checks 0 f) ≡ passed) where
    -- "and before 13": then 17, whatever the room
    pub loose_before_room : ¬ (ComesBack (wires_of f) (gates_of f)) → Lists true f out a after → (listed_says a ≡ said_of (refusal LOOSE)) × (after ≡ out)
    loose_before_room h =
        answers true (refusal LOOSE) (then_passed (file_checks 0 f) (loose true ++ room true) good ∙ then_refused (loose true) (room true) (refusal LOOSE) (loose_refused (wires_of f) (gates_of f) (by (dec_lt (lowest_loose (wires_of f) (gates_of f)) (wires_of f)))))
      where
        by : Dec (lowest_loose (wires_of f) (gates_of f) < wires_of f) → lowest_loose (wires_of f) (gates_of f) < wires_of f
        by (yes l) = l
        by (no l) = absurd (h ((back_exactly (wires_of f) (gates_of f)).0 (omega arith)))

    -- and 13 where 17 passes
    pub room_behind_loose : (wrapped : Bool) → outcome (loose_check wrapped (wires_of f) (gates_of f)) ≡ passed → length out < length (listing_of_file wrapped f) → Lists wrapped f out a after → (listed_says a ≡ said_of (refusal ROOM)) × (after ≡ out)
    room_behind_loose wrapped p h =
        answers wrapped (refusal ROOM) (then_passed (file_checks 0 f) (loose wrapped ++ room wrapped) good ∙ then_passed (loose wrapped) (room wrapped) p ∙ reaches (room wrapped) (refused (refusal ROOM)) (inl (h, refl)))

  -- ---- as before

  -- a plain listing is what it was
  pub plain_as_before : Lists false f out a after ↔ ListsAnyway false f out a after
  plain_as_before = (λ m. m, λ m. m)

  -- and so is the wrapped one of what comes back: the same answer, the same bytes
  pub wrapped_as_before : ComesBack (wires_of f) (gates_of f) → (Lists true f out a after ↔ ListsAnyway true f out a after)
  wrapped_as_before b = (subst Meeting same, subst Meeting (sym same))
    where
      Meeting : Outcome → Type 0
      Meeting o = Meets listed_says o (length (listing_of_file true f) ∷ []) (listing_of_file true f) out a after

      same : outcome (list_checks true f (length out)) ≡ outcome (file_checks 0 f ++ room true)
      same = by (either (outcome (file_checks 0 f)))
        where
          by : (outcome (file_checks 0 f) ≡ passed) ⊎ ((r : Refusal) × (outcome (file_checks 0 f) ≡ refused r)) → outcome (list_checks true f (length out)) ≡ outcome (file_checks 0 f ++ room true)
          by (inl p) = then_passed (file_checks 0 f) (loose true ++ room true) p ∙ then_passed (loose true) (room true) (back_passes (wires_of f) (gates_of f) true b) ∙ sym (then_passed (file_checks 0 f) (room true) p)
          by (inr (r, p)) = then_refused (file_checks 0 f) (loose true ++ room true) r p ∙ sym (then_refused (file_checks 0 f) (room true) r p)

-- ---- a table's circuit

module _ (n : ℕ) (t : List ℕ) (good : outcome (table_checks n t) ≡ passed) where
  -- a built file brings every wire back
  pub built_comes_back : ComesBack (wires_of (built_file n t)) (gates_of (built_file n t))
  built_comes_back = let v = good_variables n t good in built_back n t v.0 v.1

  -- and so does its folding
  pub folded_comes_back : ComesBack (wires_of (folded_file (built_file n t))) (gates_of (folded_file (built_file n t)))
  folded_comes_back =
      let f = built_file n t in
      let v = good_variables n t good in
      let b = (back_exactly (wires_of f) (gates_of f)).1 built_comes_back in
      (back_exactly (wires_of (folded_file f)) (gates_of (folded_file f))).0 (omega (arith, same_wires f, file_loose 0 f (built_bytes n t good) (built_passes n t v.0 v.1 0)))

-- so neither of_table and oracle_listing nor printout refuses 17 ..
pub oracle_never_loose : (n : ℕ) (t out : List ℕ) (a : Result ℕ Refusal) (after : List ℕ) → ListsOracle n t out a after → (r : Refusal) → listed_says a ≡ said_of r → NotLoose r
oracle_never_loose n t out a after m =
    answered_refusal listed_says (oracle_checks n t (length out)) out a after NotLoose
    (given_by NotLoose (oracle_checks n t (length out)) ((λ e. cc), ((λ e. cc), ((λ e. cc), ((λ e. cc), ((λ e. cc), tt))))))
    (oracle_first n t out a after m)

pub printout_never_loose : (input out : List ℕ) (a : Result ℕ Refusal) (after : List ℕ) → Prints input out a after → (r : Refusal) → listed_says a ≡ said_of r → NotLoose r
printout_never_loose input out a after m =
    answered_refusal listed_says (room_check (length out) (length (printout input))) out a after NotLoose (given_by NotLoose (room_check (length out) (length (printout input))) ((λ e. cc), tt)) (printout_first input out a after m)

-- .. and the listing program never prints it: a text begins with another byte, and the table's refusals have one digit
first_byte : (n : ℕ) (t : List ℕ) → get_or (oracle_text n t) 0 0 ≡ 79
unfolding listing_of head_lines
first_byte n t = refl

line_byte : get_or (refused_line (number_of LOOSE)) 0 0 ≡ 114
unfolding refused_line
line_byte = refl

line_length : length (refused_line (number_of LOOSE)) ≡ 11
unfolding refused_line decimal_from
line_length = refl

pub never_prints_loose : (input : List ℕ) → ¬ (printout input ≡ refused_line (number_of LOOSE))
never_prints_loose input e = by (either (outcome (table_checks (variables_of input) (table_of input))))
  where
    by : (outcome (table_checks (variables_of input) (table_of input)) ≡ passed) ⊎ ((r : Refusal) × (outcome (table_checks (variables_of input) (table_of input)) ≡ refused r)) → ⊥
    by (inl p) =
        let q = ap (λ (l : List ℕ). get_or l 0 0) (sym (printed_text (variables_of input) (table_of input) p) ∙ e) in
        omega (arith, first_byte (variables_of input) (table_of input), line_byte)
    by (inr (r, p)) =
        let q = ap length (sym (printed_line (variables_of input) (table_of input) r p) ∙ e) in
        omega (arith, line_length, refused_long (number_of r.cause), one_digit (number_of r.cause) (omega (arith, table_refusal (variables_of input) (table_of input) r p)))
