-- What a caller of `of_table` or `oracle_listing` knows when it answers and when it refuses; and how much room every table's text and every printout has in.
use Prim.Native.Nat.{ℕ, ◌+◌, ◌*◌, ◌≤◌}
use native.Mathlib.Omega.{arith}
use mathlib.Core.Path.{◌≡◌, refl, ap}
use mathlib.Core.Bool.{true}
use mathlib.Core.Logic.{◌⊎◌, inl, inr}
use mathlib.Core.List.{List, [], ◌∷◌, ◌++◌}
use lib.ListN.{length, drop}
use lib.Pow.{pow_mono}
use Rattle.refusal.specs.declared.Refusal.{Refusal}
use Rattle.refusal.specs.Names.{number_of}
use Rattle.refusal.specs.Checks.{passed, refused, outcome, room_check}
use Rattle.refusal.proofs.Contracts.{meets_values, meets_refusal, when_passed}
use Rattle.refusal.proofs.Outcomes.{reaches, either}
use Rattle.table.specs.Table.{table_checks, value_at}
use Rattle.table.proofs.Callers.{good_variables, table_refusal}
use Rattle.circuit.specs.Working.{AllSound, AllAdmitted}
use Rattle.circuit.specs.File.{version_of, wires_of, gates_of}
use Rattle.circuit.proofs.Files.{list_written, wires_written, length-file}
use Rattle.build.specs.Construction.{built_file, construction}
use Rattle.build.proofs.Files.{built_long, built_gates, built_wires}
use Rattle.build.proofs.Circuits.{sound_construction, admitted_construction}
use Rattle.fold.specs.Fold.{folded}
use Rattle.fold.proofs.Folding.{folded_sound, folded_admitted, folded_shorter}
use Rattle.std.specs.Prelude.{Result, Ok, Err}
use Rattle.listing.specs.Listing.{listed_says, refused_line}
use Rattle.listing.proofs.Callers.{listed_distinct}
use Rattle.listing.proofs.Decimals.{one_digit}
use Rattle.listing.proofs.Lengths.{listing_short, refused_long}
use Rattle.oracle_listing.specs.Oracle.{variables_of, table_of, folded_listing, oracle_text, oracle_checks, ListsOracle, printed, printout, Prints}

module _ (n : ℕ) (t before : List ℕ) (a : Result ℕ Refusal) (after : List ℕ) (m : ListsOracle n t before a after) where
  pub oracle_answers : (l : ℕ) → a ≡ Ok l → (outcome (oracle_checks n t (length before)) ≡ passed) × (l ≡ length (oracle_text n t)) × (after ≡ oracle_text n t ++ drop (length (oracle_text n t)) before)
  oracle_answers l e =
      let v = meets_values listed_says (outcome (oracle_checks n t (length before))) (length (oracle_text n t) ∷ []) (oracle_text n t) before a after m (l ∷ []) (ap listed_says e) in
      (v.0, cc v.1, v.2)

  pub oracle_refuses : (r : Refusal) → a ≡ Err r → (outcome (oracle_checks n t (length before)) ≡ refused r) × (after ≡ before)
  oracle_refuses r e = meets_refusal listed_says (outcome (oracle_checks n t (length before))) (length (oracle_text n t) ∷ []) (oracle_text n t) before a after m r (ap listed_says e)

-- 65,536 bytes are room for every table's text
pub room_for_text : (n : ℕ) (t : List ℕ) → outcome (table_checks n t) ≡ passed → length (oracle_text n t) ≤ 65536
room_for_text n t e =
    let v = good_variables n t e in
    let f = built_file n t in
    let gs = folded (wires_of f) (gates_of f) in
    let g : gates_of f ≡ construction n (value_at t) = built_gates n t v.0 v.1 in
    let w : wires_of f ≡ n + 1 = built_wires n t v.0 v.1 in
    let s : AllSound (wires_of f) (gates_of f) = rw (g, w) (sound_construction n (value_at t)) in
    let a : AllAdmitted (version_of f) (gates_of f) = rw g (admitted_construction (version_of f) n (value_at t)) in
    let q = folded_sound (wires_of f) (gates_of f) s in
    let l : length (folded_listing f) ≤ 64 + 32 * length gs =
    rw (list_written (version_of f) (wires_of f) gs q (folded_admitted (wires_of f) (gates_of f) (version_of f) a), wires_written (version_of f) (wires_of f) gs) (listing_short true (wires_of f) gs (omega (arith, w, v.1)) q) in
    let k = length-file 1 (n + 1) (construction n (value_at t)) in
    omega (arith, l, folded_shorter (wires_of f) (gates_of f), ap length g, k, built_long n t v.0, pow_mono {i = n + 4} {j = 12} (omega (arith, v.1)))

-- what is printed for a table that passes, and for one that is refused
module _ (n : ℕ) (t : List ℕ) where
  pub printed_text : outcome (table_checks n t) ≡ passed → printed n t ≡ oracle_text n t
  printed_text e = rw e

  pub printed_line : (r : Refusal) → outcome (table_checks n t) ≡ refused r → printed n t ≡ refused_line (number_of r.cause)
  printed_line r e = rw e

  line_short : (r : Refusal) → outcome (table_checks n t) ≡ refused r → length (refused_line (number_of r.cause)) ≤ 65536
  line_short r e = let k = table_refusal n t r e in omega (arith, refused_long (number_of r.cause), one_digit (number_of r.cause) (omega arith))

  printed_short : length (printed n t) ≤ 65536
  printed_short = by (either (outcome (table_checks n t)))
    where
      by : (outcome (table_checks n t) ≡ passed) ⊎ ((r : Refusal) × (outcome (table_checks n t) ≡ refused r)) → length (printed n t) ≤ 65536
      by (inl e) = omega (arith, ap length (printed_text e), room_for_text n t e)
      by (inr (r, e)) = omega (arith, ap length (printed_line r e), line_short r e)

-- and for every printout
pub room_for_printout : (input : List ℕ) → length (printout input) ≤ 65536
room_for_printout input = printed_short (variables_of input) (table_of input)

-- so that a program which lends them is never refused
pub prints_all : (input before : List ℕ) → 65536 ≤ length before → (a : Result ℕ Refusal) (after : List ℕ) → Prints input before a after
    → (a ≡ Ok (length (printout input))) × (after ≡ printout input ++ drop (length (printout input)) before)
prints_all input before h a after m =
    let text = printout input in
    let room = room_check (length before) (length text) in
    let v = when_passed listed_says (outcome room) (length text ∷ []) text before a after (reaches room passed (inr (omega (arith, room_for_printout input), refl))) m in
    (listed_distinct a (Ok (length text)) v.0, v.1)
