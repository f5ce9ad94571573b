-- What a caller of `list` or `refused_line` knows when it answers and when it refuses; that no two answers say the same; and how long a file's text can be.
use Prim.Native.Nat.{ℕ, ◌≤◌}
use native.Mathlib.Omega.{arith}
use mathlib.Core.Path.{◌≡◌, ap}
use mathlib.Core.Bool.{Bool}
use mathlib.Core.List.{List, [], ◌∷◌, ◌++◌}
use lib.ListN.{length, drop}
use Rattle.refusal.specs.declared.Refusal.{Refusal}
use Rattle.refusal.specs.Checks.{Check, passed, refused, outcome, room_check}
use Rattle.refusal.proofs.Passed.{passed_fail}
use Rattle.refusal.proofs.Contracts.{Distinct, answers_distinct, meets_values, meets_refusal}
use Rattle.refusal.proofs.Outcomes.{parts_pass}
use Rattle.refusal.proofs.Rooms.{room_suffices}
use Rattle.circuit.specs.File.{wires_of, gates_of, file_checks}
use Rattle.circuit.specs.Bytes.{Bytes}
use Rattle.circuit.proofs.Callers.{good_file}
use Rattle.circuit.proofs.Files.{file_sound, length-gates}
use Rattle.std.specs.Prelude.{Result, Ok, Err}
use Rattle.listing.specs.Listing.{listing_of_file, loose_check, list_checks, listed_says, Lists, Writes}
use Rattle.listing.proofs.Lengths.{listing_short}

module _ (wrapped : Bool) (f before : List ℕ) (a : Result ℕ Refusal) (after : List ℕ) (m : Lists wrapped f before a after) where
  abbrev text : List ℕ
  text = listing_of_file wrapped f

  pub list_answers : (l : ℕ) → a ≡ Ok l → (outcome (list_checks wrapped f (length before)) ≡ passed) × (l ≡ length (listing_of_file wrapped f)) × (after ≡ listing_of_file wrapped f ++ drop (length (listing_of_file wrapped f)) before)
  list_answers l e =
      let v = meets_values listed_says (outcome (list_checks wrapped f (length before))) (length text ∷ []) text before a after m (l ∷ []) (ap listed_says e) in
      (v.0, cc v.1, v.2)

  pub list_refuses : (r : Refusal) → a ≡ Err r → (outcome (list_checks wrapped f (length before)) ≡ refused r) × (after ≡ before)
  list_refuses r e = meets_refusal listed_says (outcome (list_checks wrapped f (length before))) (length text ∷ []) text before a after m r (ap listed_says e)

-- what a caller knows of a function that writes a text and has nothing but the room to refuse
module _ (text before : List ℕ) (a : Result ℕ Refusal) (after : List ℕ) (m : Writes text before a after) where
  abbrev room : List Check
  room = room_check (length before) (length text)

  pub text_answers : (l : ℕ) → a ≡ Ok l → (length text ≤ length before) × (l ≡ length text) × (after ≡ text ++ drop (length text) before)
  text_answers l e =
      let v = meets_values listed_says (outcome room) (length text ∷ []) text before a after m (l ∷ []) (ap listed_says e) in
      ((passed_fail room v.0).0, cc v.1, v.2)

  pub text_refuses : (r : Refusal) → a ≡ Err r → (outcome room ≡ refused r) × (after ≡ before)
  text_refuses r e = meets_refusal listed_says (outcome room) (length text ∷ []) text before a after m r (ap listed_says e)

pub listed_distinct : Distinct listed_says
listed_distinct = answers_distinct (λ (l : ℕ). l ∷ []) (λ j k e. cc)

-- how long the text of a file can be: 2,048 gates of 32 bytes, and 64 for the rest
module _ (wrapped : Bool) (f : List ℕ) (bytes : Bytes f) where
  pub list_short : outcome (file_checks 0 f) ≡ passed → length (listing_of_file wrapped f) ≤ 65600
  list_short e =
      let g = good_file 0 f e in
      omega (arith, g.count, length-gates f bytes g, listing_short wrapped (wires_of f) (gates_of f) g.few (file_sound f bytes g))

  -- with that much room only the file and its loose wires can be refused
  pub list_room : (room : ℕ) → 65600 ≤ room → outcome (list_checks wrapped f room) ≡ outcome (file_checks 0 f ++ loose_check wrapped (wires_of f) (gates_of f))
  list_room room h =
      let loose = loose_check wrapped (wires_of f) (gates_of f) in
      room_suffices (file_checks 0 f ++ loose) room (length (listing_of_file wrapped f)) (λ e. omega (arith, list_short (parts_pass (file_checks 0 f) loose e).0))
