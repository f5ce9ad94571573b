-- 02 §8, "Don't wrap what doesn't come back.", as statements about the listing.
use Rattle.std.specs.Prelude.{ℕ, ◌≡◌, Bool, true, ◌↔◌, List, [], ◌∷◌, ◌++◌, length, Result}
use Rattle.refusal.specs.declared.Refusal.{Refusal}
use Rattle.refusal.specs.Names.{LOOSE}
use Rattle.refusal.specs.Checks.{passed, outcome, room_check}
use Rattle.refusal.specs.Contract.{Meets}
use Rattle.circuit.specs.declared.Gate.{Gate}
use Rattle.circuit.specs.File.{file_checks}
use Rattle.running.specs.Ends.{ComesBack, EndsAsItStarts}
use Rattle.listing.specs.Listing.{listing_of_file, loose_check, listed_says}

-- "refused unless every wire ends on its own mask", and 02 §12, "17 asks for no flips either": what passes, by the wires and by the states
pub record Wraps (w : ℕ) (gs : List Gate) : Type 0 where
  pub masks : (outcome (loose_check true w gs) ≡ passed) ↔ ComesBack w gs
  pub states : (outcome (loose_check true w gs) ≡ passed) ↔ EndsAsItStarts w gs

-- a refusal but 17
abbrev pub NotLoose : Refusal → Type 0
NotLoose r = ¬ (r.cause ≡ LOOSE)

-- the contract of list as it was without row 17: rows 4 to 10, then 13
abbrev pub ListsAnyway : Bool → List ℕ → List ℕ → Result ℕ Refusal → List ℕ → Type 0
ListsAnyway wrapped f out answer after =
    Meets listed_says (outcome (file_checks 0 f ++ room_check (length out) (length (listing_of_file wrapped f)))) (length (listing_of_file wrapped f) ∷ []) (listing_of_file wrapped f) out answer after
