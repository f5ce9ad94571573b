-- What listing a file's folding does, on the way from a table to its text.
use Rattle.std.specs.Prelude.{true, List, [], ◌∷◌, ◌++◌, ℕ, length}
use Rattle.refusal.specs.Checks.{outcome, room_check}
use Rattle.refusal.specs.Contract.{Meets}
use Rattle.circuit.specs.File.{wires_of, gates_of, file_checks}
use Rattle.std.specs.Prelude.{Result}
use Rattle.refusal.specs.declared.Refusal.{Refusal}
use Rattle.listing.specs.Listing.{loose_check, listed_says}
use Rattle.oracle_listing.specs.Oracle.{folded_listing}

-- the contract of listing a file's folding: rows 4 to 10, then 17 of the file itself, then 13 where out is shorter than the text
abbrev pub ListsFolded : List ℕ → List ℕ → Result ℕ Refusal → List ℕ → Type 0
ListsFolded f out answer after =
    Meets listed_says (outcome (file_checks 0 f ++ (loose_check true (wires_of f) (gates_of f) ++ room_check (length out) (length (folded_listing f))))) (length (folded_listing f) ∷ []) (folded_listing f) out answer after
