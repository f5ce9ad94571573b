-- 01, "Listing": what the listing program prints for the bytes that it reads.
use Rattle.std.specs.Prelude.{ℕ, true, List, [], ◌∷◌, ◌++◌, length, get_or, drop}
use Rattle.refusal.specs.Names.{number_of}
use Rattle.refusal.specs.Checks.{Check, outcome, settle, room_check}
use Rattle.refusal.specs.Contract.{Meets}
use Rattle.table.specs.Table.{table_checks}
use Rattle.build.specs.Construction.{built_file}
use Rattle.fold.specs.Fold.{folded_file}
use Rattle.std.specs.Prelude.{Result}
use Rattle.refusal.specs.declared.Refusal.{Refusal}
use Rattle.listing.specs.Listing.{listing_of_file, listed_says, refused_line, Writes}

-- "reads the byte n and then the table"; of an empty input n is 0, which row 1 refuses
abbrev pub variables_of : List ℕ → ℕ
variables_of input = get_or input 0 0

abbrev pub table_of : List ℕ → List ℕ
table_of input = drop 1 input

-- "the wrapped listing of the folded circuit" of a file
abbrev pub folded_listing : List ℕ → List ℕ
folded_listing f = listing_of_file true (folded_file f)

-- that of the circuit that is built
abbrev pub oracle_text : ℕ → List ℕ → List ℕ
oracle_text n t = folded_listing (built_file n t)

-- rows 1 to 3, then 13 where out is shorter than the text
abbrev pub oracle_checks : ℕ → List ℕ → ℕ → List Check
oracle_checks n t room = table_checks n t ++ room_check room (length (oracle_text n t))

-- the contract of of_table, and of oracle_listing for the n and the table of its input
abbrev pub ListsOracle : ℕ → List ℕ → List ℕ → Result ℕ Refusal → List ℕ → Type 0
ListsOracle n t out answer after =
    Meets listed_says (outcome (oracle_checks n t (length out))) (length (oracle_text n t) ∷ []) (oracle_text n t) out answer after

-- "prints the wrapped listing of the folded circuit, or `refused N` and a newline"
abbrev pub printed : ℕ → List ℕ → List ℕ
printed n t = settle (outcome (table_checks n t)) (λ r. refused_line (number_of r.cause)) (oracle_text n t)

-- what the listing program prints for an input
abbrev pub printout : List ℕ → List ℕ
printout input = printed (variables_of input) (table_of input)

-- the contract of printout: 13 where out is shorter, and nothing else
abbrev pub Prints : List ℕ → List ℕ → Result ℕ Refusal → List ℕ → Type 0
Prints input = Writes (printout input)
