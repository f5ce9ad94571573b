-- 01, "Cases on each side": the cases marked (p), the built file of two variables, two on what folding keeps, what "Listing" says of the program's inputs, and seven of version 2 (02 §12).
-- Each lends a slice that is just as long as the result.
-- The scores are by 02 §2: "01's built files fall from 3 to 0 and from 8 to 7." The cases of version 2 are 02 §12's.
use Rattle.std.specs.Prelude.{ℕ, true, List, [], ◌∷◌, length, replicate, ℤ, pos, negsuc, Ok, Err}
use Rattle.refusal.specs.Names.{refusal, LOOSE}
use Rattle.spectrum.specs.Spectrum.{Transforms}
use Rattle.circuit.specs.declared.Gate.{Gate}
use Rattle.circuit.specs.declared.Gate.TheVariants.{Cnot, Phase, Inverter}
use Rattle.circuit.specs.File.{file_of}
use Rattle.running.specs.Run.{Counts}
use Rattle.build.specs.Construction.{Builds}
use Rattle.fold.specs.Fold.{Folds}
use Rattle.verdict.specs.declared.Verdict.{Verdict}
use Rattle.verdict.specs.declared.Verdict.TheVariants.{Same, Different}
use Rattle.verdict.specs.Judging.{Compares}
use Rattle.listing.specs.Text.{ascii}
use Rattle.listing.specs.Listing.{Lists}
use Rattle.oracle_listing.specs.Oracle.{Prints}

pub data Case : Type 0 where
  -- n, a table, its spectrum
  spectrum : ℕ → List ℕ → List ℤ → Case
  -- n, a table, the built file
  built : ℕ → List ℕ → List ℕ → Case
  -- a file, its CNOTs, phase gates, score and inverters
  counted : List ℕ → ℕ → ℕ → ℕ → ℕ → Case
  -- a file, what it folds to, the scores before and after
  folds : List ℕ → List ℕ → ℕ → ℕ → Case
  -- two files, the verdict, the coefficients' differences
  compared : List ℕ → List ℕ → Verdict → List ℕ → Case
  -- the listing program's input, and what it prints
  prints : List ℕ → List ℕ → Case
  -- a file, and its wrapped listing
  wraps : List ℕ → List ℕ → Case
  -- a file whose wrapped listing is refused 17, without room too
  is_loose : List ℕ → Case

abbrev pub zeros : {A : Type 0} → List A → List ℕ
zeros l = replicate (length l) 0

-- a case holds where its answer and its slice meet the operation's contract; by `NoSecond` nothing else then does
abbrev pub Holds : Case → Type 0
Holds (spectrum n t s) = Transforms n t (replicate (length s) (pos 0)) (Ok (length s)) s
Holds (built n t f) = Builds n t (zeros f) (Ok (length f)) f
Holds (counted f c p s x) = Counts f (Ok (record { cnots = c; phases = p; score = s; inverters = x }))
Holds (folds f g b a) = Folds f (zeros g) (Ok (record { length = length g; before = b; after = a })) g
Holds (compared f g v d) = Compares f g (zeros d) (Ok v) d
Holds (prints input text) = Prints input (zeros text) (Ok (length text)) text
Holds (wraps f text) = Lists true f (zeros text) (Ok (length text)) text
Holds (is_loose f) = Lists true f [] (Err (refusal LOOSE)) []

abbrev pub AllHold : List Case → Type 0
AllHold [] = Unit {0}
AllHold (c ∷ cs) = Holds c × AllHold cs

-- "Built, n 1, byte 02"
abbrev pub built_here : List ℕ
built_here =
    0x50 ∷ 0x48 ∷ 0x47 ∷ 0x00 ∷ 0x01 ∷ 0x02 ∷ 0x00 ∷ 0x06 ∷ 0x02 ∷ 0x01 ∷ 0x40 ∷ 0x00 ∷ 0x02 ∷ 0x00 ∷ 0x40 ∷ 0x00 ∷ 0x02 ∷ 0x01 ∷ 0x00 ∷ 0x00 ∷ 0x01 ∷ 0x00
    ∷ 0x01 ∷ 0x00 ∷ 0x02 ∷ 0x01 ∷ 0xC0 ∷ 0x00 ∷ 0x01 ∷ 0x00 ∷ 0x01 ∷ 0x00 ∷ []

-- "For n 2, byte 08: 14 gates, .."
abbrev pub built_of_two : List ℕ
built_of_two =
    file_of 1 3 (Phase 2 16384 ∷ Phase 0 8192 ∷ Phase 1 8192 ∷ Cnot 0 1 ∷ Phase 1 57344 ∷ Cnot 0 1 ∷ Phase 2 57344 ∷ Cnot 0 2 ∷ Phase 2 57344 ∷ Cnot 1 2 ∷ Phase 2 8192 ∷ Cnot 0 2 ∷ Phase 2 57344 ∷ Cnot 1 2 ∷ [])

-- ".. folding to 13 ..; its first gate becomes phase 8,192 on wire 2"
abbrev pub folded_of_two : List ℕ
folded_of_two = file_of 1 3 (Phase 2 8192 ∷ Phase 0 8192 ∷ Phase 1 8192 ∷ Cnot 0 1 ∷ Phase 1 57344 ∷ Cnot 0 1 ∷ Cnot 0 2 ∷ Phase 2 57344 ∷ Cnot 1 2 ∷ Phase 2 8192 ∷ Cnot 0 2 ∷ Phase 2 57344 ∷ Cnot 1 2 ∷ [])

-- "the empty circuit on 2 wires"
abbrev pub empty : List ℕ
empty = file_of 1 2 []

-- "Phases of a on wires 0 and 1, CNOT 0 to 1, a on wire 1, the CNOT again"
abbrev pub threefold : ℕ → List ℕ
threefold a = file_of 1 2 (Phase 0 a ∷ Phase 1 a ∷ Cnot 0 1 ∷ Phase 1 a ∷ Cnot 0 1 ∷ [])

-- "CNOT 0 to 1"
abbrev pub one_cnot : List ℕ
one_cnot = file_of 1 2 (Cnot 0 1 ∷ [])

-- a circuit on 1 wire in version 2, and the empty one in version 1
abbrev pub on_one : List Gate → List ℕ
on_one gs = file_of 2 1 gs

abbrev pub empty_on_one : List ℕ
empty_on_one = file_of 1 1 []

-- 02 §12: turns every start by a
abbrev pub every_start : ℕ → List ℕ
every_start a = on_one (Phase 0 a ∷ Inverter 0 ∷ Phase 0 a ∷ Inverter 0 ∷ [])

-- one mask without and with the flip, by 5 and 9 and by 7
abbrev pub two_flips : List ℕ
two_flips = on_one (Phase 0 5 ∷ Inverter 0 ∷ Phase 0 7 ∷ Inverter 0 ∷ Phase 0 9 ∷ [])

unfoldable pub cases : List Case
cases =
    spectrum 1 (0x00 ∷ []) (pos 2 ∷ pos 0 ∷ [])
    ∷ spectrum 2 (0x08 ∷ []) (pos 2 ∷ pos 2 ∷ pos 2 ∷ negsuc 1 ∷ [])
    ∷ spectrum 2 (0x06 ∷ []) (pos 0 ∷ pos 0 ∷ pos 0 ∷ pos 4 ∷ [])
    ∷ spectrum 3 (0xE8 ∷ []) (pos 0 ∷ pos 4 ∷ pos 4 ∷ pos 0 ∷ pos 4 ∷ pos 0 ∷ pos 0 ∷ negsuc 3 ∷ [])
    ∷ built 1 (0x02 ∷ []) built_here
    ∷ counted built_here 2 4 0 0
    ∷ built 2 (0x08 ∷ []) built_of_two
    ∷ counted built_of_two 6 8 7 0
    ∷ folds built_of_two folded_of_two 7 7
    ∷ counted folded_of_two 6 7 7 0
    ∷ folds (file_of 1 1 (Phase 0 1 ∷ Phase 0 65535 ∷ [])) (file_of 1 1 []) 2 0
    ∷ folds (file_of 1 2 (Phase 1 5 ∷ Cnot 0 1 ∷ Phase 1 7 ∷ Cnot 0 1 ∷ Phase 1 9 ∷ [])) (file_of 1 2 (Phase 1 14 ∷ Cnot 0 1 ∷ Phase 1 7 ∷ Cnot 0 1 ∷ [])) 3 2
    ∷ compared one_cnot empty (Different 1 3 1 0) (0 ∷ 0 ∷ 0 ∷ 0 ∷ [])
    ∷ compared (file_of 1 2 (Cnot 1 0 ∷ [])) empty (Different 2 3 2 0) (0 ∷ 0 ∷ 0 ∷ 0 ∷ [])
    ∷ compared built_here empty (Different 3 3 3 32768) (0 ∷ 0 ∷ 0 ∷ 32768 ∷ [])
    ∷ compared (threefold 32768) empty Same (0 ∷ 0 ∷ 0 ∷ 0 ∷ [])
    -- "equal circuits may have different folded parities": this one keeps its three groups
    ∷ folds (threefold 32768) (threefold 32768) 0 0
    -- a total of 16,384 stays, and is free
    ∷ folds (file_of 1 1 (Phase 0 8192 ∷ Phase 0 8192 ∷ [])) (file_of 1 1 (Phase 0 16384 ∷ [])) 2 0
    ∷ compared (threefold 16384) empty (Different 1 1 1 32768) (0 ∷ 32768 ∷ 32768 ∷ 32768 ∷ [])
    ∷ prints (0x01 ∷ 0x02 ∷ [])
    (ascii
    "OPENQASM 2.0;\ninclude \"qelib1.inc\";\nqreg q[2];\nh q[1];\nu1(1*pi/2) q[1];\nu1(1*pi/2) q[0];\ncx q[0],q[1];\nu1(3*pi/2) q[1];\ncx q[0],q[1];\nh q[1];\n")
    -- "An empty input is refused 1."; "n 1 byte 04 is refused 3"
    ∷ prints [] (ascii "refused 1\n")
    ∷ prints (0x01 ∷ 0x04 ∷ []) (ascii "refused 3\n")
    -- X twice, against the empty circuit of the other version and of its own
    ∷ compared (on_one (Inverter 0 ∷ Inverter 0 ∷ [])) empty_on_one Same (0 ∷ 0 ∷ [])
    ∷ compared (on_one (Inverter 0 ∷ Inverter 0 ∷ [])) (on_one []) Same (0 ∷ 0 ∷ [])
    -- X, phase a, X: a where the bit is 0
    ∷ compared (on_one (Inverter 0 ∷ Phase 0 16385 ∷ Inverter 0 ∷ [])) empty_on_one (Different 0 0 0 16385) (16385 ∷ 49151 ∷ [])
    ∷ compared (on_one (Inverter 0 ∷ [])) empty_on_one (Different 0 1 0 0) (0 ∷ 0 ∷ [])
    -- "Entry 0 of the coefficients is the constant, and a differing state may now be 0."
    ∷ compared (every_start 16385) empty_on_one (Different 0 0 0 16385) (16385 ∷ 0 ∷ [])
    -- "where mask and flip both agree"; "Folding .. write[s] the input's version"
    ∷ folds two_flips (on_one (Phase 0 14 ∷ Inverter 0 ∷ Phase 0 7 ∷ Inverter 0 ∷ [])) 3 2
    -- "The count answers the X gates too"
    ∷ counted two_flips 0 3 3 2
    -- 02 §8, "wires left mixed": one CNOT, and three that swap two wires; the same one twice comes back
    ∷ is_loose one_cnot
    ∷ is_loose (file_of 1 2 (Cnot 0 1 ∷ Cnot 1 0 ∷ Cnot 0 1 ∷ []))
    ∷ wraps (file_of 1 2 (Cnot 0 1 ∷ Cnot 0 1 ∷ [])) (ascii "OPENQASM 2.0;\ninclude \"qelib1.inc\";\nqreg q[2];\nh q[1];\ncx q[0],q[1];\ncx q[0],q[1];\nh q[1];\n")
    -- "17 asks for no flips either": X once, and twice
    ∷ is_loose (on_one (Inverter 0 ∷ []))
    ∷ wraps (on_one (Inverter 0 ∷ Inverter 0 ∷ [])) (ascii "OPENQASM 2.0;\ninclude \"qelib1.inc\";\nqreg q[1];\nh q[0];\nx q[0];\nx q[0];\nh q[0];\n")
    ∷ []
