-- 01, "How far every promise reaches": "These programs are to be shown unacceptable". What each does wrong, and what showing it means; two are of 02 §12.
use Rattle.std.specs.Prelude.{ℕ, zero, suc, ◌^◌, ◌<◌, ◌≡◌, Bool, cond, List, [], ◌∷◌, ◌++◌, ltb, eqb, length, drop, ℤ, Result, Ok, Err}
use Rattle.numbers.specs.Search.{least}
use Rattle.refusal.specs.declared.Refusal.{Refusal}
use Rattle.refusal.specs.Names.{reason_said, refusal, GATE, LOOSE}
use Rattle.refusal.specs.Contract.{Said}
use Rattle.running.specs.declared.Ran.{Ran}
use Rattle.running.specs.declared.Counted.{Counted}
use Rattle.table.specs.Table.{value_at, Checks}
use Rattle.spectrum.specs.Spectrum.{Transforms}
use Rattle.circuit.specs.declared.Header.{Header}
use Rattle.circuit.specs.declared.Gate.{Gate}
use Rattle.circuit.specs.declared.Gate.TheVariants.{Cnot, Phase, Inverter}
use Rattle.circuit.specs.Gates.{decoded_at, reason_of}
use Rattle.circuit.specs.File.{version_of, wires_of, count_of, gates_of, file_of, Reads}
use Rattle.running.specs.Run.{Runs, score_by, Counts}
use Rattle.running.specs.Masks.{Held, held, held_at, own_held, held_after}
use Rattle.build.specs.Construction.{Builds}
use Rattle.running.specs.Groups.{same_held, held_before}
use Rattle.running.specs.Ends.{held_at_end, lowest_loose}
use Rattle.fold.specs.declared.Folded.{Folded}
use Rattle.fold.specs.Fold.{becomes, Folds}
use Rattle.cancel.specs.declared.Cancelled.{Cancelled}
use Rattle.cancel.specs.Cancel.{Cancels}
use Rattle.verdict.specs.declared.Verdict.{Verdict}
use Rattle.verdict.specs.declared.Verdict.TheVariants.{Same, Different}
use Rattle.numbers.specs.Turn.{difference}
use Rattle.verdict.specs.Verdicts.{Side, circuit, ideal, part}
use Rattle.verdict.specs.Judging.{Compares, Judges}
use Rattle.listing.specs.Listing.{Lists}
use Rattle.oracle_listing.specs.Oracle.{ListsOracle}
use Rattle.promises.specs.Demands.{Refuses}
use Rattle.promises.specs.Loose.{NotLoose}

-- whatever goes wrong in this way does not meet the contract, at an input that is named
pub record Unacceptable {Input Answer Entry : Type 0} (Contract Wrong : Input → Answer → List Entry → Type 0) : Type 0 where
  pub input : Input
  pub fails : (answer : Answer) (after : List Entry) → Wrong input answer after → Contract input answer after → ⊥

-- the contracts, over all that a call is given
abbrev pub ChecksAt : ℕ × List ℕ → Result (Unit {0}) Refusal → List ℕ → Type 0
ChecksAt i answer after = Checks i.0 i.1 answer

abbrev pub TransformsAt : ℕ × List ℕ × List ℤ → Result ℕ Refusal → List ℤ → Type 0
TransformsAt i = Transforms i.0 i.1 i.2

abbrev pub ReadsAt : List ℕ → Result Header Refusal → List ℕ → Type 0
ReadsAt i answer after = Reads i answer

abbrev pub RunsAt : List ℕ × ℕ → Result Ran Refusal → List ℕ → Type 0
RunsAt i answer after = Runs i.0 i.1 answer

abbrev pub CountsAt : List ℕ → Result Counted Refusal → List ℕ → Type 0
CountsAt i answer after = Counts i answer

abbrev pub BuildsAt : ℕ × List ℕ × List ℕ → Result ℕ Refusal → List ℕ → Type 0
BuildsAt i = Builds i.0 i.1 i.2

abbrev pub FoldsAt : List ℕ × List ℕ → Result Folded Refusal → List ℕ → Type 0
FoldsAt i = Folds i.0 i.1

abbrev pub CancelsAt : List ℕ × ℕ × List ℕ → Result Cancelled Refusal → List ℕ → Type 0
CancelsAt i = Cancels i.0 i.1 i.2

abbrev pub ComparesAt : List ℕ × List ℕ × List ℕ → Result Verdict Refusal → List ℕ → Type 0
ComparesAt i = Compares i.0 i.1 i.2

abbrev pub JudgesAt : ℕ × List ℕ × List ℕ × List ℕ → Result Verdict Refusal → List ℕ → Type 0
JudgesAt i = Judges i.0 i.1 i.2 i.3

abbrev pub ListsAt : Bool × List ℕ × List ℕ → Result ℕ Refusal → List ℕ → Type 0
ListsAt i = Lists i.0 i.1 i.2

abbrev pub ListsOracleAt : ℕ × List ℕ × List ℕ → Result ℕ Refusal → List ℕ → Type 0
ListsOracleAt i = ListsOracle i.0 i.1 i.2

-- "one refusing everything"
abbrev pub RefusesEverything : {Input Answer Entry : Type 0} → (Answer → Said) → Input → Answer → List Entry → Type 0
RefusesEverything said input answer after = Refuses said answer

-- "a constant verdict"
abbrev pub AlwaysFinds : {Input : Type 0} → Verdict → Input → Result Verdict Refusal → List ℕ → Type 0
AlwaysFinds v input answer after = answer ≡ Ok v

-- "a builder that leaves its buffer": the inputs are n, the table and the buffer
abbrev pub LeavesBuffer : {Answer : Type 0} → ℕ × List ℕ × List ℕ → Answer → List ℕ → Type 0
LeavesBuffer input answer after = after ≡ input.2

-- "a fold that copies": the inputs are the file and the buffer
abbrev pub Copies : {Answer : Type 0} → List ℕ × List ℕ → Answer → List ℕ → Type 0
Copies input answer after = after ≡ input.0 ++ drop (length input.0) input.1

-- what the first phase gate meets
unfoldable pub first_held : List Gate → List Held → Held
first_held [] hs = held 0 0
first_held (Cnot c t ∷ gs) hs = first_held gs (held_after (Cnot c t) hs)
first_held (Phase i a ∷ gs) hs = held_at hs i
first_held (Inverter i ∷ gs) hs = first_held gs (held_after (Inverter i) hs)

abbrev pub stays_unless : ℕ → List Gate → ℕ → Gate → List Gate
stays_unless w gs p (Cnot c t) = Cnot c t ∷ []
stays_unless w gs p (Phase i a) = cond (eqb (same_held (held_before w gs p i) (first_held gs (own_held w))) 1) (becomes w gs p (Phase i a)) (Phase i a ∷ [])
stays_unless w gs p (Inverter i) = Inverter i ∷ []

-- "a fold that treats the first group only": gates of other groups stay as they are
unfoldable pub first_group : ℕ → List Gate → ℕ → List Gate → List Gate
first_group w gs p [] = []
first_group w gs p (g ∷ rest) = stays_unless w gs p g ++ first_group w gs (suc p) rest

abbrev pub FoldsFirstGroup : {Answer : Type 0} → List ℕ × List ℕ → Answer → List ℕ → Type 0
FoldsFirstGroup input answer after =
    let file = file_of (version_of input.0) (wires_of input.0) (first_group (wires_of input.0) (gates_of input.0) 0 (gates_of input.0)) in
    after ≡ file ++ drop (length file) input.1

-- the verdict of the first k states alone
abbrev pub verdict_among : ℕ → Side → Side → Verdict
verdict_among k a b =
    let x = least (part a b) k 0 in
    cond (ltb x k) (Different x (a.end x) (b.end x) (difference (a.phase x) (b.phase x))) Same

-- "a comparison that tries the first states only": k of them; the inputs are both files and the work slice
abbrev pub TriesFirst : ℕ → List ℕ × List ℕ × List ℕ → Result Verdict Refusal → List ℕ → Type 0
TriesFirst k input answer after = answer ≡ Ok (verdict_among k (circuit (gates_of input.0)) (circuit (gates_of input.1)))

-- the same of judge: the inputs are n, the table, the file and the work slice
abbrev pub JudgesFirst : ℕ → ℕ × List ℕ × List ℕ × List ℕ → Result Verdict Refusal → List ℕ → Type 0
JudgesFirst k input answer after = answer ≡ Ok (verdict_among k (circuit (gates_of input.2)) (ideal input.0 (value_at input.1)))

-- "an invented score": whatever the file
abbrev pub AlwaysScores : ℕ → List ℕ → Result Counted Refusal → List ℕ → Type 0
AlwaysScores s input answer after = (c : ℕ) × (p : ℕ) × (x : ℕ) × (answer ≡ Ok (record { cnots = c; phases = p; score = s; inverters = x }))

-- the same of folding's two scores
abbrev pub AlwaysScoresBefore : ℕ → List ℕ × List ℕ → Result Folded Refusal → List ℕ → Type 0
AlwaysScoresBefore s input answer after = (l : ℕ) × (b : ℕ) × (answer ≡ Ok (record { length = l; before = s; after = b }))

abbrev pub AlwaysScoresAfter : ℕ → List ℕ × List ℕ → Result Folded Refusal → List ℕ → Type 0
AlwaysScoresAfter s input answer after = (l : ℕ) × (b : ℕ) × (answer ≡ Ok (record { length = l; before = b; after = s }))

-- 02 §2, "isn't a multiple of 16,384": the multiples of another number are free
abbrev pub ScoresBy : ℕ → List ℕ → Result Counted Refusal → List ℕ → Type 0
ScoresBy d input answer after = (c : ℕ) × (p : ℕ) × (x : ℕ) × (answer ≡ Ok (record { cnots = c; phases = p; score = score_by d (gates_of input); inverters = x }))

-- 02 §4, "Refusal 10 hands the reason on": one that is the same for every bad gate is not handed on, 0 among them
abbrev pub AlwaysReasons : ℕ → List ℕ → Result Header Refusal → List ℕ → Type 0
AlwaysReasons x input answer after = (r : Refusal) → answer ≡ Err r → r.cause ≡ GATE → reason_said r.reason ≡ x

-- a number, or another where it is 0
abbrev pub or_else : ℕ → ℕ → ℕ
or_else zero other = other
or_else (suc x) other = suc x

-- the reason of the last bad gate; 0 where none is bad
unfoldable pub last_reason : ℕ → ℕ → ℕ → ℕ → List ℕ → ℕ
last_reason version w zero p bs = 0
last_reason version w (suc n) p bs = or_else (last_reason version w n (suc p) (drop 4 bs)) (reason_said (reason_of (decoded_at version w p bs)))

-- nor is that of the last bad gate
abbrev pub ReasonsByLast : List ℕ → Result Header Refusal → List ℕ → Type 0
ReasonsByLast input answer after = (r : Refusal) → answer ≡ Err r → r.cause ≡ GATE → reason_said r.reason ≡ last_reason (version_of input) (wires_of input) (count_of input) 0 (drop 8 input)

-- 02 §8, "The wrapped listing is refused unless every wire ends on its own mask.": a listing that wraps whatever it is given
abbrev pub NeverLoose : {Input : Type 0} → Input → Result ℕ Refusal → List ℕ → Type 0
NeverLoose input answer after = (r : Refusal) → answer ≡ Err r → NotLoose r

-- 02 §12, "17 asks for no flips either": one that wraps where every wire ends on its own mask, flipped or not
abbrev pub AsksMasksAlone : Bool × List ℕ × List ℕ → Result ℕ Refusal → List ℕ → Type 0
AsksMasksAlone input answer after =
    ((i : ℕ) → i < wires_of input.1 → (held_at_end (wires_of input.1) (gates_of input.1) i).mask ≡ 2 ^ i) → NeverLoose input answer after

-- 02 §8, "wrapped listing only": one that refuses what does not come back, wrapped or plain
abbrev pub AlwaysAsks : Bool × List ℕ × List ℕ → Result ℕ Refusal → List ℕ → Type 0
AlwaysAsks input answer after = lowest_loose (wires_of input.1) (gates_of input.1) < wires_of input.1 → answer ≡ Err (refusal LOOSE)

-- 02 §12, "a differing state may now be 0": a comparison that never names it
abbrev pub NeverNamesZero : {Input : Type 0} → Input → Result Verdict Refusal → List ℕ → Type 0
NeverNamesZero input answer after = (s e f p : ℕ) → answer ≡ Ok (Different s e f p) → ¬ (s ≡ 0)
