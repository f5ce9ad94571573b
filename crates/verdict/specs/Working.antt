-- Two summaries judged by their numbers alone; the laws show that this is the verdict on their sides.
use Rattle.std.specs.Prelude.{ℕ, suc, ◌+◌, ◌*◌, ◌%◌, ◌^◌, ◌≤◌, min, cond, List, length, bit_xor, count_ones, nat_lt}
use Rattle.numbers.specs.Bits.{bit}
use Rattle.numbers.specs.Sums.{sum_of}
use Rattle.numbers.specs.Search.{least}
use Rattle.numbers.specs.Working.{unlike}
use Rattle.numbers.specs.Turn.{difference}
use Rattle.refusal.specs.Checks.{outcome}
use Rattle.refusal.specs.Contract.{Meets}
use Rattle.running.specs.Masks.{most_wires}
use Rattle.coefficients.specs.Coefficients.{listed_start}
use Rattle.coefficients.specs.Working.{entry}
use Rattle.verdict.specs.declared.Verdict.{Verdict}
use Rattle.verdict.specs.declared.Verdict.TheVariants.{Same, Different}
use Rattle.std.specs.Prelude.{Result}
use Rattle.refusal.specs.declared.Refusal.{Refusal}
use Rattle.verdict.specs.Verdicts.{differences}
use Rattle.verdict.specs.Judging.{verdict_values, compared_says, work_checks}

-- a side's coefficients, set by set, and the ends of its listed starts: start 0 first, then wire by wire
pub record Summary : Type 0 where
  pub coefficients : ℕ → ℕ
  pub ends : ℕ → ℕ

-- the summary that two slices hold
abbrev pub summary : List ℕ → List ℕ → Summary
summary row ends = record { coefficients = entry row; ends = entry ends }

-- they are long enough for one on w wires
pub record HoldsSummary (w : ℕ) (row ends : List ℕ) : Type 0 where
  pub few : w ≤ most_wires
  pub sets : 2 ^ w ≤ length row
  pub starts : suc w ≤ length ends

-- the lowest place where the coefficients or the listed ends (each at its start) differ; 2^w where none do
abbrev pub lowest_place : ℕ → Summary → Summary → ℕ
lowest_place w a b = min (least (unlike a.coefficients b.coefficients) (2 ^ w) 0) (listed_start (least (unlike a.ends b.ends) (suc w) 0))

-- the exclusive or of the ends over a state's bits, with start 0's end where they are evenly many
unfoldable pub end_of : ℕ → (ℕ → ℕ) → ℕ → ℕ
end_of w ends state = sum_of ((count_ones state + 1) % 2 * ends 0) bit_xor w (λ i. bit state i * ends (suc i))

-- Different with both ends there and the coefficients' difference, for a place below 2^w
abbrev pub judged_at : ℕ → Summary → Summary → ℕ → Verdict
judged_at w a b p = cond (nat_lt p (2 ^ w)) (Different p (end_of w a.ends p) (end_of w b.ends p) (difference (a.coefficients p) (b.coefficients p))) Same

-- the verdict on two summaries
unfoldable pub judged : ℕ → Summary → Summary → Verdict
judged w a b = judged_at w a b (lowest_place w a b)

-- the contract of judging two summaries, of w wires and of v
abbrev pub JudgesSummaries : ℕ → Summary → ℕ → Summary → List ℕ → Result Verdict Refusal → List ℕ → Type 0
JudgesSummaries w a v b work answer after =
    Meets compared_says (outcome (work_checks w v (length work))) (verdict_values (judged w a b)) (differences w a.coefficients b.coefficients) work answer after
