-- 01, "Coefficients and verdict": two sides, and the lowest start at which they part.
use Rattle.std.specs.Prelude.{◌≡◌, ℕ, ◌*◌, ◌%◌, ◌^◌, ◌<◌, Bool, cond, not, ◌||◌, List, ◌==◌, nat_lt}
use Rattle.numbers.specs.Search.{least}
use Rattle.numbers.specs.Bits.{bit}
use Rattle.numbers.specs.Sums.{list}
use Rattle.circuit.specs.declared.Gate.{Gate}
use Rattle.running.specs.Run.{end_from, phase_from}
use Rattle.verdict.specs.declared.Verdict.{Verdict}
use Rattle.verdict.specs.declared.Verdict.TheVariants.{Same, Different}
use Rattle.numbers.specs.Turn.{difference}

-- what is compared: where a start ends, and with which phase
pub record Side : Type 0 where
  pub end : ℕ → ℕ
  pub phase : ℕ → ℕ

-- "A run answers the end state and the total."
abbrev pub circuit : List Gate → Side
circuit gs = record { end = end_from gs; phase = phase_from gs }

-- "ends as it starts, phase 32,768 times f(x) times y": x on the wires below n, y on wire n
abbrev pub ideal : ℕ → (ℕ → ℕ) → Side
ideal n f = record { end = λ s. s; phase = λ s. 32768 * (f (s % 2 ^ n) * bit s n) }

-- "every starting state ends in the same state under both, with the same phase": a start at which that fails
abbrev pub part : Side → Side → ℕ → Bool
part a b x = not (a.end x == b.end x) || not (a.phase x == b.phase x)

-- "Different with the .. state, both end states there, and the first phase minus the second, wrapped", for a state below 2^w
abbrev pub verdict_at : ℕ → Side → Side → ℕ → Verdict
verdict_at w a b x = cond (nat_lt x (2 ^ w)) (Different x (a.end x) (b.end x) (difference (a.phase x) (b.phase x))) Same

-- "Same, or Different with the lowest differing state"
unfoldable pub verdict : ℕ → Side → Side → Verdict
verdict w a b = verdict_at w a b (least (part a b) (2 ^ w) 0)

-- "entries 0 to 2^w - 1 of the work slice .. hold first coefficient minus second"
unfoldable pub differences : ℕ → (ℕ → ℕ) → (ℕ → ℕ) → List ℕ
differences w c d = list (2 ^ w) (λ s. difference (c s) (d s))

-- the tender's third demand: a start "ends in the same state under both, with the same phase"
pub record Agree (a b : Side) (x : ℕ) : Type 0 where
  pub ends : a.end x ≡ b.end x
  pub phases : a.phase x ≡ b.phase x

-- "it names the lowest starting state where they part, and how"
pub record Named (a b : Side) (w state first second phase : ℕ) : Type 0 where
  pub below : state < 2 ^ w
  pub parts : Agree a b state → ⊥
  pub before : (x : ℕ) → x < state → Agree a b x
  pub first_end : first ≡ a.end state
  pub second_end : second ≡ b.end state
  pub how : phase ≡ difference (a.phase state) (b.phase state)
