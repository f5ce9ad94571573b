-- 02 §8, "every wire ends on its own mask"; 02 §12, "17 asks for no flips either".
use Rattle.std.specs.Prelude.{◌≡◌, ℕ, ◌^◌, ◌<◌, Bool, List, ◌==◌}
use Rattle.numbers.specs.Search.{least}
use Rattle.circuit.specs.declared.Gate.{Gate}
use Rattle.running.specs.Run.{end_from}
use Rattle.running.specs.Masks.{Held, held, held_at, own_held, held_from}
use Rattle.running.specs.Groups.{same_held}

-- what wire i holds at the end of a circuit
abbrev pub held_at_end : ℕ → List Gate → ℕ → Held
held_at_end w gs i = held_at (held_from gs (own_held w)) i

-- "left mixed": that is not its own mask without a flip
abbrev pub loose : ℕ → List Gate → ℕ → Bool
loose w gs i = same_held (held_at_end w gs i) (held (2 ^ i) 0) == 0

-- the lowest loose wire of a circuit, w where there is none
abbrev pub lowest_loose : ℕ → List Gate → ℕ
lowest_loose w gs = least (loose w gs) w 0

-- as a fact: "every wire ends on its own mask", and no flip is left
abbrev pub ComesBack : ℕ → List Gate → Type 0
ComesBack w gs = (i : ℕ) → i < w → held_at_end w gs i ≡ held (2 ^ i) 0

-- every starting state ends as it starts
abbrev pub EndsAsItStarts : ℕ → List Gate → Type 0
EndsAsItStarts w gs = (x : ℕ) → x < 2 ^ w → end_from gs x ≡ x
