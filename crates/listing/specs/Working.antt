-- What no contract of the operation rests on: the value of a text of digits, and the lengths of lines as they are measured.
use Rattle.std.specs.Prelude.{ℕ, ◌+◌, ◌-◌, ◌*◌, List, [], ◌∷◌, length}
use Rattle.listing.specs.Text.{decimal}
use Rattle.listing.specs.Words.{words}

-- the number that digits say, after those that say v
unfoldable pub value_after : ℕ → List ℕ → ℕ
value_after v [] = v
value_after v (d ∷ ds) = value_after (v * 10 + (d - 48)) ds

-- the lengths of the three header lines and of a gate's line: of their words and of their numbers
abbrev pub head_length : ℕ → ℕ
head_length w = length words.version + length words.include + length words.register + length (decimal w) + length words.closing

abbrev pub cnot_length : ℕ → ℕ → ℕ
cnot_length c t = length words.cnot + length (decimal c) + length words.target + length (decimal t) + length words.closing

abbrev pub phase_length : ℕ → ℕ → ℕ → ℕ
phase_length i k d = length words.phase + length (decimal k) + length words.over + length (decimal d) + length words.wire + length (decimal i) + length words.closing

abbrev pub inverter_length : ℕ → ℕ
inverter_length i = length words.inverter + length (decimal i) + length words.closing

-- that of a phase gate whose K and D have five digits and whose wire has one
abbrev pub longest_line : ℕ
longest_line = length words.phase + length words.over + length words.wire + length words.closing + 11
