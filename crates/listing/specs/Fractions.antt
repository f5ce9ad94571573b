-- 01, "Listing": "K/D being angle/32,768 in lowest terms".
use Rattle.std.specs.Prelude.{ℕ, ◌*◌, ◌/◌, ◌%◌, Bool, eqb}
use Rattle.numbers.specs.Search.{least}

-- "K/D"
pub record Fraction : Type 0 where
  pub above : ℕ
  pub below : ℕ

abbrev pub over : ℕ → ℕ → Fraction
over k d = record { above = k; below = d }

-- "angle/32,768" is a whole number over d: angle*d is a multiple of 32,768
abbrev pub whole : ℕ → ℕ → Bool
whole angle d = eqb (angle * d % 32768) 0

-- "in lowest terms": D is the least such number from 1 on; 32,768 is one
unfoldable pub denominator : ℕ → ℕ
denominator angle = least (whole angle) 32768 1

-- "K/D being angle/32,768": K is angle*D over 32,768
abbrev pub fraction_of : ℕ → Fraction
fraction_of angle = over (angle * denominator angle / 32768) (denominator angle)
