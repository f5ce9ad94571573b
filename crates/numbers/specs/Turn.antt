-- 01, "Numbers and conventions": "Sums of angles wrap at 65,536, a full turn."
use Rattle.std.specs.Prelude.{ℕ, zero, suc, ◌+◌, ◌-◌, ◌%◌, ℤ, pos, negsuc, neg_ℤ}

-- "the first .. minus the second, wrapped"
abbrev pub difference : ℕ → ℕ → ℕ
difference a b = (a + 65536 - b) % 65536

-- a whole number of units, of either sign, as an angle
abbrev pub wrap : ℤ → ℕ
wrap (pos m) = m % 65536
wrap (negsuc m) = 65535 - m % 65536

-- z, minus when m is odd
abbrev pub flip : ℕ → ℤ → ℤ
flip zero z = z
flip (suc m) z = neg_ℤ (flip m z)
