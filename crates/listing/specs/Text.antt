-- 01, "Listing": the bytes of fixed words and of numbers.
use Rattle.std.specs.Prelude.{ℕ, zero, suc, ◌+◌, ◌/◌, ◌%◌, cond, List, [], ◌∷◌, ◌++◌, ltb}
use Prim.Native.Char.{code}
use Prim.Native.String.{String, [] as nothing, ◌∷◌ as ◌then◌}

-- a fixed word's bytes
abbrev pub ascii : String → List ℕ
ascii nothing = []
ascii (c then s) = code c ∷ ascii s

abbrev pub digit : ℕ → List ℕ
digit d = (48 + d) ∷ []

-- "Decimal, no leading zeros": the digits of n / 10, if any, then the last; n itself is more than enough digits
unfoldable pub decimal_from : ℕ → ℕ → List ℕ
decimal_from zero n = digit n
decimal_from (suc k) n = cond (ltb n 10) (digit n) (decimal_from k (n / 10) ++ digit (n % 10))

abbrev pub decimal : ℕ → List ℕ
decimal n = decimal_from n n

-- a fixed word, then a number
abbrev pub numbered : List ℕ → ℕ → List ℕ
numbered word n = word ++ decimal n
