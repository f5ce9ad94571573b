-- Slices of bytes: what each of them holds, and bytes written at a place.
use Rattle.std.specs.Prelude.{ℕ, ◌+◌, ◌<◌, cond, List, ◌++◌, leb, length, get_or, take, drop}

-- every entry is a byte, which holds of every slice of bytes
abbrev pub Bytes : List ℕ → Type 0
Bytes bs = (i : ℕ) → get_or bs i 0 < 256

-- entries written at a place of a slice: all of them where they fit ("Success writes only the result"), else none
abbrev pub put_at : List ℕ → ℕ → List ℕ → List ℕ
put_at bs at out = cond (leb (at + length bs) (length out)) (take at out ++ bs ++ drop (at + length bs) out) out
