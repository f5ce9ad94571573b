-- The words of a line, which a byte 0 separates.
use Rattle.std.specs.Prelude.{ℕ, zero, suc, ◌+◌, ◌-◌, cond, List, [], ◌∷◌, eqb, take}

-- 1 for a byte 0
abbrev pub separator : ℕ → ℕ
separator b = cond (eqb b 0) 1 0

-- how many words follow the first
unfoldable pub separators : List ℕ → ℕ
separators [] = 0
separators (b ∷ bs) = separator b + separators bs

-- the line from its word k on, counted from 0; empty where there is none
unfoldable pub from_word : List ℕ → ℕ → List ℕ
from_word [] k = []
from_word (b ∷ bs) zero = b ∷ bs
from_word (b ∷ bs) (suc k) = from_word bs (suc k - separator b)

-- where the first word ends: at the first byte 0, or at the line's end
unfoldable pub word_end : List ℕ → ℕ
word_end [] = 0
word_end (b ∷ bs) = cond (eqb b 0) 0 (suc (word_end bs))

-- the word k
abbrev pub word_at : List ℕ → ℕ → List ℕ
word_at s k = take (word_end (from_word s k)) (from_word s k)
