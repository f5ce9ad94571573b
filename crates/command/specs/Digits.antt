-- Numbers and bytes from the digits of a word, and which words are bad.
use Rattle.std.specs.Prelude.{ℕ, ◌+◌, ◌-◌, ◌*◌, ◌/◌, ◌%◌, min, Bool, true, false, cond, List, [], ◌∷◌, ltb, leb, eqb, length, get_or, Option, Some, None}
use Rattle.numbers.specs.Sums.{list}

-- the value of 0 to 9, A to F and a to f in ASCII; 16 for any other byte
unfoldable pub digit_of : ℕ → ℕ
digit_of b =
    cond (ltb b 48) 16
    (cond (ltb b 58) (b - 48)
    (cond (ltb b 65) 16
    (cond (ltb b 71) (b - 55)
    (cond (ltb b 97) 16
    (cond (ltb b 103) (b - 87) 16)))))

-- each byte is a digit of the base
unfoldable pub all_digits : ℕ → List ℕ → Bool
all_digits base [] = true
all_digits base (b ∷ bs) = cond (leb base (digit_of b)) false (all_digits base bs)

-- the number v with decimal digits behind it
unfoldable pub value_from : ℕ → List ℕ → ℕ
value_from v [] = v
value_from v (b ∷ bs) = value_from (10 * v + digit_of b) bs

-- a number is one or more decimal digits; one that is too large for its type counts as the type's largest
abbrev pub number_of : List ℕ → Option ℕ
number_of s = cond (ltb 0 (length s)) (cond (all_digits 10 s) (Some (min 65535 (value_from 0 s))) None) None

-- hexadecimal digits of either case, two a byte: an odd number of them is bad, and so is any other byte
abbrev pub are_bytes : List ℕ → Bool
are_bytes s = cond (eqb (length s % 2) 0) (all_digits 16 s) false

-- byte i of them
abbrev pub byte_at : List ℕ → ℕ → ℕ
byte_at s i = digit_of (get_or s (2 * i) 0) % 16 * 16 + digit_of (get_or s (2 * i + 1) 0) % 16

abbrev pub bytes_of : List ℕ → List ℕ
bytes_of s = list (length s / 2) (byte_at s)
