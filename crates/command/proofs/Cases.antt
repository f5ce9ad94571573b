-- Words, numbers and tables of a few lines, as the definitions have them.
use Prim.Native.Nat.{ℕ}
use mathlib.Core.Path.{◌≡◌, refl}
use mathlib.Core.Bool.{true, false}
use mathlib.Core.List.{List, [], ◌∷◌, ◌++◌}
use Rattle.std.specs.Prelude.{Some, None}
use Rattle.listing.specs.Text.{ascii}
use Rattle.command.specs.Words.{separators, from_word, word_end, word_at}
use Rattle.command.specs.Digits.{digit_of, all_digits, value_from, number_of, are_bytes, bytes_of}

-- run, an empty word, and 5
abbrev line : List ℕ
line = ascii "run" ++ (0 ∷ 0 ∷ ascii "5")

pub words_hold : (word_at line 0 ≡ ascii "run") × (word_at line 1 ≡ []) × (word_at line 2 ≡ ascii "5") × (word_at line 3 ≡ []) × (separators line ≡ 2)
unfolding separators from_word word_end
words_hold = (refl, refl, refl, refl, refl)

pub numbers_hold : (number_of (ascii "007") ≡ Some 7) × (number_of (ascii "65536") ≡ Some 65535) × (number_of (ascii "99999999999999999999") ≡ Some 65535)
    × (number_of (ascii "") ≡ None) × (number_of (ascii "-1") ≡ None) × (number_of (ascii "1a") ≡ None)
unfolding digit_of all_digits value_from
numbers_hold = (refl, refl, refl, refl, refl, refl)

pub tables_hold : (bytes_of (ascii "08e8Fa") ≡ 0x08 ∷ 0xe8 ∷ 0xfa ∷ []) × (are_bytes (ascii "08e8Fa") ≡ true) × (are_bytes (ascii "") ≡ true) × (are_bytes (ascii "080") ≡ false) × (are_bytes (ascii "0g") ≡ false)
unfolding digit_of all_digits
tables_hold = (refl, refl, refl, refl, refl)
