-- The commands by name.
use Rattle.std.specs.Prelude.{ℕ, ◌≡◌, ◌⊎◌, List, [], Option, Some, None}
use Rattle.listing.specs.Text.{ascii}
use Rattle.command.specs.declared.commands.Command.{Command}
use Rattle.command.specs.declared.commands.Command.TheVariants.{Spectrum, Build, Judge, Compare, List as ListCommand, Read, Run, Count, Fold, Help}

abbrev pub name_of : Command → List ℕ
name_of Spectrum = ascii "spectrum"
name_of Build = ascii "build"
name_of Judge = ascii "judge"
name_of Compare = ascii "compare"
name_of ListCommand = ascii "list"
name_of Read = ascii "read"
name_of Run = ascii "run"
name_of Count = ascii "count"
name_of Fold = ascii "fold"
name_of Help = ascii "help"

-- the command that a word names: no word is help
pub record Named (word : List ℕ) (r : Option Command) : Type 0 where
  pub named : (c : Command) → r ≡ Some c → (word ≡ name_of c) ⊎ ((word ≡ []) × (c ≡ Help))
  pub unnamed : r ≡ None → (c : Command) → word ≡ name_of c → ⊥
  pub empty : word ≡ [] → r ≡ Some Help
