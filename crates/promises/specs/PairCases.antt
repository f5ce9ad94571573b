-- 02 §9: ten cases of cancelling, each of which lends a slice that is just as long as the result.
use Rattle.std.specs.Prelude.{ℕ, List, [], ◌∷◌, length, Ok}
use Rattle.circuit.specs.declared.Gate.TheVariants.{Cnot, Phase, Inverter}
use Rattle.circuit.specs.File.{file_of}
use Rattle.cancel.specs.Cancel.{Cancels}
use Rattle.promises.specs.Cases.{zeros, empty, one_cnot, on_one}

pub data PairCase : Type 0 where
  -- a file, the most removals allowed, what is left, how many pairs went
  cancels : List ℕ → ℕ → List ℕ → ℕ → PairCase

abbrev pub HoldsOfPairs : PairCase → Type 0
HoldsOfPairs (cancels f most g n) = Cancels f most (zeros g) (Ok (record { length = length g; pairs = n })) g

abbrev pub AllHoldOfPairs : List PairCase → Type 0
AllHoldOfPairs [] = Unit {0}
AllHoldOfPairs (c ∷ cs) = HoldsOfPairs c × AllHoldOfPairs cs

-- 02 §9, a CNOT beside its twin, and such a pair within another
abbrev pub twice : List ℕ
twice = file_of 1 2 (Cnot 0 1 ∷ Cnot 0 1 ∷ [])

abbrev pub nested : List ℕ
nested = file_of 1 2 (Cnot 0 1 ∷ Cnot 1 0 ∷ Cnot 1 0 ∷ Cnot 0 1 ∷ [])

abbrev pub phase_between : List ℕ
phase_between = file_of 1 2 (Cnot 0 1 ∷ Phase 1 5 ∷ Cnot 0 1 ∷ [])

abbrev pub exchanged : List ℕ
exchanged = file_of 1 2 (Cnot 0 1 ∷ Cnot 1 0 ∷ [])

unfoldable pub pair_cases : List PairCase
pair_cases =
    -- 02 §9, "Remove the pair of equal neighbouring CNOTs ..; repeat on what remains."
    cancels twice 2048 empty 1
    ∷ cancels nested 0 nested 0
    ∷ cancels nested 1 twice 1
    ∷ cancels nested 2 empty 2
    ∷ cancels nested 2048 empty 2
    ∷ cancels (file_of 1 2 (Cnot 0 1 ∷ Cnot 0 1 ∷ Cnot 0 1 ∷ [])) 2048 one_cnot 1
    -- ".. that begins at the lowest position"
    ∷ cancels (file_of 1 2 (Cnot 1 0 ∷ Cnot 1 0 ∷ Cnot 0 1 ∷ Cnot 0 1 ∷ [])) 1 twice 1
    -- a phase between twins keeps them, and twins with control and target exchanged stay
    ∷ cancels phase_between 2048 phase_between 0
    ∷ cancels exchanged 2048 exchanged 0
    -- "equal neighbouring CNOTs": inverters stay, and so does the version
    ∷ cancels (on_one (Inverter 0 ∷ Inverter 0 ∷ [])) 2048 (on_one (Inverter 0 ∷ Inverter 0 ∷ [])) 0
    ∷ []
