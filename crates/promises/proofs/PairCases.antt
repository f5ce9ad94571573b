-- 02 §9: one statement over its ten cases, by computing.
use mathlib.Core.Path.{refl}
use Rattle.refusal.specs.Checks.{outcome}
use Rattle.circuit.specs.Gates.{decoded, first_bad, gates_from, bytes_of}
use Rattle.circuit.specs.File.{file_of}
use Rattle.cancel.specs.Cancel.{paired, removed, cancelled, steps}
use Rattle.promises.specs.PairCases.{AllHoldOfPairs, pair_cases}

pub pair_cases_hold : AllHoldOfPairs pair_cases
unfolding pair_cases outcome decoded first_bad gates_from bytes_of file_of paired removed cancelled steps
pair_cases_hold =
    (record { says = refl; leaves = refl }, (record { says = refl; leaves = refl }, (record { says = refl; leaves = refl }, (record { says = refl; leaves = refl }, (record { says = refl; leaves = refl }, (record { says = refl; leaves = refl }, (record { says = refl; leaves = refl }, (record { says = refl; leaves = refl }, (record { says = refl; leaves = refl }, (record { says = refl; leaves = refl }, tt))))))))))
