-- 01, "Cases on each side": one statement over the list of cases, by computing.
use mathlib.Core.Path.{refl}
use mathlib.Core.List.{[], ◌∷◌}
use lib.Count.{ones, ones_in, count_trailing_zeros}
use Rattle.refusal.specs.Checks.{outcome}
use Rattle.numbers.specs.Bits.{dot, subset}
use Rattle.spectrum.specs.Spectrum.{spectrum_of}
use Rattle.circuit.specs.declared.Gate.TheVariants.{Inverter}
use Rattle.circuit.specs.Gates.{decoded, first_bad, gates_from, bytes_of}
use Rattle.circuit.specs.File.{file_of}
use Rattle.running.specs.Run.{end_from, total_from, cnots, phases, score_by, inverters}
use Rattle.running.specs.Masks.{held_from, sum_met}
use Rattle.build.specs.Gray.{turned, word}
use Rattle.build.specs.Construction.{construction}
use Rattle.fold.specs.Fold.{folded_from}
use Rattle.coefficients.specs.Coefficients.{coefficient}
use Rattle.verdict.specs.declared.Verdict.TheVariants.{Different}
use Rattle.verdict.specs.Verdicts.{verdict, differences}
use Rattle.numbers.specs.Search.{least}
use Rattle.listing.specs.Text.{decimal_from}
use Rattle.listing.specs.Fractions.{denominator}
use Rattle.listing.specs.Listing.{head_lines, wrap_line, cnot_line, phase_line, inverter_line, gate_lines, listing_of, refused_line}
use Rattle.promises.specs.Cases.{built, compared, is_loose, Holds, AllHold, built_here, empty, one_cnot, on_one, empty_on_one, cases}

pub build_here : Holds (built 1 (0x02 ∷ []) built_here)
unfolding outcome dot ones ones_in count_trailing_zeros spectrum_of bytes_of file_of turned word construction
build_here = record { says = refl; leaves = refl }

pub cnot_differs : Holds (compared one_cnot empty (Different 1 3 1 0) (0 ∷ 0 ∷ 0 ∷ 0 ∷ []))
unfolding outcome subset ones ones_in decoded first_bad gates_from bytes_of file_of end_from total_from held_from sum_met coefficient differences least verdict
cnot_differs = record { says = refl; leaves = refl }

pub turned_differs : Holds (compared (on_one (Inverter 0 ∷ [])) empty_on_one (Different 0 1 0 0) (0 ∷ 0 ∷ []))
unfolding outcome subset ones ones_in decoded first_bad gates_from bytes_of file_of end_from total_from held_from sum_met coefficient differences least verdict
turned_differs = record { says = refl; leaves = refl }

pub cnot_loose : Holds (is_loose one_cnot)
unfolding outcome decoded first_bad gates_from bytes_of file_of held_from least
cnot_loose = record { says = refl; leaves = refl }

pub flip_loose : Holds (is_loose (on_one (Inverter 0 ∷ [])))
unfolding outcome decoded first_bad gates_from bytes_of file_of held_from least
flip_loose = record { says = refl; leaves = refl }

pub cases_hold : AllHold cases
unfolding cases outcome dot subset ones ones_in count_trailing_zeros spectrum_of decoded first_bad gates_from bytes_of file_of end_from total_from cnots phases score_by inverters held_from sum_met turned word construction folded_from coefficient differences least verdict decimal_from denominator head_lines wrap_line cnot_line phase_line inverter_line gate_lines listing_of refused_line
cases_hold = (record { says = refl; leaves = refl }, (record { says = refl; leaves = refl }, (record { says = refl; leaves = refl }, (record { says = refl; leaves = refl }, (build_here, (refl, (record { says = refl; leaves = refl }, (refl, (record { says = refl; leaves = refl }, (refl, (record { says = refl; leaves = refl }, (record { says = refl; leaves = refl }, (cnot_differs, (record { says = refl; leaves = refl }, (record { says = refl; leaves = refl }, (record { says = refl; leaves = refl }, (record { says = refl; leaves = refl }, (record { says = refl; leaves = refl }, (record { says = refl; leaves = refl }, (record { says = refl; leaves = refl }, (record { says = refl; leaves = refl }, (record { says = refl; leaves = refl }, (record { says = refl; leaves = refl }, (record { says = refl; leaves = refl }, (record { says = refl; leaves = refl }, (turned_differs, (record { says = refl; leaves = refl }, (record { says = refl; leaves = refl }, (refl, (cnot_loose, (record { says = refl; leaves = refl }, (record { says = refl; leaves = refl }, (flip_loose, (record { says = refl; leaves = refl }, tt))))))))))))))))))))))))))))))))))
