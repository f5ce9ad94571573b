use Rattle.std.proofs.Common.{◌≡◌, ℕ, ◌^◌, ◌≤◌, List, ℤ, length, sym, arith, length-take-le}
use Rattle.std.specs.Prelude.{Result, Ok}
use Rattle.refusal.specs.declared.Refusal.{Refusal}
use Rattle.refusal.specs.Checks.{room_check}
use Rattle.refusal.proofs.Outcomes.{parts_pass}
use Rattle.refusal.proofs.Passed.{passed_fail}
use Rattle.table.specs.Table.{table_checks}
use Rattle.spectrum.specs.Spectrum.{Transforms}
use Rattle.spectrum.proofs.Callers.{spectrum_answers}
use Rattle.command.proofs.tables.spectrum.Goals as goal

-- what is answered has room
in_room : (n : ℕ) (t : List ℕ) (before : List ℤ) (a : Result ℕ Refusal) (after : List ℤ) → Transforms n t before a after → (k : ℕ) → a ≡ Ok k → k ≤ length before
in_room n t before a after m k e =
    let answers = spectrum_answers n t before a after m k e in
    let room = passed_fail (room_check (length before) (2 ^ n)) (parts_pass (table_checks n t) (room_check (length before) (2 ^ n)) answers.0).1 in
    omega (arith, room.0, answers.1)

pub slice_bounds-out-end : goal.slice_bounds-out-end
slice_bounds-out-end g c =
    let h = in_room c.args.n c.args.table.now _ c.spectrum.result c.spectrum.new.out c.spectrum.ensures c.in-Ok.entries c.in-Ok.is in
    omega arith

pub slice_bounds-signed-end : goal.slice_bounds-signed-end
slice_bounds-signed-end g c =
    let h = in_room c.args.n c.args.table.now _ c.spectrum.result c.spectrum.new.out c.spectrum.ensures c.in-Ok.entries c.in-Ok.is in
    sym (length-take-le c.in-Ok.entries c.spectrum.new.out (omega arith))
