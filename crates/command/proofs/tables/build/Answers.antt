use Rattle.std.proofs.Common.{◌≡◌, ℕ, ◌+◌, ◌^◌, ◌≤◌, List, length, arith, sym}
use lib.Seq.{length-take-le}
use Rattle.refusal.specs.Checks.{room_check}
use Rattle.refusal.proofs.Outcomes.{parts_pass}
use Rattle.refusal.proofs.Passed.{passed_fail}
use Rattle.table.specs.Table.{table_checks}
use Rattle.std.specs.Prelude.{Result, Ok}
use Rattle.refusal.specs.declared.Refusal.{Refusal}
use Rattle.build.specs.Construction.{Builds}
use Rattle.build.proofs.Callers.{build_answers}
use Rattle.command.proofs.tables.build.Goals as goal

-- a file is no longer than the room that it was put into
in_room : (n : ℕ) (t before : List ℕ) (a : Result ℕ Refusal) (after : List ℕ) → Builds n t before a after → (k : ℕ) → a ≡ Ok k → k ≤ length before
in_room n t before a after m k e =
    let answers = build_answers n t before a after m k e in
    let room = passed_fail (room_check (length before) (2 ^ (n + 4))) (parts_pass (table_checks n t) (room_check (length before) (2 ^ (n + 4))) answers.0).1 in
    omega (arith, room.0, answers.1)

pub slice_bounds-out-end : goal.slice_bounds-out-end
slice_bounds-out-end g c =
    let h = in_room c.args.n c.args.table.now _ c.build.result c.build.new.out c.build.ensures c.in-Ok.length c.in-Ok.is in
    omega arith

pub slice_bounds-store-end : goal.slice_bounds-store-end
slice_bounds-store-end g c =
    let h = in_room c.args.n c.args.table.now _ c.build.result c.build.new.out c.build.ensures c.in-Ok.length c.in-Ok.is in
    sym (length-take-le c.in-Ok.length c.build.new.out (omega arith))
