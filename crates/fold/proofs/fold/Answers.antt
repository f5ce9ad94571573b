use Rattle.std.proofs.Common.{rules, ℕ, List, ◌+◌, ◌*◌, ◌≤◌, length, sym, ap, subst, ap₂, arith}
use Rattle.std.specs.Prelude.{Ok, Err}
use Rattle.refusal.proofs.Contracts.{handed_on}
use Rattle.refusal.proofs.Passed.{fail_passed}
use Rattle.circuit.specs.File.{file_checks}
use Rattle.running.specs.declared.Counted.{Counted}
use Rattle.fold.specs.Fold.{folded_file, Folds}
use Rattle.fold.proofs.Answers.{Room, room, file_fails, room_fails, answered, room_behind, file_written}
use Rattle.fold.proofs.fold.Goals as goal
use Rattle.fold.proofs.fold.Goals.{After-tally_of-tally}

-- what the tally says of the folded file
room_of : (c : After-tally_of-tally) → Room c.in_ok-circuit.circuit.file.now (c.count_gates-counted.result.cnots + c.count_gates-counted.result.inverters) c.tally_of-tally.result.kept c.tally_of-tally.result.score
room_of c =
    let i = c.in_ok-circuit.circuit in
    let counts = c.count_gates-counted.ensures in
    let t = c.totals_of in
    let n = c.tally_of-tally in
    room i.file.now i.bytes (fail_passed (file_checks 0 i.file.now) i.good) t.new.totals t.ensures _ n.result.kept n.result.score
    (ap₂ ◌+◌ (ap (λ (a : Counted). a.cnots) counts) (ap (λ (a : Counted). a.inverters) counts)) n.ensures.0 n.ensures.1

pub returns-in_err-circuit : goal.returns-in_err-circuit
returns-in_err-circuit c =
    let f = c.args.file.now in
    let out = c.args.out.now in
    subst (λ r. Folds f out r out) (sym (handed_on c.from_residual.ensures.1)) (file_fails f out _ c.in_err-circuit.ensures)

pub overflow_add-kept : goal.overflow_add-kept
overflow_add-kept c = omega (arith, (room_of (goal.at.overflow_add-kept c).After-tally_of-tally).few)

pub overflow_add-kept-2 : goal.overflow_add-kept-2
overflow_add-kept-2 c = omega (arith, (room_of (goal.at.overflow_add-kept-2 c).After-tally_of-tally).few)

pub overflow_mul-length : goal.overflow_mul-length
overflow_mul-length c = omega (arith, (room_of (goal.at.overflow_mul-length c).After-tally_of-tally).few)

pub overflow_add-length : goal.overflow_add-length
overflow_add-length c = omega (arith, (room_of (goal.at.overflow_add-length c).After-tally_of-tally).few)

pub returns-then-out-length : goal.returns-then-out-length
returns-then-out-length c =
    let i = c.in_ok-circuit in
    let out = c.args.out.now in
    let r = room_of (goal.at.returns-then-out-length c).After-tally_of-tally in
    subst (λ f. Folds f out (Err c.into.result) out) i.ensures
    (room_fails i.circuit.file.now out (fail_passed (file_checks 0 i.circuit.file.now) i.circuit.good) (omega (arith, r.whole)) c.into.result c.into.ensures)

pub overflow_cast-kept-2 : goal.overflow_cast-kept-2
overflow_cast-kept-2 c = omega (arith, (room_of (goal.at.overflow_cast-kept-2 c).After-tally_of-tally).few)

pub write_gates-requires-clause-fits : goal.write_gates-requires-clause-fits
write_gates-requires-clause-fits c =
    let r = room_of (goal.at.write_gates-requires-clause-fits c).After-tally_of-tally in
    rw c.put_header.auto.out (room_behind c.in_ok-circuit.circuit.file.now c.args.out.now (omega (arith, r.whole)))

pub returns : goal.returns
returns c =
    let i = c.in_ok-circuit in
    let f = i.circuit.file.now in
    let out = c.args.out.now in
    let n = c.count_gates-counted in
    let r = room_of (goal.at.returns c).After-tally_of-tally in
    let h : length (folded_file f) ≤ length out = omega (arith, r.whole) in
    subst (λ (o : List ℕ). Folds c.args.file.now out (Ok (record { length = 8 + 4 * (n.result.cnots + n.result.inverters + c.tally_of-tally.result.kept); before = n.result.score; after = c.tally_of-tally.result.score })) o) (search rules)
    (subst (λ g. Folds g out (Ok (record { length = 8 + 4 * (n.result.cnots + n.result.inverters + c.tally_of-tally.result.kept); before = n.result.score; after = c.tally_of-tally.result.score })) c.write_gates.new.writer.out.now) i.ensures
    (answered f out (fail_passed (file_checks 0 f) i.circuit.good) h _ r.whole (ap (λ (a : Counted). a.score) n.ensures) r.after c.write_gates.new.writer.out.now
    (file_written f out h c.version.result _ c.put_header.new.out c.write_gates.new.writer.out.now c.version.ensures r.kept (rw (sym c.wires.ensures) c.put_header.ensures) c.write_gates.ensures.wrote.written)))
