use Rattle.std.proofs.Common.{ℕ, ◌≤◌, length, sym, subst, ap, ◌∙◌, arith}
use lib.ListN.{length-replicate}
use lib.Seq.{length-take-le}
use Rattle.refusal.proofs.Contracts.{handed_on}
use Rattle.circuit.specs.Bytes.{put_at}
use Rattle.circuit.specs.Gates.{bytes_of}
use Rattle.circuit.proofs.Callers.{good_file, circuit_passes}
use Rattle.cancel.specs.Cancel.{cancelled_file, Cancels}
use Rattle.cancel.specs.Working.{most_gates, Remains}
use Rattle.cancel.proofs.Answers.{Room, room, file_fails, allow_fails, room_fails, answered, file_written}
use Rattle.cancel.proofs.Writing.{gates_front}
use Rattle.cancel.proofs.cancel.Goals as goal
use Rattle.cancel.proofs.cancel.Goals.{After-pass-kept}

-- what the pass leaves of the file, and what it says of the new one
left : (c : After-pass-kept) → Remains c.args.file.now c.args.most c.pass-kept.new.row c.pass-kept.result.gates c.pass-kept.result.pairs
left c = subst (λ f. Remains f c.args.most c.pass-kept.new.row c.pass-kept.result.gates c.pass-kept.result.pairs) c.in_ok-circuit.ensures c.pass-kept.ensures

room_of : (c : After-pass-kept) → Room c.args.file.now c.args.most c.pass-kept.result.gates
room_of c =
    let i = c.in_ok-circuit in
    room c.args.file.now c.args.most c.pass-kept.new.row c.pass-kept.result.gates c.pass-kept.result.pairs (left c) (λ j. (c.type_inv.file j).fits) (circuit_passes i.ensures i.circuit.good)

-- the row has room for what is kept
enough : (c : After-pass-kept) → c.pass-kept.result.gates ≤ length c.pass-kept.new.row
enough c = omega (arith, (room_of c).few, c.pass-kept.auto.row, length-replicate {A = ℕ} most_gates 0)

pub returns-in_err-circuit : goal.returns-in_err-circuit
returns-in_err-circuit c =
    let f = c.args.file.now in
    let out = c.args.out.now in
    subst (λ r. Cancels f c.args.most out r out) (sym (handed_on c.from_residual.ensures.1)) (file_fails f c.args.most out _ c.in_err-circuit.ensures)

pub returns-then-most-gt-MOST_ALLOWED : goal.returns-then-most-gt-MOST_ALLOWED
returns-then-most-gt-MOST_ALLOWED c =
    let i = c.in_ok-circuit in
    allow_fails c.args.file.now c.args.most c.args.out.now (circuit_passes i.ensures i.circuit.good) (omega arith) c.into.result c.into.ensures

pub overflow_mul-length : goal.overflow_mul-length
overflow_mul-length c = omega (arith, (room_of (goal.at.overflow_mul-length c).After-pass-kept).few)

pub overflow_add-length : goal.overflow_add-length
overflow_add-length c = omega (arith, (room_of (goal.at.overflow_add-length c).After-pass-kept).few)

pub returns-then-out-length : goal.returns-then-out-length
returns-then-out-length c =
    let i = c.in_ok-circuit in
    let r = room_of (goal.at.returns-then-out-length c).After-pass-kept in
    room_fails c.args.file.now c.args.most c.args.out.now (circuit_passes i.ensures i.circuit.good) (omega arith) (omega (arith, r.whole)) _ c.into-then-out-length.ensures

pub overflow_cast-kept : goal.overflow_cast-kept
overflow_cast-kept c = omega (arith, (room_of (goal.at.overflow_cast-kept c).After-pass-kept).few)

pub slice_bounds-row-end : goal.slice_bounds-row-end
slice_bounds-row-end c = enough (goal.at.slice_bounds-row-end c).After-pass-kept

pub slice_bounds-write_gates-end : goal.slice_bounds-write_gates-end
slice_bounds-write_gates-end c = sym (length-take-le _ _ (enough (goal.at.slice_bounds-write_gates-end c).After-pass-kept))

pub returns : goal.returns
returns c =
    let i = c.in_ok-circuit in
    let f = c.args.file.now in
    let most = c.args.most in
    let out = c.args.out.now in
    let kept = c.pass-kept.result in
    let r = room_of (goal.at.returns c).After-pass-kept in
    let h : length (cancelled_file f most) ≤ length out = omega (arith, r.whole) in
    let l = left (goal.at.returns c).After-pass-kept in
    answered f most out (circuit_passes i.ensures i.circuit.good) (omega arith) h _ r.whole l.number c.write_gates.new.out
    (file_written f most c.pass-kept.new.row kept.gates kept.pairs l out h c.put_header_of.new.out c.write_gates.new.out (good_file 0 f (circuit_passes i.ensures i.circuit.good)).long r c.put_header_of.ensures
    (c.write_gates.ensures ∙ ap (λ gs. put_at (bytes_of gs) 8 c.put_header_of.new.out) (gates_front f c.pass-kept.new.row kept.gates (enough (goal.at.returns c).After-pass-kept))))
