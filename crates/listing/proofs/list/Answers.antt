use Rattle.std.proofs.Common.{rules}
use Rattle.std.specs.Prelude.{Ok}
use Prim.Native.Nat.{ℕ, ◌+◌, ◌≤◌}
use mathlib.Core.Path.{◌≡◌, sym, ap, subst, ◌∙◌}
use mathlib.Core.Bool.{Bool, true, false, cond}
use mathlib.Core.List.{List, ◌++◌}
use lib.Dec.{leb}
use lib.ListN.{length}
use borrow.Author.Tests.{leb-true, leb-false}
use Rattle.refusal.specs.Names.{refusal, LOOSE}
use Rattle.refusal.specs.Checks.{Check, passed, refused, outcome}
use Rattle.refusal.proofs.Contracts.{handed_on}
use Rattle.refusal.proofs.Outcomes.{then_refused, then_passed}
use Rattle.circuit.specs.File.{wires_of, gates_of, file_checks}
use Rattle.circuit.specs.Working.{Wrote}
use Rattle.circuit.proofs.Callers.{circuit_passes}
use Rattle.circuit.proofs.Parts.{Left, room, less_left, all_written}
use Rattle.listing.specs.Listing.{head_lines, wrap_line, gate_lines, listing_of_file, loose_check, Lists}
use Rattle.listing.proofs.Pieces.{listing_left}
use Rattle.listing.proofs.Answers.{earlier_fails, room_fails, answered}
use Rattle.listing.proofs.list.Goals as goal
use Rattle.listing.proofs.list.Goals.{After-is_loose, After-wires-wires}

-- rows 4 to 10 and 17
abbrev rows : Bool → List ℕ → List Check
rows b f = file_checks 0 f ++ loose_check b (wires_of f) (gates_of f)

abbrev text : Bool → List ℕ → List ℕ
text = listing_of_file

abbrev lines : List ℕ → List ℕ
lines f = gate_lines (gates_of f)

-- the checks come to what was answered for 17
comes_to : (c : After-is_loose) (l : Bool) → c.is_loose.result ≡ l → outcome (rows c.args.wrapped c.args.file.now) ≡ cond l (refused (refusal LOOSE)) passed
comes_to c l e =
    let f = c.args.file.now in
    let b = c.args.wrapped in
    let i = c.in_ok-circuit in
    then_passed (file_checks 0 f) (loose_check b (wires_of f) (gates_of f)) (circuit_passes i.ensures i.circuit.good)
    ∙ subst (λ h. outcome (loose_check b (wires_of h) (gates_of h)) ≡ cond c.is_loose.result (refused (refusal LOOSE)) passed) i.ensures c.is_loose.ensures
    ∙ ap (λ (x : Bool). cond x (refused (refusal LOOSE)) passed) e

-- what is left of the text, piece by piece
module _ (c : After-wires-wires) where
  abbrev written : List ℕ
  written = text c.args.wrapped c.args.file.now

  abbrev frame : List ℕ
  frame = wrap_line c.args.wrapped c.wires-wires.result

  enough : length written ≤ length c.args.out.now
  enough = leb-true (length written) (length c.args.out.now) (sym (c.fits.ensures ∙ ap (λ h. leb (length (text c.args.wrapped h)) (length c.args.out.now)) c.in_ok-circuit.ensures) ∙ c.if-not-fits.false)

  text_left : Left written 0 c.args.out.now (head_lines c.wires-wires.result ++ (frame ++ (lines c.args.file.now ++ frame))) 0 c.args.out.now
  text_left = listing_left c.args.wrapped c.args.file.now c.wires-wires.result c.args.out.now (c.wires-wires.ensures ∙ ap wires_of c.in_ok-circuit.ensures) enough

  module _ {at : ℕ} {out : List ℕ} (wrote_head : Wrote (head_lines c.wires-wires.result) 0 c.args.out.now at out) where
    behind_head : Left written 0 c.args.out.now (frame ++ (lines c.args.file.now ++ frame)) at out
    behind_head = less_left (head_lines c.wires-wires.result) (frame ++ (lines c.args.file.now ++ frame)) text_left wrote_head

    module _ {at' : ℕ} {out' : List ℕ} (wrote_wrap : Wrote frame at out at' out') where
      behind_wrap : Left written 0 c.args.out.now (lines c.args.file.now ++ frame) at' out'
      behind_wrap = less_left frame (lines c.args.file.now ++ frame) behind_head wrote_wrap

      behind_gates : {at'' : ℕ} {out'' : List ℕ} → Wrote (lines c.in_ok-circuit.circuit.file.now) at' out' at'' out'' → Left written 0 c.args.out.now frame at'' out''
      behind_gates {at''} {out''} w = less_left (lines c.args.file.now) frame behind_wrap (subst (λ f. Wrote (lines f) at' out' at'' out'') c.in_ok-circuit.ensures w)

pub returns-then-is_loose : goal.returns-then-is_loose
returns-then-is_loose c =
    let a = c.args in
    earlier_fails _ _ a.out.now c.into.result
    (comes_to (goal.at.returns-then-is_loose c).After-is_loose true c.if-is_loose.true ∙ ap refused (sym c.into.ensures))

pub returns-then-not-fits : goal.returns-then-not-fits
returns-then-not-fits c =
    let f = c.args.file.now in
    let b = c.args.wrapped in
    let out = c.args.out.now in
    room_fails _ _ out (comes_to (goal.at.returns-then-not-fits c).After-is_loose false c.if-is_loose.false)
    (leb-false (length (text b f)) (length out) (sym (c.fits.ensures ∙ ap (λ h. leb (length (text b h)) (length out)) c.in_ok-circuit.ensures) ∙ c.if-not-fits.true)) c.into-then-not-fits.result c.into-then-not-fits.ensures

pub put_head-requires : goal.put_head-requires
put_head-requires c = room (head_lines c.wires-wires.result) _ (text_left (goal.at.put_head-requires c).After-wires-wires)

pub put_wrap-requires-clause-wires_in_bounds : goal.put_wrap-requires-clause-wires_in_bounds
put_wrap-requires-clause-wires_in_bounds c =
    room (wrap_line c.args.wrapped c.wires-wires.result) _ (behind_head (goal.at.put_wrap-requires-clause-wires_in_bounds c).After-wires-wires c.put_head.ensures.wrote)

pub put_gates-requires : goal.put_gates-requires
put_gates-requires c =
    subst (λ f. c.put_wrap.new.writer.at + length (lines f) ≤ length c.put_wrap.new.writer.out.now) (sym c.in_ok-circuit.ensures)
    (room (lines c.args.file.now) _ (behind_wrap (goal.at.put_gates-requires c).After-wires-wires c.put_head.ensures.wrote c.put_wrap.ensures.wrote))

pub put_wrap-requires-2-clause-wires_in_bounds : goal.put_wrap-requires-2-clause-wires_in_bounds
put_wrap-requires-2-clause-wires_in_bounds c =
    (behind_gates (goal.at.put_wrap-requires-2-clause-wires_in_bounds c).After-wires-wires c.put_head.ensures.wrote c.put_wrap.ensures.wrote c.put_gates.ensures.wrote).fits

pub returns-in_err-circuit : goal.returns-in_err-circuit
returns-in_err-circuit c =
    let f = c.args.file.now in
    let b = c.args.wrapped in
    let out = c.args.out.now in
    subst (λ r. Lists b f out r out) (sym (handed_on c.from_residual.ensures.1))
    (earlier_fails _ _ out _ (then_refused (file_checks 0 f) _ _ c.in_err-circuit.ensures))

pub returns : goal.returns
returns c =
    let p = (goal.at.returns c).After-wires-wires in
    subst (λ (o : List ℕ). Lists c.args.wrapped c.args.file.now c.args.out.now (Ok c.put_wrap-2.new.writer.at) o) (search rules)
    (answered _ _ c.args.out.now (comes_to (goal.at.returns c).After-is_loose false c.if-is_loose.false) (enough p) c.put_wrap-2.new.writer.at c.put_wrap-2.new.writer.out.now
    (all_written (behind_gates p c.put_head.ensures.wrote c.put_wrap.ensures.wrote c.put_gates.ensures.wrote) c.put_wrap-2.ensures.wrote))
