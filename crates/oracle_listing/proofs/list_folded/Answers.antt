use mathlib.Core.Path.{sym, subst}
use Rattle.refusal.proofs.Contracts.{handed_on}
use Rattle.circuit.specs.Bytes.{Bytes}
use Rattle.oracle_listing.specs.Working.{ListsFolded}
use Rattle.oracle_listing.proofs.Steps.{fold_ready, file_refuses, folded_refused, folded_listed}
use Rattle.oracle_listing.proofs.list_folded.Goals as goal

pub returns-in_err-folded : goal.returns-in_err-folded
returns-in_err-folded c =
    let f = c.args.file.now in
    let bytes : Bytes f = λ j. (c.type_inv.file j).fits in
    let lent = c.file_room-room in
    subst (λ r. ListsFolded f c.args.out.now r c.args.out.now) (sym (handed_on c.from_residual.ensures.1))
    (folded_refused f c.args.out.now _ (file_refuses f lent.result bytes lent.ensures c.fold.result c.fold.new.out c.fold.ensures _ c.in_err-folded.was))

pub returns : goal.returns
returns c =
    let f = c.args.file.now in
    let bytes : Bytes f = λ j. (c.type_inv.file j).fits in
    let lent = c.file_room-room in
    let v = c.in_ok-folded in
    let folded = fold_ready f lent.result bytes lent.ensures c.fold.result c.fold.new.out c.fold.ensures v.folded v.was in
    folded_listed f c.fold.new.out c.args.out.now v.folded.length bytes folded c.list.result c.list.new.out c.list.ensures
