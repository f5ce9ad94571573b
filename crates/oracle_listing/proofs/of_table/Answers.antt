use Rattle.table.specs.Table.{table_checks}
use Rattle.build.specs.Construction.{built_file}
use mathlib.Core.Path.{sym, subst}
use lib.Seq.{length-take-le}
use Rattle.refusal.proofs.Contracts.{handed_on}
use Rattle.oracle_listing.specs.Oracle.{ListsOracle}
use Rattle.oracle_listing.proofs.Steps.{Ready, build_ready, table_refuses, table_refused, table_listed}
use Rattle.oracle_listing.proofs.of_table.Goals as goal
use Rattle.oracle_listing.proofs.of_table.Goals.{In_ok-length}

-- the built file is ready to be folded
built : (c : In_ok-length) → Ready (table_checks c.args.n c.args.table.now) (built_file c.args.n c.args.table.now) c.build.new.out c.in_ok-length.length
built c =
    build_ready c.args.n c.args.table.now c.built_room-built.result c.built_room-built.ensures c.build.result c.build.new.out c.build.ensures c.in_ok-length.length c.in_ok-length.was

pub slice_bounds-built-end : goal.slice_bounds-built-end
slice_bounds-built-end c = (built (goal.at.slice_bounds-built-end c).In_ok-length).fits

pub slice_bounds-list_folded-end : goal.slice_bounds-list_folded-end
slice_bounds-list_folded-end c = sym (length-take-le c.in_ok-length.length c.build.new.out (built (goal.at.slice_bounds-list_folded-end c).In_ok-length).fits)

pub returns-in_err-length : goal.returns-in_err-length
returns-in_err-length c =
    let a = c.args in
    let lent = c.built_room-built in
    subst (λ r. ListsOracle a.n a.table.now a.out.now r a.out.now) (sym (handed_on c.from_residual.ensures.1))
    (table_refused a.n a.table.now a.out.now _ (table_refuses a.n a.table.now lent.result lent.ensures c.build.result c.build.new.out c.build.ensures _ c.in_err-length.was))

pub returns : goal.returns
returns c = table_listed c.args.n c.args.table.now c.build.new.out c.args.out.now c.in_ok-length.length (built (goal.at.returns c).In_ok-length) c.list_folded.result c.list_folded.new.out c.list_folded.ensures
