use mathlib.Core.Path.{subst}
use mathlib.Core.List.{List}
use Prim.Native.Nat.{ℕ}
use Rattle.oracle_listing.specs.Oracle.{variables_of, ListsOracle}
use Rattle.oracle_listing.proofs.Steps.{empty_refused, rest_of}
use Rattle.oracle_listing.proofs.oracle_listing.Goals as goal

pub returns-then-input-eq0 : goal.returns-then-input-eq0
returns-then-input-eq0 c =
    let a = c.args in
    empty_refused a.input.now c.if-input-eq0.true a.out.now c.into.result c.into.ensures

pub returns : goal.returns
returns c =
    let a = c.args in
    subst (λ (t : List ℕ). ListsOracle (variables_of a.input.now) t a.out.now c.of_table.result c.of_table.new.out) (rest_of a.input.now) c.of_table.ensures
