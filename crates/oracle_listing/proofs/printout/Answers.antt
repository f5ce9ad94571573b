use Rattle.std.proofs.Common.{◌≡◌, rules, subst}
use Rattle.refusal.specs.Names.{ROOM}
use Rattle.listing.specs.Listing.{refused_line, Writes}
use Rattle.oracle_listing.specs.Oracle.{variables_of, table_of}
use Rattle.oracle_listing.proofs.Printing.{text_printed, no_room, line_printed}
use Rattle.oracle_listing.proofs.printout.Goals as goal

pub returns-then-eq : goal.returns-then-eq
returns-then-eq c =
    let a = c.args in
    let o = c.oracle_listing in
    let full : c.in-Err.why.cause ≡ ROOM = search rules in
    no_room (variables_of a.input.now) (table_of a.input.now) a.out.now o.result o.new.out o.ensures c.in-Err.why c.in-Err.is full

pub returns-else-eq : goal.returns-else-eq
returns-else-eq c =
    let a = c.args in
    let o = c.oracle_listing in
    let printable : c.in-Err.why.cause ≡ ROOM → ⊥ = search rules in
    line_printed (variables_of a.input.now) (table_of a.input.now) a.out.now o.result o.new.out o.ensures c.in-Err.why c.in-Err.is printable
    c.refused_line.result c.refused_line.new.out (subst (λ n. Writes (refused_line n) o.new.out c.refused_line.result c.refused_line.new.out) c.number.ensures c.refused_line.ensures)

pub returns-in-Ok : goal.returns-in-Ok
returns-in-Ok c =
    let a = c.args in
    let o = c.oracle_listing in
    text_printed (variables_of a.input.now) (table_of a.input.now) a.out.now o.result o.new.out o.ensures c.in-Ok.length c.in-Ok.is
