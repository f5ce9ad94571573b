use Rattle.std.proofs.Common.{refl, arith}
use Rattle.spectrum.proofs.Recursion.{one_entry, first_falls, second_falls, first_call, second_call, add_call, add_gives}
use Rattle.spectrum.proofs.+transform.Goals as goal

pub transform-requires : goal.transform-requires
transform-requires t c =
    let v = c.args.row.now in
    let s = c.split_at_mut-front in
    let some = c.if-half-gt0.true in
    (omega (arith, first_falls v s.result.0.now s.result.1.now _ refl some s.ensures.front s.ensures.back), first_call v s.result.0.now s.result.1.now _ refl some s.ensures.front s.ensures.back c.requires)

pub transform-requires-then-half-gt0 : goal.transform-requires-then-half-gt0
transform-requires-then-half-gt0 t c =
    let v = c.args.row.now in
    let s = c.split_at_mut-front in
    let some = c.if-half-gt0.true in
    (omega (arith, second_falls v s.result.0.now s.result.1.now _ refl some s.ensures.front s.ensures.back), second_call v s.result.0.now s.result.1.now _ refl some s.ensures.front s.ensures.back c.requires)

pub add_and_subtract-requires : goal.add_and_subtract-requires
add_and_subtract-requires t c =
    let s = c.split_at_mut-front in
    let both = add_call c.args.row.now s.result.0.now s.result.1.now _ refl c.if-half-gt0.true s.ensures.front s.ensures.back c.transform.new.row c.transform-then-half-gt0.new.row c.transform.ensures c.transform-then-half-gt0.ensures c.requires in
    record { same_length = both.0; paired = both.1 }

pub returns-then-half-gt0 : goal.returns-then-half-gt0
returns-then-half-gt0 t c =
    let s = c.split_at_mut-front in
    add_gives c.args.row.now s.result.0.now s.result.1.now _ refl c.if-half-gt0.true s.ensures.front s.ensures.back c.transform.new.row c.transform-then-half-gt0.new.row c.transform.ensures c.transform-then-half-gt0.ensures _ c.add_and_subtract.ensures

pub returns-else-half-gt0 : goal.returns-else-half-gt0
returns-else-half-gt0 t c = one_entry c.args.row.now c.if-half-gt0.false
