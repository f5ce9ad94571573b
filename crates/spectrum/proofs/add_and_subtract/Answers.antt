use Rattle.std.proofs.Common.{pos, ◌+ℤ◌, ◌-ℤ◌, ap₂, ◌∙◌, arith}
use Rattle.numbers.proofs.Lists.{fill_again}
use Rattle.numbers.proofs.Rows.{filled_at}
use Rattle.spectrum.proofs.Adding.{sum_of, difference_of, adding_ends}
use Rattle.spectrum.proofs.add_and_subtract.Goals as goal

pub loop-i-preserved : goal.loop-i-preserved
loop-i-preserved c = let l = c.loop-i in
    let front = c.args.front.now in
    let back = c.args.back.now in
    let p = c.add_and_subtract_two in
    let a = filled_at l.i (sum_of front back) front l.front (pos 0) l.invariant.front in
    let b = filled_at l.i (difference_of front back) back l.back (pos 0) l.invariant.back in
    record {
      front = fill_again l.i (sum_of front back) front l.front (pos 0) p.new.first (omega arith) l.invariant.front (p.ensures.sum ∙ ap₂ ◌+ℤ◌ a b);
      back = fill_again l.i (difference_of front back) back l.back (pos 0) p.new.second (omega (arith, c.requires.same_length)) l.invariant.back (p.ensures.difference ∙ ap₂ ◌-ℤ◌ a b);
    }

pub returns : goal.returns
returns c = let l = c.loop-i in
    adding_ends c.args.front.now c.args.back.now l.front l.back l.i l.invariant.front l.invariant.back (omega arith) c.requires.same_length
