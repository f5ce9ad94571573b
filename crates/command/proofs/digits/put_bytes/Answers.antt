use Rattle.std.proofs.Common.{◌++◌, drop, arith, ap}
use Rattle.numbers.proofs.Lists.{fill_again}
use Rattle.command.specs.Digits.{byte_at}
use Rattle.command.proofs.Scans.{bytes_put}
use Rattle.command.proofs.digits.put_bytes.Goals as goal

pub loop-i-preserved : goal.loop-i-preserved
loop-i-preserved c =
    let l = c.loop-i in
    fill_again l.i (byte_at c.args.text.now) _ l.byte-items 0 c.pair.result (omega arith) l.invariant c.pair.ensures

pub returns : goal.returns
returns c =
    let l = c.loop-i in (
      omega (arith, c.min-n.ensures),
      ap (λ m. m ++ drop c.min-n.result c.args.out.now)
          (bytes_put c.args.text.now c.args.out.now l.byte-items l.i c.min-n.result (omega (arith, c.min-n.ensures)) (omega (arith, c.min-n.ensures)) (omega arith) l.invariant),
    )
