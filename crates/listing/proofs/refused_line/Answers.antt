use Rattle.std.proofs.Common.{rules}
use Rattle.std.specs.Prelude.{Ok}
use Prim.Native.Nat.{ℕ, ◌≤◌}
use native.Mathlib.Omega.{arith}
use mathlib.Core.Path.{refl, subst}
use mathlib.Core.List.{List, []}
use lib.ListN.{length}
use Rattle.refusal.specs.Checks.{passed}
use Rattle.refusal.proofs.Outcomes.{reaches}
use Rattle.circuit.proofs.Parts.{less_left, all_written}
use Rattle.listing.specs.Text.{numbered}
use Rattle.listing.specs.Words.{words}
use Rattle.listing.specs.Listing.{refused_line, Writes}
use Rattle.listing.proofs.Lengths.{refused_long}
use Rattle.listing.proofs.Pieces.{refused_left}
use Rattle.listing.proofs.Answers.{room_fails, answered}
use Rattle.listing.proofs.refused_line.Goals as goal

pub returns-then-out-digits : goal.returns-then-out-digits
returns-then-out-digits c =
    let a = c.args in
    room_fails [] (refused_line a.number) a.out.now (reaches [] passed refl) (omega (arith, refused_long a.number, c.digits.ensures.0, c.if-out-digits.true)) c.into.result c.into.ensures

pub returns : goal.returns
returns c =
    let a = c.args in
    let h : length (refused_line a.number) ≤ length a.out.now = omega (arith, refused_long a.number, c.digits.ensures.0, c.if-out-digits.false) in
    let newline_left = less_left (numbered words.refused a.number) words.newline (refused_left a.number a.out.now h) c.put_numbered.ensures.wrote in
    subst (λ (o : List ℕ). Writes (refused_line a.number) a.out.now (Ok c.put.new.self.at) o) (search rules)
    (answered [] (refused_line a.number) a.out.now (reaches [] passed refl) h c.put.new.self.at c.put.new.self.out.now (all_written newline_left (c.put.ensures.wrote newline_left.fits)))
