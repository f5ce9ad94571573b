use Rattle.std.proofs.Common.{rules, ◌≡◌, subst, ℕ, ◌+◌, ◌-◌, List, ◌++◌, get_or, refl}
use Rattle.circuit.specs.Bytes.{put_at}
use Rattle.circuit.specs.Gates.{bytes_of}
use Rattle.circuit.specs.File.{header_bytes, file_of}
use Rattle.circuit.specs.Working.{Wrote}
use Rattle.circuit.proofs.Parts.{Left, room, less_left, all_written}
use Rattle.build.specs.Construction.{first_quarter, variables, block}
use Rattle.build.specs.Working.{parts}
use Rattle.build.proofs.Assembly.{gates_fit, file_left}
use Rattle.build.proofs.write_file.Goals as goal
use Rattle.build.proofs.write_file.Goals.{After-put_header}

-- the angles of the two steps, the bytes of the three parts and of the whole, and what is left behind the header, the first quarter turn and the variables' blocks
module _ (c : After-put_header) where
  abbrev second : ℕ → ℕ
  second k = get_or c.args.theta.now k 0

  abbrev third : ℕ → ℕ
  third v = get_or c.args.minus.now v 0

  abbrev quarter : List ℕ
  quarter = bytes_of (first_quarter c.args.n)

  abbrev wires : List ℕ
  wires = bytes_of (variables c.args.n second)

  abbrev target : List ℕ
  target = bytes_of (block c.args.n third)

  abbrev whole : List ℕ
  whole = file_of 1 (c.args.n + 1) (parts c.args.n second third)

  header_done : Left whole 0 c.args.out.now (quarter ++ (wires ++ target)) 8 c.put_header.new.out
  header_done =
      less_left (header_bytes 1 (c.args.n + 1) (c.power-gates.result - 2)) (quarter ++ (wires ++ target))
      (file_left c.args.n second third c.requires.n_nonzero c.requires.n_bound c.power-gates.result c.power-gates.ensures c.args.out.now c.requires.room) (record { ends = refl; written = c.put_header.ensures })

  module _ {at : ℕ} {out : List ℕ} (wrote_quarter : Wrote quarter 8 c.put_header.new.out at out) where
    quarter_done : Left whole 0 c.args.out.now (wires ++ target) at out
    quarter_done = less_left quarter (wires ++ target) header_done wrote_quarter

    wires_done : {at' : ℕ} {out' : List ℕ} → Wrote wires at out at' out' → Left whole 0 c.args.out.now target at' out'
    wires_done = less_left wires target quarter_done

pub overflow_sub-gates : goal.overflow_sub-gates
overflow_sub-gates c =
    (gates_fit c.args.n (λ k. get_or c.args.theta.now k 0) (λ v. get_or c.args.minus.now v 0) c.requires.n_nonzero c.requires.n_bound c.power-gates.result c.power-gates.ensures).0

pub first_quarter-requires : goal.first_quarter-requires
first_quarter-requires c =
    let p = (goal.at.first_quarter-requires c).After-put_header in
    room (quarter p) _ (header_done p)

pub variables-requires-clause-room : goal.variables-requires-clause-room
variables-requires-clause-room c =
    let p = (goal.at.variables-requires-clause-room c).After-put_header in
    room (wires p) _ (quarter_done p c.first_quarter.ensures.wrote)

pub block-requires-clause-room : goal.block-requires-clause-room
block-requires-clause-room c = (wires_done (goal.at.block-requires-clause-room c).After-put_header c.first_quarter.ensures.wrote c.variables.ensures.wrote).fits

pub returns : goal.returns
returns c =
    let p = (goal.at.returns c).After-put_header in
    subst (λ (o : List ℕ). o ≡ put_at (whole p) 0 c.args.out.now) (search rules) (all_written (wires_done p c.first_quarter.ensures.wrote c.variables.ensures.wrote) c.block.ensures.wrote).written
