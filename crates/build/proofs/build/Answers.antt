use Rattle.std.proofs.Common.{◌≡◌, ℕ, ◌+◌, ◌%◌, ◌^◌, ◌<◌, ◌≤◌, List, ◌++◌, length, drop, ℤ, sym, subst, ◌∙◌, arith, pow_mono}
use Rattle.refusal.specs.Checks.{passed, outcome}
use Rattle.numbers.proofs.Powers.{power_fits}
use Rattle.table.specs.Table.{table_checks}
use Rattle.table.proofs.Callers.{good_variables}
use Rattle.refusal.proofs.Contracts.{handed_on}
use Rattle.build.specs.Construction.{Builds}
use Rattle.spectrum.specs.Spectrum.{spectrum_of}
use Rattle.spectrum.proofs.Callers.{spectrum_room, spectrum_answers, spectrum_refuses}
use Rattle.build.proofs.Answers.{zeros, table_fails, room_fails, answered, row_size, leaves_file}
use Rattle.build.proofs.build.Goals as goal
use Rattle.build.proofs.build.Goals.{In_ok-spectrum}

-- the table is good, and its spectrum stands in the local row
record Told (n : ℕ) (t : List ℕ) (row : List ℤ) : Type 0 where
  good : outcome (table_checks n t) ≡ passed
  some : 0 < n
  small : n ≤ 8
  entries : row ≡ spectrum_of n t ++ drop (length (spectrum_of n t)) zeros

told : (c : In_ok-spectrum) → Told c.args.n c.args.table.now c.spectrum.new.out
told c =
    let n = c.args.n in
    let t = c.args.table.now in
    let v = spectrum_answers n t zeros c.spectrum.result c.spectrum.new.out c.spectrum.ensures c.in_ok-spectrum.field-0 c.in_ok-spectrum.was in
    let good : outcome (table_checks n t) ≡ passed = sym (spectrum_room n t 256 (omega arith)) ∙ v.0 in
    let variables = good_variables n t good in
    record { good = good; some = variables.0; small = variables.1; entries = v.2 }

module _ {n : ℕ} {t : List ℕ} {row : List ℤ} (k : Told n t row) where
  length_is : (p : ℕ) → p ≡ 2 ^ (n + 4) % 2 ^ 64 → p ≡ 2 ^ (n + 4)
  length_is p e = e ∙ power_fits (omega (arith, k.small))

  angles_enough : (l : ℕ) → 256 ≤ l → 2 ^ n ≤ l
  angles_enough l h = omega (arith, pow_mono {i = n} {j = 8} k.small)

pub returns-in_err-spectrum : goal.returns-in_err-spectrum
returns-in_err-spectrum c =
    let a = c.args in
    let q = c.spectrum in
    subst (λ r. Builds a.n a.table.now a.out.now r a.out.now) (sym (handed_on c.from_residual.ensures.1))
    (table_fails a.n a.table.now a.out.now _ (sym (spectrum_room a.n a.table.now 256 (omega arith)) ∙ (spectrum_refuses a.n a.table.now zeros q.result q.new.out q.ensures _ c.in_err-spectrum.was).0))

pub overflow_add-n : goal.overflow_add-n
overflow_add-n c =
    omega (arith, (told (goal.at.overflow_add-n c).In_ok-spectrum).small)

pub returns-then-out-file : goal.returns-then-out-file
returns-then-out-file c =
    let a = c.args in
    let t = told (goal.at.returns-then-out-file c).In_ok-spectrum in
    room_fails a.n a.table.now a.out.now t.good (omega (arith, length_is t c.power-file.result c.power-file.ensures)) c.into.result c.into.ensures

pub write_angles-requires-clause-n_bound : goal.write_angles-requires-clause-n_bound
write_angles-requires-clause-n_bound c = (told (goal.at.write_angles-requires-clause-n_bound c).In_ok-spectrum).small

pub write_angles-requires-clause-small : goal.write_angles-requires-clause-small
write_angles-requires-clause-small c =
    let t = told (goal.at.write_angles-requires-clause-small c).In_ok-spectrum in
    row_size c.args.n c.args.table.now t.small c.spectrum.new.out t.entries

pub write_file-requires : goal.write_file-requires
write_file-requires c =
    let t = told (goal.at.write_file-requires c).In_ok-spectrum in
    record {
      n_nonzero = t.some;
      n_bound = t.small;
      theta_enough = angles_enough t _ (omega (arith, c.write_angles.auto.out));
      minus_enough = angles_enough t _ (omega (arith, c.write_angles.auto.out, c.negate.auto.row));
      room = omega (arith, length_is t c.power-file.result c.power-file.ensures, c.if-out-file.false);
    }

pub returns : goal.returns
returns c =
    let a = c.args in
    let t = told (goal.at.returns c).In_ok-spectrum in
    let long = length_is t c.power-file.result c.power-file.ensures in
    let roomy : 2 ^ (a.n + 4) ≤ length a.out.now = omega (arith, long, c.if-out-file.false) in
    let after = c.write_file.new.out in
    answered a.n a.table.now a.out.now t.good roomy c.power-file.result long after
    (leaves_file a.n a.table.now t.small c.spectrum.new.out t.entries c.write_angles.new.out c.negate.new.row 256 (omega arith) c.write_angles.ensures c.negate.ensures t.some a.out.now after roomy c.write_file.ensures)
