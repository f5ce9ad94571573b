use Rattle.std.proofs.Common.{◌≡◌, ℕ, [], ◌∷◌, sym, ap, ◌∙◌, ap₂, subst, arith}
use Rattle.refusal.specs.Contract.{values}
use Rattle.circuit.specs.File.{count_of, gates_of, reading_says}
use Rattle.circuit.specs.Working.{walked}
use Rattle.circuit.proofs.Callers.{circuit_answers}
use Rattle.coefficients.specs.Working.{sign_step}
use Rattle.coefficients.proofs.Summaries.{Walked, file_walked, row_long, size_fits, part_long, coefficients_put, ends_put}
use Rattle.coefficients.proofs.Answers.{sums_passed}
use Rattle.coefficients.proofs.summary.summarise.Goals as goal
use Rattle.coefficients.proofs.summary.summarise.Goals.{After-add_gates-constant}

-- what is known once the gates are walked
walk : (c : After-add_gates-constant) → Walked c.args.side c.args.file.now c.wires-wires.result (count_of c.args.file.now) c.add_gates-constant.new.held c.add_gates-constant.new.signed c.add_gates-constant.result
walk c =
    let a = c.args in
    let i = c.in_ok-circuit in
    let read = circuit_answers a.side i.ensures i.circuit.good c.wires-wires.result (count_of a.file.now) c.wires-wires.ensures (ap count_of (sym i.ensures)) in
    file_walked a.side a.file.now c.wires-wires.result (count_of a.file.now) read (λ j. (c.type_inv.file j).fits) c.own_held-held.result c.empty-signed.result _ _ _ c.own_held-held.ensures c.empty-signed.ensures
    (subst (λ f. (c.add_gates-constant.new.held, c.add_gates-constant.new.signed, c.add_gates-constant.result) ≡ walked sign_step (gates_of f) (c.own_held-held.result, c.empty-signed.result, 0)) i.ensures c.add_gates-constant.ensures)

pub slice_bounds-signed-end : goal.slice_bounds-signed-end
slice_bounds-signed-end c =
    let w = walk (goal.at.slice_bounds-signed-end c).After-add_gates-constant in
    omega (arith, size_fits w c.power.result c.power.ensures, row_long w)

pub slice_bounds-put_coefficients-end : goal.slice_bounds-put_coefficients-end
slice_bounds-put_coefficients-end c =
    sym (part_long (walk (goal.at.slice_bounds-put_coefficients-end c).After-add_gates-constant) c.power.result c.power.ensures)

pub returns : goal.returns
returns c =
    let a = c.args in
    let w = walk (goal.at.returns c).After-add_gates-constant in
    sums_passed reading_says _ _ _ _ a.row.now a.ends.now _ _ _
    (ap₂ (λ (m n : ℕ). values (m ∷ n ∷ [])) w.read.wires (c.gate_count.ensures ∙ ap count_of c.in_ok-circuit.ensures)) w.read.passes
    (coefficients_put w c.power.result c.power.ensures a.row.now _ (λ n q. c.put_coefficients.ensures n (part_long w c.power.result c.power.ensures ∙ q)))
    (ends_put w a.ends.now _ c.put_ends.ensures)
