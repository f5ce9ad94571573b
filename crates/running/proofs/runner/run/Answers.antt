use Rattle.std.proofs.Common.{◌≡◌, ◌^◌, [], ◌∷◌, sym, ap, subst, ◌∙◌, arith}
use Rattle.refusal.specs.Checks.{refused, outcome}
use Rattle.circuit.specs.File.{wires_of, gates_of}
use Rattle.running.specs.Run.{end_from, phase_from, run_checks}
use Rattle.circuit.proofs.Callers.{good_circuit, circuit_passes}
use Rattle.refusal.proofs.Contracts.{hands_on, said_refused}
use Rattle.running.proofs.Answers.{run_file_refused, run_state_refused, run_passes, ran_end}
use Rattle.numbers.proofs.Powers.{small_power}
use Rattle.running.proofs.runner.run.Goals as goal

pub returns-in_err-circuit : goal.returns-in_err-circuit
returns-in_err-circuit c = hands_on _ _ _ _ c.from_residual.ensures.1 (run_file_refused c.args.file.now c.args.start _ c.in_err-circuit.ensures)

pub returns-then-start-power : goal.returns-then-start-power
returns-then-start-power c =
    let a = c.args in
    let f = a.file.now in
    let i = c.in_ok-circuit in
    let p : c.power.result ≡ 2 ^ wires_of f = small_power c.wires.result c.power.result (omega (arith, c.wires.ensures, (good_circuit i.circuit.good).few)) c.power.ensures ∙ ap (2 ^◌) (c.wires.ensures ∙ ap wires_of i.ensures) in
    said_refused (outcome (run_checks f a.start)) (end_from (gates_of f) a.start ∷ phase_from (gates_of f) a.start ∷ []) c.into.result
    (run_state_refused f a.start (circuit_passes i.ensures i.circuit.good) (omega arith) ∙ ap refused (sym c.into.ensures))

pub returns : goal.returns
returns c =
    let a = c.args in
    let f = a.file.now in
    let i = c.in_ok-circuit in
    let r = c.run_gates.result in
    let p : c.power.result ≡ 2 ^ wires_of f = small_power c.wires.result c.power.result (omega (arith, c.wires.ensures, (good_circuit i.circuit.good).few)) c.power.ensures ∙ ap (2 ^◌) (c.wires.ensures ∙ ap wires_of i.ensures) in
    ran_end f a.start r (run_passes f a.start (circuit_passes i.ensures i.circuit.good) (omega arith))
    (subst (λ g. (r.state ≡ end_from (gates_of g) a.start) × (r.phase ≡ phase_from (gates_of g) a.start)) i.ensures c.run_gates.ensures)
