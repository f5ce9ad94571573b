-- 01, "Coefficients and verdict" and "Numbered refusals": the checks of compare and judge, and their answers in the paper's values.
use Rattle.std.specs.Prelude.{ℕ, ◌+◌, ◌^◌, List, [], ◌∷◌, ◌++◌, length}
use Rattle.refusal.specs.Names.{refusal, UNLIKE}
use Rattle.refusal.specs.Checks.{Check, check, other, outcome, room_check}
use Rattle.refusal.specs.Contract.{Said, answer_says, Meets}
use Rattle.table.specs.Table.{table_checks, value_at}
use Rattle.circuit.specs.File.{wires_of, gates_of, file_checks}
use Rattle.verdict.specs.declared.Verdict.{Verdict}
use Rattle.verdict.specs.declared.Verdict.TheVariants.{Same, Different}
use Rattle.std.specs.Prelude.{Result}
use Rattle.refusal.specs.declared.Refusal.{Refusal}
use Rattle.coefficients.specs.Coefficients.{coefficient, ideal_coefficient}
use Rattle.verdict.specs.Verdicts.{circuit, ideal, verdict, differences}

-- 0 for Same; 1 for Different, with the state, both ends and the phase
abbrev pub verdict_values : Verdict → List ℕ
verdict_values Same = 0 ∷ []
verdict_values (Different s e f p) = 1 ∷ s ∷ e ∷ f ∷ p ∷ []

abbrev pub compared_says : Result Verdict Refusal → Said
compared_says = answer_says verdict_values

-- "12 UNLIKE: wire counts differ", "13 ROOM: .. work slice [shorter] than 2^w"
abbrev pub work_checks : ℕ → ℕ → ℕ → List Check
work_checks w v room = check (other w v) (refusal UNLIKE) ∷ room_check room (2 ^ w)

-- "in compare the first file, then the second"
abbrev pub compare_checks : List ℕ → List ℕ → ℕ → List Check
compare_checks f g room = file_checks 0 f ++ (file_checks 1 g ++ work_checks (wires_of f) (wires_of g) room)

-- "Table checks precede file checks"; "in judge, w isn't n+1"
abbrev pub judge_checks : ℕ → List ℕ → List ℕ → ℕ → List Check
judge_checks n t f room = table_checks n t ++ (file_checks 0 f ++ work_checks (wires_of f) (n + 1) room)

-- the contract of compare: the verdict on the two circuits, and their coefficients' differences in the work slice
abbrev pub Compares : List ℕ → List ℕ → List ℕ → Result Verdict Refusal → List ℕ → Type 0
Compares f g work answer after =
    Meets compared_says (outcome (compare_checks f g (length work))) (verdict_values (verdict (wires_of f) (circuit (gates_of f)) (circuit (gates_of g))))
    (differences (wires_of f) (coefficient (wires_of f) (gates_of f)) (coefficient (wires_of f) (gates_of g))) work answer after

-- the contract of judge: "Judge does it with the second side ideal"
abbrev pub Judges : ℕ → List ℕ → List ℕ → List ℕ → Result Verdict Refusal → List ℕ → Type 0
Judges n t f work answer after =
    Meets compared_says (outcome (judge_checks n t f (length work))) (verdict_values (verdict (wires_of f) (circuit (gates_of f)) (ideal n (value_at t))))
    (differences (wires_of f) (coefficient (wires_of f) (gates_of f)) (ideal_coefficient n (value_at t))) work answer after
