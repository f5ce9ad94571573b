-- What a caller of `build` knows when it answers and when it refuses; and that no two answers say the same.
use Rattle.std.proofs.Common.{◌≡◌, ℕ, ◌+◌, ◌^◌, ◌≤◌, List, [], ◌∷◌, ◌++◌, length, drop, ap, arith, pow_mono}
use Rattle.refusal.specs.declared.Refusal.{Refusal}
use Rattle.refusal.specs.Checks.{passed, refused, outcome}
use Rattle.refusal.proofs.Contracts.{Distinct, answers_distinct, meets_values, meets_refusal}
use Rattle.refusal.proofs.Rooms.{room_suffices}
use Rattle.table.specs.Table.{table_checks}
use Rattle.table.proofs.Callers.{good_variables}
use Rattle.std.specs.Prelude.{Result, Ok, Err}
use Rattle.build.specs.Construction.{built_file, build_checks, built_says, Builds}

module _ (n : ℕ) (t : List ℕ) where
  -- 4,096 bytes are room for every table's file: only the table can be refused
  pub build_room : (room : ℕ) → 4096 ≤ room → outcome (build_checks n t room) ≡ outcome (table_checks n t)
  build_room room h = room_suffices (table_checks n t) room (2 ^ (n + 4)) (λ e. omega (arith, pow_mono {i = n + 4} {j = 12} (omega (arith, (good_variables n t e).1))))

  module _ (before : List ℕ) (a : Result ℕ Refusal) (after : List ℕ) (m : Builds n t before a after) where
    pub build_answers : (k : ℕ) → a ≡ Ok k → (outcome (build_checks n t (length before)) ≡ passed) × (k ≡ 2 ^ (n + 4)) × (after ≡ built_file n t ++ drop (length (built_file n t)) before)
    build_answers k e =
        let v = meets_values built_says (outcome (build_checks n t (length before))) (2 ^ (n + 4) ∷ []) (built_file n t) before a after m (k ∷ []) (ap built_says e) in
        (v.0, cc v.1, v.2)

    pub build_refuses : (r : Refusal) → a ≡ Err r → (outcome (build_checks n t (length before)) ≡ refused r) × (after ≡ before)
    build_refuses r e = meets_refusal built_says (outcome (build_checks n t (length before))) (2 ^ (n + 4) ∷ []) (built_file n t) before a after m r (ap built_says e)

pub built_distinct : Distinct built_says
built_distinct = answers_distinct (λ (l : ℕ). l ∷ []) (λ j k e. cc)
