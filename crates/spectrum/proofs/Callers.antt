-- What a caller of `spectrum` knows when it answers and when it refuses; and that no two answers say the same.
use Prim.Native.Nat.{ℕ, ◌^◌, ◌≤◌}
use native.Mathlib.Omega.{arith}
use mathlib.Core.Path.{◌≡◌, ap}
use mathlib.Core.List.{List, [], ◌∷◌, ◌++◌}
use lib.ListN.{length, drop}
use lib.IntN.{ℤ}
use lib.Pow.{pow_mono}
use Rattle.refusal.specs.declared.Refusal.{Refusal}
use Rattle.refusal.specs.Checks.{passed, refused, outcome}
use Rattle.refusal.proofs.Contracts.{Distinct, answers_distinct, meets_values, meets_refusal}
use Rattle.refusal.proofs.Rooms.{room_suffices}
use Rattle.numbers.proofs.Lists.{length-list}
use Rattle.table.specs.Table.{table_checks, value_at}
use Rattle.table.proofs.Callers.{good_variables}
use Rattle.std.specs.Prelude.{Result, Ok, Err}
use Rattle.spectrum.specs.Spectrum.{coefficient, spectrum_of, spectrum_checks, transformed_says, Transforms}

pub length-spectrum : (n : ℕ) (t : List ℕ) → length (spectrum_of n t) ≡ 2 ^ n
unfolding spectrum_of
length-spectrum n t = length-list (2 ^ n) (coefficient n (value_at t))

module _ (n : ℕ) (t : List ℕ) where
  -- 256 entries are room for every table: only the table can be refused
  pub spectrum_room : (room : ℕ) → 256 ≤ room → outcome (spectrum_checks n t room) ≡ outcome (table_checks n t)
  spectrum_room room h = room_suffices (table_checks n t) room (2 ^ n) (λ e. omega (arith, pow_mono {i = n} {j = 8} (good_variables n t e).1))

  module _ (before : List ℤ) (a : Result ℕ Refusal) (after : List ℤ) (m : Transforms n t before a after) where
    pub spectrum_answers : (k : ℕ) → a ≡ Ok k → (outcome (spectrum_checks n t (length before)) ≡ passed) × (k ≡ 2 ^ n) × (after ≡ spectrum_of n t ++ drop (length (spectrum_of n t)) before)
    spectrum_answers k e =
        let v = meets_values transformed_says (outcome (spectrum_checks n t (length before))) (2 ^ n ∷ []) (spectrum_of n t) before a after m (k ∷ []) (ap transformed_says e) in
        (v.0, cc v.1, v.2)

    pub spectrum_refuses : (r : Refusal) → a ≡ Err r → (outcome (spectrum_checks n t (length before)) ≡ refused r) × (after ≡ before)
    spectrum_refuses r e = meets_refusal transformed_says (outcome (spectrum_checks n t (length before))) (2 ^ n ∷ []) (spectrum_of n t) before a after m r (ap transformed_says e)

pub transformed_distinct : Distinct transformed_says
transformed_distinct = answers_distinct (λ (k : ℕ). k ∷ []) (λ j k e. cc)
