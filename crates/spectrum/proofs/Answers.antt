-- The operation's three ways out.
use Prim.Native.Nat.{ℕ, ◌^◌, ◌<◌, ◌≤◌}
use mathlib.Core.Path.{◌≡◌, refl, ap}
use mathlib.Core.List.{List, [], ◌∷◌, ◌++◌}
use lib.ListN.{length, drop}
use lib.IntN.{ℤ}
use Rattle.refusal.specs.declared.Refusal.{Refusal}
use Rattle.refusal.specs.Names.{refusal, ROOM}
use Rattle.refusal.specs.Checks.{passed, refused, outcome}
use Rattle.refusal.specs.Contract.{values}
use Rattle.refusal.proofs.Rooms.{earlier_refused, room_refused, room_enough}
use Rattle.table.specs.Table.{table_checks}
use Rattle.std.specs.Prelude.{Ok, Err}
use Rattle.spectrum.specs.Spectrum.{spectrum_of, transformed_says, Transforms}

module _ (n : ℕ) (t : List ℕ) (before : List ℤ) where
  pub table_fails : (r : Refusal) → outcome (table_checks n t) ≡ refused r → Transforms n t before (Err r) before
  table_fails r o = earlier_refused transformed_says (table_checks n t) (2 ^ n) (2 ^ n ∷ []) (spectrum_of n t) before (Err r) r refl o

  module _ (o : outcome (table_checks n t) ≡ passed) where
    pub room_fails : length before < 2 ^ n → (r : Refusal) → r ≡ refusal ROOM → Transforms n t before (Err r) before
    room_fails h r p = room_refused transformed_says (table_checks n t) (2 ^ n) (2 ^ n ∷ []) (spectrum_of n t) before o h (Err r) r refl p

    pub answered : 2 ^ n ≤ length before → (k : ℕ) → k ≡ 2 ^ n → (after : List ℤ) → after ≡ spectrum_of n t ++ drop (length (spectrum_of n t)) before → Transforms n t before (Ok k) after
    answered h k p after q = room_enough transformed_says (table_checks n t) (2 ^ n) (2 ^ n ∷ []) (spectrum_of n t) before o h (Ok k) after (ap (λ (m : ℕ). values (m ∷ [])) p) q
