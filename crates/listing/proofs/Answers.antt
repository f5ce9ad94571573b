-- The three ways out of an operation that answers with a text: an earlier check refuses, the room is too small, or the text is written.
use Prim.Native.Nat.{ℕ, ◌<◌, ◌≤◌}
use native.Mathlib.Nat.{zero-add}
use mathlib.Core.Path.{◌≡◌, refl, ap, ◌∙◌}
use mathlib.Core.List.{List, [], ◌∷◌, ◌++◌}
use lib.ListN.{length}
use Rattle.refusal.specs.declared.Refusal.{Refusal}
use Rattle.refusal.specs.Names.{refusal, ROOM}
use Rattle.refusal.specs.Checks.{Check, Outcome, passed, refused, outcome, room_check}
use Rattle.refusal.specs.Contract.{values, Meets}
use Rattle.refusal.proofs.Rooms.{earlier_refused, room_refused, room_enough}
use Rattle.circuit.proofs.Writing.{put_front}
use Rattle.std.specs.Prelude.{Ok, Err}
use Rattle.circuit.specs.Working.{Wrote}
use Rattle.listing.specs.Listing.{listed_says}

module _ (cs : List Check) (text before : List ℕ) where
  abbrev all : Outcome
  all = outcome (cs ++ room_check (length before) (length text))

  pub earlier_fails : (r : Refusal) → outcome cs ≡ refused r → Meets listed_says all (length text ∷ []) text before (Err r) before
  earlier_fails r e = earlier_refused listed_says cs (length text) (length text ∷ []) text before (Err r) r refl e

  module _ (e : outcome cs ≡ passed) where
    pub room_fails : length before < length text → (r : Refusal) → r ≡ refusal ROOM → Meets listed_says all (length text ∷ []) text before (Err r) before
    room_fails h r q = room_refused listed_says cs (length text) (length text ∷ []) text before e h (Err r) r refl q

    pub answered : length text ≤ length before → (l : ℕ) (after : List ℕ) → Wrote text 0 before l after → Meets listed_says all (length text ∷ []) text before (Ok l) after
    answered h l after w =
        room_enough listed_says cs (length text) (length text ∷ []) text before e h (Ok l) after (ap (λ (n : ℕ). values (n ∷ [])) (w.ends ∙ zero-add (length text)))
        (w.written ∙ put_front text before h)
