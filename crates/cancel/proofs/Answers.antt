-- The operation's four ways out.
use Prim.Native.Nat.{ℕ, ◌+◌, ◌*◌, ◌<◌, ◌≤◌}
use native.Mathlib.Omega.{arith}
use mathlib.Core.Path.{◌≡◌, refl, sym, ap, ◌∙◌}
use mathlib.Core.Logic.{inl, inr}
use mathlib.Core.List.{List, [], ◌∷◌, ◌++◌}
use lib.ListN.{length, get_or, drop}
use Rattle.numbers.proofs.Lists.{length-list}
use Rattle.refusal.specs.declared.Refusal.{Refusal}
use Rattle.refusal.specs.Names.{refusal, ROOM, ALLOW}
use Rattle.refusal.specs.Checks.{Check, passed, refused, outcome}
use Rattle.refusal.specs.Contract.{values}
use Rattle.refusal.proofs.Outcomes.{reaches, then_refused, then_passed}
use Rattle.refusal.proofs.Rooms.{earlier_refused, room_refused, room_enough}
use Rattle.circuit.specs.Bytes.{Bytes, put_at}
use Rattle.circuit.specs.Gates.{bytes_of}
use Rattle.circuit.specs.File.{version_of, wires_of, gates_of, file_checks, header_bytes}
use Rattle.circuit.specs.Working.{said_at, header_of}
use Rattle.circuit.proofs.Files.{length-file}
use Rattle.circuit.proofs.Writing.{header_of_lem, file_put}
use Rattle.std.specs.Prelude.{Ok, Err}
use Rattle.cancel.specs.declared.Cancelled.{Cancelled}
use Rattle.cancel.specs.Cancel.{cancelled, steps, cancelled_file, most_allowed, allow_check, cancelled_says, Cancels}
use Rattle.cancel.specs.Working.{most_gates, gates_at, Remains}
use Rattle.cancel.proofs.Files.{few_gates}
use Rattle.cancel.proofs.Callers.{cancel_values}

module _ (f : List ℕ) (most : ℕ) (before : List ℕ) where
  -- all rows but the room's
  abbrev early : List Check
  early = file_checks 0 f ++ allow_check most

  early_fails : (r : Refusal) → outcome early ≡ refused r → Cancels f most before (Err r) before
  early_fails r e = earlier_refused cancelled_says early (length (cancelled_file f most)) (cancel_values f most) (cancelled_file f most) before (Err r) r refl e

  pub file_fails : (r : Refusal) → outcome (file_checks 0 f) ≡ refused r → Cancels f most before (Err r) before
  file_fails r e = early_fails r (then_refused (file_checks 0 f) (allow_check most) r e)

  module _ (e : outcome (file_checks 0 f) ≡ passed) where
    pub allow_fails : most_allowed < most → (r : Refusal) → r ≡ refusal ALLOW → Cancels f most before (Err r) before
    allow_fails h r p = early_fails r (then_passed (file_checks 0 f) (allow_check most) e ∙ reaches (allow_check most) (refused r) (inl (h, ap refused p)))

    module _ (h : most ≤ most_allowed) where
      early_passes : outcome early ≡ passed
      early_passes = then_passed (file_checks 0 f) (allow_check most) e ∙ reaches (allow_check most) passed (inr (h, refl))

      pub room_fails : length before < length (cancelled_file f most) → (r : Refusal) → r ≡ refusal ROOM → Cancels f most before (Err r) before
      room_fails k r p = room_refused cancelled_says early (length (cancelled_file f most)) (cancel_values f most) (cancelled_file f most) before early_passes k (Err r) r refl p

      pub answered : length (cancelled_file f most) ≤ length before → (a : Cancelled) → a.length ≡ length (cancelled_file f most) → a.pairs ≡ steps most (gates_of f)
          → (after : List ℕ) → after ≡ cancelled_file f most ++ drop (length (cancelled_file f most)) before → Cancels f most before (Ok a) after
      answered k a p q after t =
          room_enough cancelled_says early (length (cancelled_file f most)) (cancel_values f most) (cancelled_file f most) before early_passes k (Ok a) after
          (λ i. values (p i ∷ q i ∷ [])) t

-- what is known once the pass is made
pub record Room (f : List ℕ) (most kept : ℕ) : Type 0 where
  pub kept_all : kept ≡ length (cancelled most (gates_of f))
  pub few : kept ≤ most_gates
  pub whole : 8 + 4 * kept ≡ length (cancelled_file f most)

module _ (f : List ℕ) (most : ℕ) (row : List ℕ) (kept pairs : ℕ) (l : Remains f most row kept pairs) where
  pub room : Bytes f → outcome (file_checks 0 f) ≡ passed → Room f most kept
  room bytes e =
      let gs = cancelled most (gates_of f) in
      let n : kept ≡ length gs = sym (length-list kept (λ j. said_at f (get_or row j 0))) ∙ ap length l.gates in
      record { kept_all = n; few = omega (arith, few_gates 0 f bytes e most); whole = ap (λ (k : ℕ). 8 + 4 * k) n ∙ sym (length-file (version_of f) (wires_of f) gs) }

  -- the header, then the gates behind it, are the new file
  pub file_written : (before : List ℕ) → length (cancelled_file f most) ≤ length before → (half after : List ℕ) → 8 ≤ length f → Room f most kept → half ≡ put_at (header_of f kept) 0 before
      → after ≡ put_at (bytes_of (gates_at f row kept)) 8 half → after ≡ cancelled_file f most ++ drop (length (cancelled_file f most)) before
  file_written before fits half after long r p q =
      file_put (version_of f) (wires_of f) (cancelled most (gates_of f)) before half after fits
      (p ∙ ap (λ (bs : List ℕ). put_at bs 0 before) (header_of_lem f before kept long ∙ ap (header_bytes (version_of f) (wires_of f)) r.kept_all))
      (q ∙ ap (λ (gs : _). put_at (bytes_of gs) 8 half) l.gates)
