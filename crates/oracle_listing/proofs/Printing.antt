-- What is printed once the text was asked for: the text, nothing where it has no room, or the line of the table's refusal.
use Prim.Native.Nat.{ℕ}
use native.Mathlib.Omega.{arith}
use mathlib.Core.Path.{◌≡◌, sym, ap, subst}
use mathlib.Core.Logic.{◌⊎◌, ⊎_elim}
use mathlib.Core.List.{List, [], ◌∷◌}
use lib.ListN.{length}
use Rattle.refusal.specs.declared.Refusal.{Refusal}
use Rattle.refusal.specs.Names.{number_of, ROOM}
use Rattle.refusal.specs.Checks.{Outcome, passed, refused, outcome, room_check}
use Rattle.refusal.specs.Contract.{Meets}
use Rattle.refusal.proofs.Outcomes.{then_passed, parts_pass, part_refuses}
use Rattle.refusal.proofs.Rooms.{room_refusal}
use Rattle.table.specs.Table.{table_checks}
use Rattle.table.proofs.Callers.{table_refusal}
use Rattle.std.specs.Prelude.{Result, Ok, Err}
use Rattle.listing.specs.Listing.{listed_says, refused_line, Writes}
use Rattle.oracle_listing.specs.Oracle.{oracle_text, ListsOracle, printed}
use Rattle.oracle_listing.proofs.Callers.{oracle_answers, oracle_refuses, printed_text, printed_line}

module _ (n : ℕ) (t before : List ℕ) (a : Result ℕ Refusal) (after : List ℕ) (m : ListsOracle n t before a after) where
  -- where the table passes the text is what is printed, and only the room is left to check
  as_text : outcome (table_checks n t) ≡ passed → Writes (printed n t) before a after
  as_text e =
      subst (λ (text : List ℕ). Writes text before a after) (sym (printed_text n t e))
      (subst (λ (o : Outcome). Meets listed_says o (length (oracle_text n t) ∷ []) (oracle_text n t) before a after) (then_passed (table_checks n t) (room_check (length before) (length (oracle_text n t))) e) m)

  pub text_printed : (l : ℕ) → a ≡ Ok l → Writes (printed n t) before (Ok l) after
  text_printed l e =
      subst (λ (b : Result ℕ Refusal). Writes (printed n t) before b after) e
      (as_text (parts_pass (table_checks n t) (room_check (length before) (length (oracle_text n t))) (oracle_answers n t before a after m l e).0).0)

  module _ (r : Refusal) (e : a ≡ Err r) where
    -- the table's rows refuse with another number than the room's
    refuses : (outcome (table_checks n t) ≡ refused r) ⊎ ((outcome (table_checks n t) ≡ passed) × (outcome (room_check (length before) (length (oracle_text n t))) ≡ refused r))
    refuses = part_refuses (table_checks n t) (room_check (length before) (length (oracle_text n t))) r (oracle_refuses n t before a after m r e).0

    pub no_room : r.cause ≡ ROOM → Writes (printed n t) before (Err r) after
    no_room h =
        subst (λ (b : Result ℕ Refusal). Writes (printed n t) before b after) e
        (as_text (⊎_elim (λ q. absurd (omega (arith, table_refusal n t r q, ap number_of h))) (λ q. q.0) refuses))

    pub line_printed : (r.cause ≡ ROOM → ⊥) → (b : Result ℕ Refusal) (left : List ℕ) → Writes (refused_line (number_of r.cause)) after b left → Writes (printed n t) before b left
    line_printed h b left w =
        let refusing : outcome (table_checks n t) ≡ refused r =
        ⊎_elim (λ q. q) (λ q. absurd (h (ap (λ (s : Refusal). s.cause) (room_refusal (length before) (length (oracle_text n t)) r q.1)))) refuses in
        subst (λ (x : List ℕ). Writes (printed n t) x b left) (oracle_refuses n t before a after m r e).1
        (subst (λ (text : List ℕ). Writes text after b left) (sym (printed_line n t r refusing)) w)
