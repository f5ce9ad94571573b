-- An operation whose last check is that the lent slice has room: its three ways out, and what a caller knows that lends room enough.
use Prim.Native.Nat.{ℕ, ◌<◌, ◌≤◌}
use mathlib.Core.Path.{◌≡◌, refl, sym, ap, ◌∙◌}
use mathlib.Core.Logic.{◌⊎◌, inl, inr}
use mathlib.Core.List.{List, ◌++◌}
use lib.ListN.{length, drop}
use Rattle.refusal.specs.declared.Refusal.{Refusal}
use Rattle.refusal.specs.Names.{refusal, ROOM}
use Rattle.refusal.specs.Checks.{Check, Outcome, passed, refused, outcome, room_check}
use Rattle.refusal.specs.Contract.{Said, values, said_of, Meets}
use Rattle.refusal.proofs.Outcomes.{reaches, either, then_refused, both_pass}
use Rattle.refusal.proofs.Given.{given_by}
use Rattle.refusal.proofs.Contracts.{first_refuses, second_refuses, both_answer}

enough_room : (room need : ℕ) → need ≤ room → outcome (room_check room need) ≡ passed
enough_room room need h = reaches (room_check room need) passed (inr (h, refl))

-- only ROOM is refused
pub room_refusal : (room need : ℕ) (r : Refusal) → outcome (room_check room need) ≡ refused r → r ≡ refusal ROOM
room_refusal room need = given_by (λ (r : Refusal). r ≡ refusal ROOM) (room_check room need) (refl, tt)

-- a room that suffices whenever the other checks pass changes nothing: only they can refuse
pub room_suffices : (cs : List Check) (room need : ℕ) → (outcome cs ≡ passed → need ≤ room) → outcome (cs ++ room_check room need) ≡ outcome cs
room_suffices cs room need enough = by (either (outcome cs))
  where
    by : (outcome cs ≡ passed) ⊎ ((r : Refusal) × (outcome cs ≡ refused r)) → outcome (cs ++ room_check room need) ≡ outcome cs
    by (inl p) = both_pass cs (room_check room need) p (enough_room room need (enough p)) ∙ sym p
    by (inr (r, p)) = then_refused cs (room_check room need) r p ∙ sym p

module _ {Answer Entry : Type 0} (said : Answer → Said) (cs : List Check) (need : ℕ) (vs : List ℕ) (result before : List Entry) where
  abbrev room : List Check
  room = room_check (length before) need

  abbrev all : Outcome
  all = outcome (cs ++ room)

  -- an earlier check refuses
  pub earlier_refused : (a : Answer) (r : Refusal) → said a ≡ said_of r → outcome cs ≡ refused r → Meets said all vs result before a before
  earlier_refused = first_refuses said cs room vs result before

  module _ (o : outcome cs ≡ passed) where
    -- the room is too small
    pub room_refused : length before < need → (a : Answer) (r : Refusal) → said a ≡ said_of r → r ≡ refusal ROOM → Meets said all vs result before a before
    room_refused h a r e p = second_refuses said cs room vs result before o a r e (reaches room (refused r) (inl (h, ap refused p)))

    -- every check passes
    pub room_enough : need ≤ length before → (a : Answer) (x : List Entry) → said a ≡ values vs → x ≡ result ++ drop (length result) before → Meets said all vs result before a x
    room_enough h a x e q = both_answer said cs room vs result before o a x e (enough_room (length before) need h) q
