-- A walk over gates, one step a gate: one law for every loop over a circuit's gates. `left` is what the loop has still before it.
use Prim.Native.Nat.{ℕ, ◌+◌, ◌≤◌}
use mathlib.Core.Path.{◌≡◌, sym, ap, subst, ◌∙◌}
use mathlib.Core.List.{List, [], ◌∷◌, ◌++◌}
use lib.ListN.{length}
use Rattle.circuit.specs.declared.Gate.{Gate}
use Rattle.circuit.specs.Working.{walked, written, Sound, AllSound, Wrote}
use Rattle.circuit.proofs.Parts.{Left, all_left, room, less_left, none_left}

-- the gates that are left make of the state now what all of them make of the first
abbrev pub Walk : {S : Type 0} → (Gate → S → S) → List Gate → S → List Gate → S → Type 0
Walk step gs start left now = walked step left now ≡ walked step gs start

-- the same of a walk that writes, at `at`, what is still to be written
abbrev pub Writing : {S : Type 0} → (Gate → S → S) → (Gate → S → List ℕ) → List Gate → S → ℕ → List ℕ → List Gate → S → ℕ → List ℕ → Type 0
Writing step put gs start from before left now at out = Left (written step put gs start) from before (written step put left now) at out

module _ {S : Type 0} (step : Gate → S → S) (gs : List Gate) (start : S) where
  pub walk_starts : {left : List Gate} → left ≡ gs → Walk step gs start left start
  walk_starts e = ap (λ (l : List Gate). walked step l start) e

  pub walk_goes_on : {left rest : List Gate} {now after : S} {g : Gate} → left ≡ g ∷ rest → after ≡ step g now → Walk step gs start left now → Walk step gs start rest after
  unfolding walked
  walk_goes_on {left} {rest} {now} {after} {g} e s w = rw s (ap (λ (l : List Gate). walked step l now) (sym e) ∙ w)

  pub walk_ends : {left : List Gate} {now : S} → left ≡ [] → Walk step gs start left now → now ≡ walked step gs start
  unfolding walked
  walk_ends {left} {now} e w = ap (λ (l : List Gate). walked step l now) (sym e) ∙ w

  module _ (put : Gate → S → List ℕ) (from : ℕ) (before : List ℕ) where
    pub writing_starts : {left : List Gate} → left ≡ gs → from + length (written step put gs start) ≤ length before → Writing step put gs start from before left start from before
    writing_starts e h = all_left from before (ap (λ (l : List Gate). written step put l start) (sym e)) h

    module _ {left rest : List Gate} (now : S) {g : Gate} {at : ℕ} {out : List ℕ} (e : left ≡ g ∷ rest) (w : Writing step put gs start from before left now at out) where
      split : Left (written step put gs start) from before (put g now ++ written step put rest (step g now)) at out
      unfolding written
      split = subst (λ (l : List Gate). Left (written step put gs start) from before (written step put l now) at out) e w

      -- there is room for what the gate writes
      pub writing_room : at + length (put g now) ≤ length out
      writing_room = room (put g now) (written step put rest (step g now)) split

      pub writing_goes_on : {after : S} {behind : ℕ} {now_out : List ℕ} → after ≡ step g now → Wrote (put g now) at out behind now_out
          → Writing step put gs start from before rest after behind now_out
      writing_goes_on s k = rw s (less_left (put g now) (written step put rest (step g now)) split k)

    pub writing_ends : {left : List Gate} (now : S) {at : ℕ} {out : List ℕ} → left ≡ [] → Writing step put gs start from before left now at out
        → Wrote (written step put gs start) from before at out
    unfolding written
    writing_ends now e w = none_left (ap (λ (l : List Gate). written step put l now) e) w

-- the gates that are left are sound
module _ (w : ℕ) {left rest : List Gate} {g : Gate} (e : left ≡ g ∷ rest) (h : AllSound w left) where
  both : Sound w g × AllSound w rest
  unfolding AllSound
  both = subst (AllSound w) e h

  pub next_sound : Sound w g
  next_sound = both.0

  pub rest_sound : AllSound w rest
  rest_sound = both.1
