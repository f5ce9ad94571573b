-- All steps: two gates less each, as many as are allowed or until no pair is left, and every run as before.
use Prim.Native.Nat.{ℕ, zero, suc, ◌+◌, ◌*◌, ◌%◌, ◌<◌, ◌≤◌}
use native.Mathlib.Omega.{arith}
use mathlib.Core.Path.{◌≡◌, refl, ap, ◌∙◌}
use mathlib.Core.Bool.{Bool, true, false, cond}
use mathlib.Core.List.{List}
use lib.ListN.{length}
use Rattle.circuit.specs.declared.Gate.{Gate}
use Rattle.circuit.specs.Working.{AllSound, AllAdmitted}
use Rattle.running.specs.Run.{end_from, total_from, phase_from}
use Rattle.cancel.specs.Cancel.{paired, removed, cancelled, steps}
use Rattle.cancel.specs.Sentences.{others_of}
use Rattle.cancel.proofs.Removing.{removed_length, removed_keeps, removed_runs, removed_others}

-- the recursions, where their definitions are shut
pub cancelled_none : (gs : List Gate) → cancelled 0 gs ≡ gs
unfolding cancelled
cancelled_none gs = refl

pub cancelled_more : (most : ℕ) (gs : List Gate) → cancelled (suc most) gs ≡ cond (paired gs) (cancelled most (removed gs)) gs
unfolding cancelled
cancelled_more most gs = refl

pub steps_none : (gs : List Gate) → steps 0 gs ≡ 0
unfolding steps
steps_none gs = refl

pub steps_more : (most : ℕ) (gs : List Gate) → steps (suc most) gs ≡ cond (paired gs) (suc (steps most (removed gs))) 0
unfolding steps
steps_more most gs = refl

-- what a single step keeps, all of them keep
through : (Q : List Gate → Type 0) → ((gs : List Gate) → Q gs → Q (removed gs)) → (most : ℕ) (gs : List Gate) → Q gs → Q (cancelled most gs)
unfolding cancelled
through Q s zero gs q = q
through Q s (suc most) gs q = by (paired gs) (through Q s most (removed gs) (s gs q))
  where
    by : (b : Bool) → Q (cancelled most (removed gs)) → Q (cond b (cancelled most (removed gs)) gs)
    by true r = r
    by false r = q

-- 02 §9, "the gate count falls by twice the number"
pub falls_by_two : (most : ℕ) (gs : List Gate) → length (cancelled most gs) + 2 * steps most gs ≡ length gs
unfolding cancelled steps
falls_by_two zero gs = omega arith
falls_by_two (suc most) gs = by (paired gs) refl (falls_by_two most (removed gs))
  where
    by : (b : Bool) → paired gs ≡ b → length (cancelled most (removed gs)) + 2 * steps most (removed gs) ≡ length (removed gs)
        → length (cond b (cancelled most (removed gs)) gs) + 2 * cond b (suc (steps most (removed gs))) 0 ≡ length gs
    by true e r = omega (arith, removed_length gs e)
    by false e r = omega arith

-- "The caller gives the most removals allowed"
pub within_allowance : (most : ℕ) (gs : List Gate) → steps most gs ≤ most
unfolding steps
within_allowance zero gs = omega arith
within_allowance (suc most) gs = by (paired gs) (within_allowance most (removed gs))
  where
    by : (b : Bool) → steps most (removed gs) ≤ most → cond b (suc (steps most (removed gs))) 0 ≤ suc most
    by true r = omega arith
    by false r = omega arith

-- "if it is below the allowance no pair is left"
pub no_pair_left : (most : ℕ) (gs : List Gate) → steps most gs < most → paired (cancelled most gs) ≡ false
unfolding cancelled steps
no_pair_left zero gs h = absurd (omega arith)
no_pair_left (suc most) gs h = by (paired gs) refl h (λ l. no_pair_left most (removed gs) l)
  where
    by : (b : Bool) → paired gs ≡ b → cond b (suc (steps most (removed gs))) 0 < suc most → (steps most (removed gs) < most → paired (cancelled most (removed gs)) ≡ false)
        → paired (cond b (cancelled most (removed gs)) gs) ≡ false
    by true e l r = r (omega arith)
    by false e l r = e

-- phase gates and inverters stay, in order
pub same_others : (most : ℕ) (gs : List Gate) → others_of (cancelled most gs) ≡ others_of gs
same_others most gs = through (λ hs. others_of hs ≡ others_of gs) (λ hs e. removed_others hs ∙ e) most gs refl

pub cancelled_admitted : (version most : ℕ) (gs : List Gate) → AllAdmitted version gs → AllAdmitted version (cancelled most gs)
unfolding AllAdmitted
cancelled_admitted version most gs = through (AllAdmitted version) (removed_keeps (AllAdmitted version) (λ g hs q. q.1) (λ g hs ks q r. (q.0, r))) most gs

-- "The result is Same as its input": good gates on the same wires, and every start ends alike with the same phase
module _ (w : ℕ) where
  still_sound : (gs : List Gate) → AllSound w gs → AllSound w (removed gs)
  unfolding AllSound
  still_sound = removed_keeps (AllSound w) (λ g hs q. q.1) (λ g hs ks q r. (q.0, r))

  module _ (most : ℕ) (gs : List Gate) (sound : AllSound w gs) where
    pub cancelled_sound : AllSound w (cancelled most gs)
    cancelled_sound = through (AllSound w) still_sound most gs sound

    pub same_end : (x : ℕ) → end_from (cancelled most gs) x ≡ end_from gs x
    same_end x = (through (λ hs. AllSound w hs × (end_from hs x ≡ end_from gs x)) (λ hs q. (still_sound hs q.0, (removed_runs w hs x q.0).0 ∙ q.1)) most gs (sound, refl)).1

    same_total : (x : ℕ) → total_from (cancelled most gs) x ≡ total_from gs x
    same_total x = (through (λ hs. AllSound w hs × (total_from hs x ≡ total_from gs x)) (λ hs q. (still_sound hs q.0, (removed_runs w hs x q.0).1 ∙ q.1)) most gs (sound, refl)).1

    pub same_phase : (x : ℕ) → phase_from (cancelled most gs) x ≡ phase_from gs x
    same_phase x = ap (◌% 65536) (same_total x)
