-- Row 17: which circuits it refuses, and that it gives nothing but 17.
use Prim.Native.Nat.{ℕ, suc, ◌*◌, ◌%◌, ◌^◌, ◌<◌, ◌≤◌}
use native.Mathlib.Nat.{mod-eq_of_lt}
use native.Mathlib.Omega.{arith}
use mathlib.Core.Path.{◌≡◌, refl, ap, ◌∙◌}
use mathlib.Core.Bool.{Bool, true, false, cond}
use mathlib.Core.Logic.{◌↔◌, inl, inr}
use mathlib.Core.List.{List}
use lib.Dec.{ltb}
use lib.ListN.{get_or}
use lib.Pow.{pow-lt}
use Rattle.numbers.specs.Search.{least}
use Rattle.numbers.specs.Working.{unlike}
use Rattle.refusal.specs.declared.Refusal.{Refusal}
use Rattle.refusal.specs.Names.{refusal, LOOSE}
use Rattle.refusal.specs.Checks.{passed, refused, outcome}
use Rattle.refusal.proofs.Outcomes.{reaches}
use Rattle.refusal.proofs.Passed.{passed_fail}
use Rattle.refusal.proofs.Given.{given_by}
use Rattle.circuit.specs.declared.Gate.{Gate}
use Rattle.circuit.specs.Bytes.{Bytes}
use Rattle.circuit.specs.File.{wires_of, gates_of}
use Rattle.circuit.proofs.Callers.{GoodFile}
use Rattle.circuit.proofs.Files.{file_sound}
use Rattle.running.specs.Masks.{most_wires}
use Rattle.running.specs.Ends.{lowest_loose, ComesBack}
use Rattle.running.specs.Working.{own_numbers, numbers_from}
use Rattle.running.proofs.Ends.{back_exactly, loose_asked}
use Rattle.listing.specs.Listing.{loose_check}

-- a wire's own mask as the code shifts it
pub own_shifted : (i : ℕ) → i < most_wires → 2 * 2 ^ i % 2 ^ 16 ≡ 2 ^ suc i
own_shifted i h = ap (◌% 2 ^ 16) (let e : 2 * 2 ^ i ≡ 2 ^ suc i = omega arith in e) ∙ mod-eq_of_lt (pow-lt {i = suc i} {j = 16} (omega arith))

module _ (w : ℕ) (gs : List Gate) where
  pub loose_refused : lowest_loose w gs < w → outcome (loose_check true w gs) ≡ refused (refusal LOOSE)
  loose_refused h = reaches (loose_check true w gs) (refused (refusal LOOSE)) (inl (h, refl))

  pub none_loose : w ≤ lowest_loose w gs → outcome (loose_check true w gs) ≡ passed
  none_loose h = reaches (loose_check true w gs) passed (inr (h, refl))

  -- a plain listing asks nothing
  pub plain_passes : outcome (loose_check false w gs) ≡ passed
  plain_passes = reaches (loose_check false w gs) passed refl

  -- a wrapped one asks that all wires come back
  pub wrapped_passes : (outcome (loose_check true w gs) ≡ passed) ↔ ComesBack w gs
  wrapped_passes = (λ e. (back_exactly w gs).0 (passed_fail (loose_check true w gs) e).0, λ b. none_loose ((back_exactly w gs).1 b))

  pub back_passes : (wrapped : Bool) → ComesBack w gs → outcome (loose_check wrapped w gs) ≡ passed
  back_passes true b = wrapped_passes.1 b
  back_passes false b = plain_passes

  -- as the code asks it
  pub plain_asked : (wrapped : Bool) → wrapped ≡ false → outcome (loose_check wrapped w gs) ≡ passed
  plain_asked wrapped e = rw e plain_passes

  pub wrapped_asked : (wrapped : Bool) → wrapped ≡ true → (lowest wires : ℕ) → lowest ≡ lowest_loose w gs → wires ≡ w → outcome (loose_check wrapped w gs) ≡ cond (ltb lowest wires) (refused (refusal LOOSE)) passed
  unfolding outcome
  wrapped_asked wrapped e lowest wires p q = rw (e, p, q)

  -- what holds of refusal 17 holds of whatever the row gives
  pub loose_given : (P : Refusal → Type 0) → P (refusal LOOSE) → (wrapped : Bool) (r : Refusal) → outcome (loose_check wrapped w gs) ≡ refused r → P r
  loose_given P p true = given_by P (loose_check true w gs) (p, tt)
  loose_given P p false = given_by P (loose_check false w gs) tt

-- of a good file, by what ten wires hold behind its gates
pub lowest_asked : (f : List ℕ) → Bytes f → GoodFile f → (held : List ℕ) → held ≡ numbers_from (gates_of f) (own_numbers most_wires)
    → (lowest w : ℕ) → w ≡ wires_of f → lowest ≡ least (unlike (λ i. get_or held i 0) (λ i. 2 ^ suc i)) w 0 → lowest ≡ lowest_loose (wires_of f) (gates_of f)
lowest_asked f bytes good held e lowest w q p = p ∙ rw (e, q) (loose_asked (wires_of f) (gates_of f) (file_sound f bytes good) good.few)
