-- One pass makes the same steps in the same order: among the kept gates there is no pair, so the lowest is where the last kept gate meets the next.
use Prim.Native.Nat.{ℕ, zero, suc, ◌<◌}
use native.Mathlib.Omega.{arith}
use mathlib.Core.Path.{◌≡◌, refl, ap, ◌∙◌}
use mathlib.Core.Bool.{Bool, true, false, ◌||◌, cond}
use mathlib.Core.List.{List, [], ◌∷◌}
use Rattle.circuit.specs.declared.Gate.{Gate}
use Rattle.cancel.specs.Cancel.{twins, paired, removed, cancelled}
use Rattle.cancel.specs.Working.{meets}
use Rattle.cancel.proofs.Removing.{paired_cons, removed_cons}
use Rattle.cancel.proofs.Steps.{cancelled_none, cancelled_more}

-- the kept gates, the last of them first, before those that still come
abbrev pub onto : List Gate → List Gate → List Gate
onto [] gs = gs
onto (g ∷ k) gs = onto k (g ∷ gs)

-- no pair among the kept
abbrev pub Apart : List Gate → Type 0
Apart [] = Unit {0}
Apart (g ∷ k) = (meets k g ≡ false) × Apart k

-- a step is made at the last kept gate or behind it, and a pair is there where one is
paired_onto : (k : List Gate) (g : Gate) (gs : List Gate) → Apart (g ∷ k) → paired (onto k (g ∷ gs)) ≡ paired (g ∷ gs)
paired_onto [] g gs a = refl
paired_onto (h ∷ k) g gs a = paired_onto k h (g ∷ gs) a.1 ∙ paired_cons h (g ∷ gs) ∙ ap (λ (b : Bool). b || paired (g ∷ gs)) a.0

removed_onto : (k : List Gate) (g : Gate) (gs : List Gate) → Apart (g ∷ k) → removed (onto k (g ∷ gs)) ≡ onto k (removed (g ∷ gs))
removed_onto [] g gs a = refl
removed_onto (h ∷ k) g gs a = removed_onto k h (g ∷ gs) a.1 ∙ ap (onto k) (removed_cons h (g ∷ gs) ∙ ap (λ (b : Bool). cond b gs (h ∷ removed (g ∷ gs))) a.0)

-- the next gate is the last one's twin: a single step removes them
pub pair_goes : (most : ℕ) (k : List Gate) (h g : Gate) (gs : List Gate) → Apart (h ∷ k) → twins h g ≡ true → cancelled (suc most) (onto k (h ∷ g ∷ gs)) ≡ cancelled most (onto k gs)
pair_goes most k h g gs a e =
    let all = onto k (h ∷ g ∷ gs) in
    let there : paired all ≡ true = paired_onto k h (g ∷ gs) a ∙ paired_cons h (g ∷ gs) ∙ ap (λ (b : Bool). b || paired (g ∷ gs)) e in
    let left : removed all ≡ onto k gs = removed_onto k h (g ∷ gs) a ∙ ap (onto k) (removed_cons h (g ∷ gs) ∙ ap (λ (b : Bool). cond b gs (h ∷ removed (g ∷ gs))) e) in
    cancelled_more most all ∙ ap (λ (b : Bool). cond b (cancelled most (removed all)) all) there ∙ ap (cancelled most) left

-- where nothing more comes, no pair is left
none_left : (k : List Gate) → Apart k → paired (onto k []) ≡ false
unfolding paired
none_left [] a = refl
none_left (h ∷ k) a = paired_onto k h [] a

-- so what is kept at the end is what is left
pub pass_ends : (most : ℕ) (k : List Gate) → (0 < most → Apart k) → cancelled most (onto k []) ≡ onto k []
pass_ends zero k a = cancelled_none (onto k [])
pass_ends (suc most) k a = cancelled_more most (onto k []) ∙ ap (λ (b : Bool). cond b (cancelled most (removed (onto k []))) (onto k [])) (none_left k (a (omega arith)))
