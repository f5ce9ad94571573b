-- A single step: what it takes, and what it leaves as it was.
use Prim.Native.Nat.{ℕ, ◌+◌}
use native.Mathlib.Omega.{arith}
use mathlib.Core.Path.{◌≡◌, refl, sym, ap, ap₂, ◌∙◌}
use mathlib.Core.Bool.{Bool, true, false, ◌||◌, ◌&&◌, cond}
use mathlib.Core.List.{List, [], ◌∷◌}
use lib.Dec.{eqb}
use lib.ListN.{length, drop}
use borrow.Author.Tests.{eq-eqb, eqb-true}
use Rattle.circuit.specs.declared.Gate.{Gate}
use Rattle.circuit.specs.declared.Gate.TheVariants.{Cnot, Phase, Inverter}
use Rattle.circuit.specs.Working.{Sound, AllSound}
use Rattle.running.specs.Run.{stepped, added, end_from, total_from}
use Rattle.running.proofs.Runs.{stepped_back}
use Rattle.cancel.specs.Cancel.{twins, begins, paired, removed}
use Rattle.cancel.specs.Sentences.{others_of}

pub never : {A : Type 0} → false ≡ true → A
never e = let z : ◌≡◌ {A = ℕ} 0 1 = cc in absurd (omega arith)

-- the recursions, where their definitions are shut
pub paired_cons : (g : Gate) (gs : List Gate) → paired (g ∷ gs) ≡ begins g gs || paired gs
unfolding paired
paired_cons g gs = refl

pub removed_cons : (g : Gate) (gs : List Gate) → removed (g ∷ gs) ≡ cond (begins g gs) (drop 1 gs) (g ∷ removed gs)
unfolding removed
removed_cons g gs = refl

-- twins are one CNOT
pub twins_same : (g h : Gate) → twins g h ≡ true → (c : ℕ) × (t : ℕ) × (g ≡ Cnot c t) × (h ≡ Cnot c t)
twins_same (Cnot c t) (Cnot d u) e = by (eqb c d) (eqb t u) refl refl e
  where
    by : (x y : Bool) → eqb c d ≡ x → eqb t u ≡ y → (x && y) ≡ true → (a : ℕ) × (b : ℕ) × (Cnot c t ≡ Cnot a b) × (Cnot d u ≡ Cnot a b)
    by true true p q r = (c, t, refl, ap₂ Cnot (sym (eqb-true c d p)) (sym (eqb-true t u q)))
    by true false p q r = never r
    by false y p q r = never r
twins_same (Cnot c t) (Phase i a) e = never e
twins_same (Cnot c t) (Inverter i) e = never e
twins_same (Phase i a) h e = never e
twins_same (Inverter i) h e = never e

pub same_twins : (c t : ℕ) → twins (Cnot c t) (Cnot c t) ≡ true
same_twins c t = rw (eq-eqb c c refl, eq-eqb t t refl)

-- two gates go
pair_length : (g : Gate) (gs : List Gate) → begins g gs ≡ true → length (drop 1 gs) + 2 ≡ length (g ∷ gs)
pair_length g [] e = never e
pair_length g (h ∷ gs) e = omega arith

pub removed_length : (gs : List Gate) → paired gs ≡ true → length (removed gs) + 2 ≡ length gs
unfolding paired removed
removed_length [] e = never e
removed_length (g ∷ gs) e = by (begins g gs) refl e (λ p. removed_length gs p)
  where
    by : (b : Bool) → begins g gs ≡ b → (b || paired gs) ≡ true → (paired gs ≡ true → length (removed gs) + 2 ≡ length gs) → length (cond b (drop 1 gs) (g ∷ removed gs)) + 2 ≡ length (g ∷ gs)
    by true p q r = pair_length g gs p
    by false p q r = omega (arith, r q)

-- what a list has with its rest, and a rest with one gate more, what is left of it has
pub removed_keeps : (Q : List Gate → Type 0) → ((g : Gate) (gs : List Gate) → Q (g ∷ gs) → Q gs) → ((g : Gate) (gs hs : List Gate) → Q (g ∷ gs) → Q hs → Q (g ∷ hs))
    → (gs : List Gate) → Q gs → Q (removed gs)
unfolding removed
removed_keeps Q rest more [] q = q
removed_keeps Q rest more (g ∷ gs) q = by (begins g gs) refl (removed_keeps Q rest more gs (rest g gs q))
  where
    behind : (hs : List Gate) → begins g hs ≡ true → Q hs → Q (drop 1 hs)
    behind [] e p = never e
    behind (h ∷ hs) e p = rest h hs p

    by : (b : Bool) → begins g gs ≡ b → Q (removed gs) → Q (cond b (drop 1 gs) (g ∷ removed gs))
    by true e p = behind gs e (rest g gs q)
    by false e p = more g gs (removed gs) q p

-- a CNOT twice does nothing, and neither adds to the phase: every run is as it was
abbrev Runs : List Gate → List Gate → ℕ → Type 0
Runs hs gs s = (end_from hs s ≡ end_from gs s) × (total_from hs s ≡ total_from gs s)

twice : (w : ℕ) (g : Gate) (gs : List Gate) (s : ℕ) → Sound w g → begins g gs ≡ true → Runs (drop 1 gs) (g ∷ gs) s
unfolding end_from total_from
twice w g [] s k e = never e
twice w g (h ∷ gs) s k e =
    let t = twins_same g h e in
    let same : h ≡ g = t.3 ∙ sym t.2 in
    let back : stepped h (stepped g s) ≡ s = ap (λ (x : Gate). stepped x (stepped g s)) same ∙ stepped_back w g s k in
    let none : added g s ≡ 0 = ap (λ (x : Gate). added x s) t.2 in
    let nor : added h (stepped g s) ≡ 0 = ap (λ (x : Gate). added x (stepped g s)) t.3 in
    let rest : total_from gs (stepped h (stepped g s)) ≡ total_from gs s = ap (total_from gs) back in
    (sym (ap (end_from gs) back), omega arith)

pub removed_runs : (w : ℕ) (gs : List Gate) (s : ℕ) → AllSound w gs → Runs (removed gs) gs s
unfolding removed end_from total_from AllSound
removed_runs w [] s k = (refl, refl)
removed_runs w (g ∷ gs) s k = by (begins g gs) refl (removed_runs w gs (stepped g s) k.1)
  where
    by : (b : Bool) → begins g gs ≡ b → Runs (removed gs) gs (stepped g s) → Runs (cond b (drop 1 gs) (g ∷ removed gs)) (g ∷ gs) s
    by true e r = twice w g gs s k.0 e
    by false e r = (r.0, ap (added g s +◌) r.1)

-- no other gate goes, nor moves past another
pub removed_others : (gs : List Gate) → others_of (removed gs) ≡ others_of gs
unfolding removed others_of
removed_others [] = refl
removed_others (g ∷ gs) = by (begins g gs) refl (removed_others gs)
  where
    pair : (hs : List Gate) → begins g hs ≡ true → others_of (drop 1 hs) ≡ others_of (g ∷ hs)
    pair [] e = never e
    pair (h ∷ hs) e = let t = twins_same g h e in ap₂ (λ (x y : Gate). others_of (x ∷ y ∷ hs)) (sym t.2) (sym t.3)

    one : (x : Gate) (hs ks : List Gate) → others_of hs ≡ others_of ks → others_of (x ∷ hs) ≡ others_of (x ∷ ks)
    one (Cnot c t) hs ks e = e
    one (Phase i a) hs ks e = ap (Phase i a ∷◌) e
    one (Inverter i) hs ks e = ap (Inverter i ∷◌) e

    by : (b : Bool) → begins g gs ≡ b → others_of (removed gs) ≡ others_of gs → others_of (cond b (drop 1 gs) (g ∷ removed gs)) ≡ others_of (g ∷ gs)
    by true e r = pair gs e
    by false e r = one g (removed gs) gs r
