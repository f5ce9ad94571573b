-- 02 §9's sentences determine the number and what is left: the definition does what they say, and nothing else does.
use Prim.Native.Nat.{ℕ, zero, suc, ◌<◌, ◌≤◌}
use native.Mathlib.Decide.{dec_lt}
use native.Mathlib.Omega.{arith}
use mathlib.Core.Path.{◌≡◌, refl, sym, ap, subst, ◌∙◌}
use mathlib.Core.Bool.{Bool, true, false, ◌||◌, cond}
use mathlib.Core.List.{List, [], ◌∷◌, ◌++◌}
use lib.ListN.{length, take, drop}
use Rattle.circuit.specs.declared.Gate.{Gate}
use Rattle.circuit.specs.declared.Gate.TheVariants.{Cnot}
use Rattle.cancel.specs.Cancel.{begins, paired, removed, cancelled, steps}
use Rattle.cancel.specs.Sentences.{Pair, Step, Steps, Cancelling}
use Rattle.cancel.proofs.Removing.{never, twins_same, same_twins}
use Rattle.cancel.proofs.Steps.{cancelled_none, cancelled_more, steps_none, steps_more, within_allowance, no_pair_left}

-- ---- a pair at the front, and seen from one gate before

module _ (g : Gate) where
  pub front_pair : (gs : List Gate) → begins g gs ≡ true → Pair (g ∷ gs) 0
  front_pair [] e = never e
  front_pair (h ∷ gs) e =
      let t = twins_same g h e in
      record { before = []; control = t.0; target = t.1; behind = gs; position = refl; gates = λ i. t.2 i ∷ t.3 i ∷ gs }

  pair_front : (gs : List Gate) → Pair (g ∷ gs) 0 → begins g gs ≡ true
  pair_front gs r = by r.before r.position r.gates
    where
      by : (before : List Gate) → length before ≡ 0 → g ∷ gs ≡ before ++ Cnot r.control r.target ∷ Cnot r.control r.target ∷ r.behind → begins g gs ≡ true
      by (x ∷ before) l e = absurd (omega arith)
      by [] l e =
          let p : g ≡ Cnot r.control r.target = cc e in
          let q : gs ≡ Cnot r.control r.target ∷ r.behind = cc e in
          rw (p, q) (same_twins r.control r.target)

  later : (gs : List Gate) (p : ℕ) → Pair gs p → Pair (g ∷ gs) (suc p)
  later gs p r = record { before = g ∷ r.before; control = r.control; target = r.target; behind = r.behind; position = ap suc r.position; gates = ap (g ∷◌) r.gates }

  sooner : (gs : List Gate) (p : ℕ) → Pair (g ∷ gs) (suc p) → Pair gs p
  sooner gs p r = by r.before r.position r.gates
    where
      by : (before : List Gate) → length before ≡ suc p → g ∷ gs ≡ before ++ Cnot r.control r.target ∷ Cnot r.control r.target ∷ r.behind → Pair gs p
      by [] l e = absurd (omega arith)
      by (x ∷ before) l e = record { before = before; control = r.control; target = r.target; behind = r.behind; position = omega arith; gates = cc e }

-- ---- one step

-- where the definition finds no pair there is none
pub unpaired : (gs : List Gate) → paired gs ≡ false → (p : ℕ) → Pair gs p → ⊥
unfolding paired
unpaired [] e p r = by r.before r.gates
  where
    by : (before : List Gate) → [] ≡ before ++ Cnot r.control r.target ∷ Cnot r.control r.target ∷ r.behind → ⊥
    by [] e = let l : ◌≡◌ {A = ℕ} 0 (suc (suc (length r.behind))) = ap length e in omega arith
    by (x ∷ xs) e = let l : ◌≡◌ {A = ℕ} 0 (suc (length (xs ++ Cnot r.control r.target ∷ Cnot r.control r.target ∷ r.behind))) = ap length e in omega arith
unpaired (g ∷ gs) e p r = by (begins g gs) refl e p r (λ x q. unpaired gs x q)
  where
    by : (b : Bool) → begins g gs ≡ b → (b || paired gs) ≡ false → (p : ℕ) → Pair (g ∷ gs) p → (paired gs ≡ false → (q : ℕ) → Pair gs q → ⊥) → ⊥
    by true x y p r rest = never (sym y)
    by false x y zero r rest = never (sym x ∙ pair_front g gs r)
    by false x y (suc p) r rest = rest y p (sooner g gs p r)

-- where it finds one, what it leaves is a single step away
pub removed_step : (gs : List Gate) → paired gs ≡ true → Step gs (removed gs)
unfolding paired removed front_pair later
removed_step [] e = never e
removed_step (g ∷ gs) e = by (begins g gs) refl e (λ p. removed_step gs p)
  where
    front : (hs : List Gate) → begins g hs ≡ true → Step (g ∷ hs) (drop 1 hs)
    front [] x = never x
    front (h ∷ hs) x = record { position = 0; pair = front_pair g (h ∷ hs) x; lowest = λ p l. absurd (omega arith); left = refl }

    by : (b : Bool) → begins g gs ≡ b → (b || paired gs) ≡ true → (paired gs ≡ true → Step gs (removed gs)) → Step (g ∷ gs) (cond b (drop 1 gs) (g ∷ removed gs))
    by true x y r = front gs x
    by false x y r =
        let s = r y in
        record { position = suc s.position; pair = later g gs s.position s.pair; lowest = before s; left = ap (g ∷◌) s.left }
      where
        before : (s : Step gs (removed gs)) (p : ℕ) → p < suc s.position → Pair (g ∷ gs) p → ⊥
        before s zero l q = never (sym x ∙ pair_front g gs q)
        before s (suc p) l q = s.lowest p (omega arith) (sooner g gs p q)

-- what is left without two gates, by their position
abbrev without : ℕ → List Gate → List Gate
without p gs = take p gs ++ drop (suc (suc p)) gs

without_two : (before behind : List Gate) (x y : Gate) → without (length before) (before ++ x ∷ y ∷ behind) ≡ before ++ behind
without_two [] behind x y = refl
without_two (b ∷ before) behind x y = ap (b ∷◌) (without_two before behind x y)

pair_left : (gs : List Gate) (p : ℕ) (r : Pair gs p) → r.before ++ r.behind ≡ without p gs
pair_left gs p r =
    sym (without_two r.before r.behind (Cnot r.control r.target) (Cnot r.control r.target)) ∙ ap (without (length r.before)) (sym r.gates)
    ∙ ap (λ (n : ℕ). without n gs) r.position

-- no second list is a single step away
step_one : (gs hs ks : List Gate) → Step gs hs → Step gs ks → hs ≡ ks
step_one gs hs ks x y =
    x.left ∙ pair_left gs x.position x.pair ∙ ap (λ (n : ℕ). without n gs) (same (dec_lt x.position y.position) (dec_lt y.position x.position))
    ∙ sym (y.left ∙ pair_left gs y.position y.pair)
  where
    same : Dec (x.position < y.position) → Dec (y.position < x.position) → x.position ≡ y.position
    same (yes h) d = absurd (y.lowest x.position h x.pair)
    same (no h) (yes k) = absurd (x.lowest y.position k y.pair)
    same (no h) (no k) = omega arith

step_is : (gs hs : List Gate) → Step gs hs → (paired gs ≡ true) × (hs ≡ removed gs)
step_is gs hs s = by (paired gs) refl
  where
    by : (b : Bool) → paired gs ≡ b → (paired gs ≡ true) × (hs ≡ removed gs)
    by true e = (e, step_one gs hs (removed gs) s (removed_step gs e))
    by false e = absurd (unpaired gs e s.position s.pair)

-- ---- all of them

steps_made : (most : ℕ) (gs : List Gate) → Steps (steps most gs) gs (cancelled most gs)
unfolding cancelled steps
steps_made zero gs = refl
steps_made (suc most) gs = by (paired gs) refl (steps_made most (removed gs))
  where
    by : (b : Bool) → paired gs ≡ b → Steps (steps most (removed gs)) (removed gs) (cancelled most (removed gs))
        → Steps (cond b (suc (steps most (removed gs))) 0) gs (cond b (cancelled most (removed gs)) gs)
    by true e r = (removed gs, removed_step gs e, r)
    by false e r = refl

-- the definition does what 02 says
pub cancelled_cancels : (most : ℕ) (gs : List Gate) → Cancelling most gs (steps most gs) (cancelled most gs)
cancelled_cancels most gs = record { made = steps_made most gs; allowed = within_allowance most gs; none = λ l. unpaired (cancelled most gs) (no_pair_left most gs l) }

-- whatever takes so many single steps, and stops early only where no pair is left, is this
only : (most n : ℕ) (gs hs : List Gate) → Steps n gs hs → n ≤ most → (n < most → (p : ℕ) → Pair hs p → ⊥) → (n ≡ steps most gs) × (hs ≡ cancelled most gs)
only zero zero gs hs m a e = (sym (steps_none gs), sym m ∙ sym (cancelled_none gs))
only zero (suc n) gs hs m a e = absurd (omega arith)
only (suc most) zero gs hs m a e = by (paired gs) refl
  where
    by : (b : Bool) → paired gs ≡ b → (0 ≡ steps (suc most) gs) × (hs ≡ cancelled (suc most) gs)
    by true x = let s = removed_step gs x in absurd (e (omega arith) s.position (subst (λ (l : List Gate). Pair l s.position) m s.pair))
    by false x =
        (sym (steps_more most gs ∙ ap (λ (b : Bool). cond b (suc (steps most (removed gs))) 0) x), sym m ∙ sym (cancelled_more most gs ∙ ap (λ (b : Bool). cond b (cancelled most (removed gs)) gs) x))
only (suc most) (suc n) gs hs m a e =
    let s = step_is gs m.0 m.1 in
    let r = only most n (removed gs) hs (subst (λ (l : List Gate). Steps n l hs) s.1 m.2) (omega arith) (λ l. e (omega arith)) in (
      ap suc r.0 ∙ sym (steps_more most gs ∙ ap (λ (b : Bool). cond b (suc (steps most (removed gs))) 0) s.0),
      r.1 ∙ sym (cancelled_more most gs ∙ ap (λ (b : Bool). cond b (cancelled most (removed gs)) gs) s.0),
    )

pub cancelling_only : (most n : ℕ) (gs hs : List Gate) → Cancelling most gs n hs → (n ≡ steps most gs) × (hs ≡ cancelled most gs)
cancelling_only most n gs hs c = only most n gs hs c.made c.allowed c.none
