-- The pass at each gate: what is kept, before the gates that still come, comes to what the steps leave of the file's gates.
use Prim.Native.Nat.{ℕ, zero, suc, ◌+◌, ◌-◌, ◌*◌, ◌<◌, ◌≤◌}
use native.Mathlib.Numerals.{add-one}
use native.Mathlib.Omega.{arith}
use mathlib.Core.Path.{◌≡◌, refl, sym, ap, ap₂, subst, ◌∙◌}
use mathlib.Core.Bool.{Bool, true, false, ◌&&◌}
use mathlib.Core.List.{List, [], ◌∷◌, ◌++◌, append-nil, append_assoc}
use lib.Dec.{ltb}
use lib.ListN.{length, get_or, take, drop, set}
use lib.Seq.{get_or-set_same, get_or-set_other, get_or-take, length-take-le}
use borrow.Author.Tests.{lt-ltb}
use Rattle.numbers.proofs.Lists.{length-list, list_last}
use Rattle.circuit.specs.declared.Gate.{Gate}
use Rattle.circuit.specs.Bytes.{Bytes}
use Rattle.circuit.specs.File.{count_of, gates_of}
use Rattle.circuit.specs.Working.{said_at}
use Rattle.circuit.proofs.Callers.{GoodFile}
use Rattle.circuit.proofs.Files.{gate_said_lem, gates_end, length-gates}
use Rattle.cancel.specs.Cancel.{twins, cancelled}
use Rattle.cancel.specs.Working.{gates_at, stack, meets, Remains}
use Rattle.cancel.proofs.Removing.{never}
use Rattle.cancel.proofs.Steps.{falls_by_two}
use Rattle.cancel.proofs.Keeping.{onto, Apart, pair_goes, pass_ends}

module _ (f row : List ℕ) where
  -- a position stored above the kept ones leaves them
  stack_set : (n x m : ℕ) → m ≤ n → stack f (set row n x) m ≡ stack f row m
  stack_set n x zero h = refl
  stack_set n x (suc m) h =
      ap (λ (y : ℕ). said_at f y ∷ stack f (set row n x) m) (get_or-set_other row n m x 0 (λ e. omega arith)) ∙ ap (said_at f (get_or row m 0) ∷◌) (stack_set n x m (omega arith))

  -- the kept positions as a row of their own
  stack_part : (n m : ℕ) → m ≤ n → stack f (take n row) m ≡ stack f row m
  stack_part n zero h = refl
  stack_part n (suc m) h = ap₂ (λ (x : ℕ) (k : List Gate). said_at f x ∷ k) (get_or-take n row m 0 (omega arith)) (stack_part n m (omega arith))

  pub stack_front : (n : ℕ) → n ≤ length row → stack f (take n row) (length (take n row)) ≡ stack f row n
  stack_front n h = ap (stack f (take n row)) (length-take-le n row h) ∙ stack_part n n (omega arith)

  -- the kept gates in order
  onto_stack : (n : ℕ) (gs : List Gate) → onto (stack f row n) gs ≡ gates_at f row n ++ gs
  onto_stack zero gs = refl
  onto_stack (suc n) gs =
      let g : ℕ → Gate = λ j. said_at f (get_or row j 0) in
      onto_stack n (g n ∷ gs) ∙ sym (append_assoc (gates_at f row n) (g n ∷ []) gs) ∙ ap (◌++ gs) (sym (list_last n g))

-- whether a gate goes, where a removal is left and a gate is kept: where it is the last one's twin
module _ (f row : List ℕ) (kept i pairs most : ℕ) where
  pub twin_met : pairs < most → 1 ≤ kept → (last next : Gate) (r : Bool) → last ≡ said_at f (get_or row (kept - 1) 0) → next ≡ said_at f i → r ≡ twins last next
      → r ≡ (ltb pairs most && meets (stack f row kept) (said_at f i))
  twin_met l h last next r p q e = rw (lt-ltb pairs most l) (e ∙ ap₂ twins p q ∙ top kept h)
    where
      top : (n : ℕ) → 1 ≤ n → twins (said_at f (get_or row (n - 1) 0)) (said_at f i) ≡ meets (stack f row n) (said_at f i)
      top zero k = absurd (omega arith)
      top (suc n) k = ap (λ (x : ℕ). twins (said_at f (get_or row x 0)) (said_at f i)) (omega arith)

-- at position i: how many gates are kept, how many pairs have gone
pub record Passing (f : List ℕ) (most : ℕ) (row : List ℕ) (kept pairs i : ℕ) : Type 0 where
  pub within : i ≤ count_of f
  pub count : kept + 2 * pairs ≡ i
  pub allowed : pairs ≤ most
  pub apart : pairs < most → Apart (stack f row kept)
  pub comes : cancelled (most - pairs) (onto (stack f row kept) (drop i (gates_of f))) ≡ cancelled most (gates_of f)

-- the same numbers, said otherwise
pub passing_same : {f : List ℕ} {most : ℕ} {row row' : List ℕ} {kept kept' pairs pairs' i : ℕ} → row' ≡ row → kept' ≡ kept → pairs' ≡ pairs → Passing f most row kept pairs i → Passing f most row' kept' pairs' i
passing_same p q r x = rw (p, q, r) x

module _ (f : List ℕ) (bytes : Bytes f) (good : GoodFile f) (most : ℕ) (row : List ℕ) (kept pairs i : ℕ) (r : Passing f most row kept pairs i) where
  module _ (h : i < count_of f) where
    next : drop i (gates_of f) ≡ said_at f i ∷ drop (suc i) (gates_of f)
    next = (gate_said_lem f bytes good i h).0

    -- the gate is kept
    pub pass_keeps : kept < length row → (pairs < most → meets (stack f row kept) (said_at f i) ≡ false) → Passing f most (set row kept i) (kept + 1) pairs (i + 1)
    pass_keeps l m =
        let same = stack_set f row kept i kept (omega arith) in
        let top : stack f (set row kept i) (suc kept) ≡ said_at f i ∷ stack f row kept =
        ap (λ (x : ℕ). said_at f x ∷ stack f (set row kept i) kept) (get_or-set_same row kept i 0 l) ∙ ap (said_at f i ∷◌) same in
        rw (add-one i, add-one kept)
        (record {
          within = omega arith;
          count = omega (arith, r.count);
          allowed = r.allowed;
          apart = λ q. subst Apart (sym top) (m q, r.apart q);
          comes = ap (λ (k : List Gate). cancelled (most - pairs) (onto k (drop (suc i) (gates_of f)))) top ∙ ap (λ (gs : List Gate). cancelled (most - pairs) (onto (stack f row kept) gs)) (sym next) ∙ r.comes;
        })

    -- the gate goes with the last that is kept
    pub pass_goes : pairs < most → meets (stack f row kept) (said_at f i) ≡ true → (1 ≤ kept) × Passing f most row (kept - 1) (pairs + 1) (i + 1)
    pass_goes l m = by kept refl
      where
        by : (n : ℕ) → kept ≡ n → (1 ≤ kept) × Passing f most row (kept - 1) (pairs + 1) (i + 1)
        by zero e = never (ap (λ (n : ℕ). meets (stack f row n) (said_at f i)) (sym e) ∙ m)
        by (suc n) e =
            let last = said_at f (get_or row n 0) in
            let rest = drop (suc i) (gates_of f) in
            let a : Apart (last ∷ stack f row n) = subst (λ (x : ℕ). Apart (stack f row x)) e (r.apart l) in
            let t : twins last (said_at f i) ≡ true = ap (λ (x : ℕ). meets (stack f row x) (said_at f i)) (sym e) ∙ m in
            let less : kept - 1 ≡ n = omega arith in
            let more : most - pairs ≡ suc (most - suc pairs) = omega arith in (
              omega arith,
              rw (add-one i, add-one pairs, less)
                  (record {
                    within = omega arith;
                    count = omega (arith, r.count);
                    allowed = omega arith;
                    apart = λ q. a.1;
                    comes = sym (pair_goes (most - suc pairs) (stack f row n) last (said_at f i) rest a t) ∙ ap (λ (x : ℕ). cancelled x (onto (stack f row n) (last ∷ said_at f i ∷ rest))) (sym more)
                        ∙ ap (λ (x : ℕ). cancelled (most - pairs) (onto (stack f row x) (said_at f i ∷ rest))) (sym e)
                        ∙ ap (λ (gs : List Gate). cancelled (most - pairs) (onto (stack f row kept) gs)) (sym next) ∙ r.comes;
                  }),
            )

  pub pass_done : count_of f ≤ i → Remains f most row kept pairs
  pass_done h =
      let k = stack f row kept in
      let e : gates_at f row kept ≡ cancelled most (gates_of f) =
      sym (append-nil (gates_at f row kept)) ∙ sym (onto_stack f row kept []) ∙ sym (pass_ends (most - pairs) k (λ l. r.apart (omega arith)))
      ∙ ap (λ (gs : List Gate). cancelled (most - pairs) (onto k gs)) (sym (gates_end f bytes good i h)) ∙ r.comes in
      let n : kept ≡ length (cancelled most (gates_of f)) = sym (length-list kept (λ j. said_at f (get_or row j 0))) ∙ ap length e in
      record { gates = e; number = omega (arith, r.count, r.within, falls_by_two most (gates_of f), length-gates f bytes good) }

-- two tests, asked together
pub both : (a b : Bool) → (a && b) ≡ true → (a ≡ true) × (b ≡ true)
both true true e = (refl, refl)
both true false e = never e
both false b e = never e

pub not_both : (a b : Bool) → (a && b) ≡ false → a ≡ true → b ≡ false
not_both true b e h = e
not_both false b e h = never h
