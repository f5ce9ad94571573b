-- The pass leaves what the definition by positions says: a group's total is open until a gate of it has come.
use Rattle.std.proofs.Common.{◌≡◌, ℕ, zero, suc, ◌+◌, List, [], ◌∷◌, ◌++◌, get_or, take, drop, sym, refl, ap, ◌∙◌, ap₂, add-zero, add-one, arith, drop-drop}
use native.Mathlib.Decide.{ℕ_discrete}
use Rattle.numbers.specs.Bits.{equal}
use Rattle.numbers.proofs.Parity.{equal_yes, equal_no}
use Rattle.circuit.specs.declared.Gate.{Gate}
use Rattle.circuit.specs.declared.Gate.TheVariants.{Cnot, Phase, Inverter}
use Rattle.running.specs.Masks.{Held}
use Rattle.running.specs.Working.{held_of, own_numbers, numbers_after, numbers_from, met, met_by, sum_numbers}
use Rattle.running.proofs.Masks.{numbers_none, numbers_cons, numbers_append, sum_none, sum_cons, sum_append}
use Rattle.fold.specs.Fold.{kept, first_only, becomes, folded_from, folded}
use Rattle.running.specs.Groups.{group_total, earlier}
use Rattle.running.proofs.Held.{before_number, earlier_number}
use Rattle.fold.specs.Working.{left}
use Rattle.fold.proofs.Remaining.{cleared, takes, after, remains, same_function, cleared_own, cleared_other}

-- a group's total, by the number of its mask and flip
abbrev pub total_at : ℕ → List Gate → ℕ → ℕ
total_at w gs n = group_total w gs (held_of n)

abbrev unless : ℕ → ℕ → ℕ
unless zero t = t
unless (suc n) t = 0

-- the totals that are open at position p
abbrev open_at : ℕ → List Gate → ℕ → ℕ → ℕ
open_at w gs p n = unless (earlier w gs p (held_of n)) (total_at w gs n)

abbrev numbers_at : ℕ → List Gate → ℕ → List ℕ
numbers_at w gs p = numbers_from (take p gs) (own_numbers w)

abbrev number_at : ℕ → List Gate → ℕ → ℕ → ℕ
number_at w gs p i = get_or (numbers_at w gs p) i 0

take_next : {A : Type 0} (l : List A) (p : ℕ) (x : A) (rest : List A) → drop p l ≡ x ∷ rest → take (suc p) l ≡ take p l ++ (x ∷ [])
take_next [] zero x rest e = let z : ◌≡◌ {A = ℕ} 0 1 = cc in absurd (omega arith)
take_next [] (suc p) x rest e = let z : ◌≡◌ {A = ℕ} 0 1 = cc in absurd (omega arith)
take_next (y ∷ l) zero x rest e = let d : y ≡ x = cc in ap (◌∷ []) d
take_next (y ∷ l) (suc p) x rest e = ap (y ∷◌) (take_next l p x rest e)

module _ (w : ℕ) (gs : List Gate) (p : ℕ) (g : Gate) (rest : List Gate) (e : drop p gs ≡ g ∷ rest) where
  next_numbers : numbers_at w gs (suc p) ≡ numbers_after g (numbers_at w gs p)
  next_numbers =
      ap (λ (l : List Gate). numbers_from l (own_numbers w)) (take_next gs p g rest e) ∙ numbers_append (take p gs) (g ∷ []) (own_numbers w)
      ∙ numbers_cons g [] (numbers_at w gs p) ∙ numbers_none (numbers_after g (numbers_at w gs p))

  next_earlier : (n : ℕ) → earlier w gs (suc p) (held_of n) ≡ earlier w gs p (held_of n) + met_by (λ k a. equal k n) (met g (numbers_at w gs p))
  next_earlier n =
      earlier_number w gs (suc p) n
      ∙ ap (λ (l : List Gate). sum_numbers (λ k a. equal k n) l (own_numbers w)) (take_next gs p g rest e) ∙ sum_append (λ k a. equal k n) (take p gs) (g ∷ []) (own_numbers w)
      ∙ ap₂ ◌+◌ (sym (earlier_number w gs p n))
      (sum_cons (λ k a. equal k n) g [] (numbers_at w gs p) ∙ ap (met_by (λ k a. equal k n) (met g (numbers_at w gs p)) +◌) (sum_none (λ k a. equal k n) (numbers_after g (numbers_at w gs p))) ∙ add-zero (met_by (λ k a. equal k n) (met g (numbers_at w gs p))))

stays : (w : ℕ) (gs : List Gate) (p : ℕ) (g : Gate) → becomes w gs p g ≡ left (takes (open_at w gs p) (met g (numbers_at w gs p))) g
stays w gs p (Cnot c t) = refl
stays w gs p (Inverter i) = refl
stays w gs p (Phase i a) =
    ap (λ (h : Held). first_only (earlier w gs p h) (kept i (group_total w gs h))) (before_number w gs p i) ∙ by (earlier w gs p (held_of (number_at w gs p i)))
  where
    by : (n : ℕ) → first_only n (kept i (total_at w gs (number_at w gs p i))) ≡ kept i (unless n (total_at w gs (number_at w gs p i)))
    by zero = refl
    by (suc n) = refl

next_open : (w : ℕ) (gs : List Gate) (p : ℕ) (g : Gate) (rest : List Gate) → drop p gs ≡ g ∷ rest → open_at w gs (suc p) ≡ after (open_at w gs p) (met g (numbers_at w gs p))
next_open w gs p (Cnot c t) rest e =
    same_function (open_at w gs (suc p)) (open_at w gs p) (λ n. ap (λ (k : ℕ). unless k (total_at w gs n)) (next_earlier w gs p (Cnot c t) rest e n ∙ add-zero (earlier w gs p (held_of n))))
next_open w gs p (Inverter i) rest e =
    same_function (open_at w gs (suc p)) (open_at w gs p) (λ n. ap (λ (k : ℕ). unless k (total_at w gs n)) (next_earlier w gs p (Inverter i) rest e n ∙ add-zero (earlier w gs p (held_of n))))
next_open w gs p (Phase i a) rest e = same_function (open_at w gs (suc p)) (cleared (open_at w gs p) (number_at w gs p i)) (λ n. by n (ℕ_discrete n (number_at w gs p i)))
  where
    by : (n : ℕ) → Dec (n ≡ number_at w gs p i) → open_at w gs (suc p) n ≡ cleared (open_at w gs p) (number_at w gs p i) n
    by n (yes d) =
        ap (λ (k : ℕ). unless k (total_at w gs n)) (next_earlier w gs p (Phase i a) rest e n ∙ ap (earlier w gs p (held_of n) +◌) (equal_yes (sym d)) ∙ add-one (earlier w gs p (held_of n)))
        ∙ sym (cleared_own (open_at w gs p) (number_at w gs p i) n d)
    by n (no d) =
        ap (λ (k : ℕ). unless k (total_at w gs n)) (next_earlier w gs p (Phase i a) rest e n ∙ ap (earlier w gs p (held_of n) +◌) (equal_no (λ q. d (sym q))) ∙ add-zero (earlier w gs p (held_of n)))
        ∙ sym (cleared_other (open_at w gs p) (number_at w gs p i) n d)

from_remains : (w : ℕ) (gs : List Gate) (p : ℕ) (rest : List Gate) → drop p gs ≡ rest → folded_from w gs p rest ≡ remains (open_at w gs p) rest (numbers_at w gs p)
unfolding folded_from remains
from_remains w gs p [] e = refl
from_remains w gs p (g ∷ rest) e =
    let d : drop (suc p) gs ≡ rest = ap (λ (n : ℕ). drop n gs) (sym (add-one p)) ∙ sym (drop-drop 1 p gs) ∙ ap (drop 1) e in
    ap₂ ◌++◌ (stays w gs p g) (from_remains w gs (suc p) rest d ∙ ap₂ (λ (T : ℕ → ℕ) (ms : List ℕ). remains T rest ms) (next_open w gs p g rest e) (next_numbers w gs p g rest e))

-- the list that one pass leaves, from the groups' totals and what each wire holds at first, is the folded list
pub folded_remains : (w : ℕ) (gs : List Gate) → folded w gs ≡ remains (total_at w gs) gs (own_numbers w)
folded_remains w gs =
    from_remains w gs 0 gs refl
    ∙ ap₂ (λ (T : ℕ → ℕ) (ms : List ℕ). remains T gs ms)
    (same_function (open_at w gs 0) (total_at w gs) (λ n. ap (λ (k : ℕ). unless k (total_at w gs n)) (earlier_number w gs 0 n ∙ sum_none (λ k a. equal k n) (own_numbers w)))) (numbers_none (own_numbers w))
