-- The numbers of the code are the paper's masks and flips, gate by gate; and what a wire holds is never an empty mask.
use Rattle.std.proofs.Common.{◌≡◌, ℕ, suc, ◌+◌, ◌*◌, ◌/◌, ◌%◌, ◌^◌, ◌<◌, List, [], ◌∷◌, ◌++◌, length, get_or, take, set, sym, refl, ap, ◌∙◌, ap₂, add_assoc, one-mul, zero-add, zero-mul, arith, length-set, get_or-set_other, get_or-set_same}
use native.Mathlib.Decide.{ℕ_discrete, dec_lt}
use lib.Bits.{bit_xor}
use lib.ListN.{get_or-eq_default}
use lib.Seq.{set_out}
use Rattle.numbers.specs.Bits.{bit, dot, equal}
use Rattle.numbers.proofs.Lists.{length-list, get_or-list}
use Rattle.numbers.proofs.Parity.{dot_none}
use Rattle.numbers.proofs.Subsets.{equal_low}
use Rattle.numbers.proofs.Wires.{xor_low, xor_half, bit_own}
use Rattle.circuit.specs.declared.Gate.{Gate}
use Rattle.circuit.specs.declared.Gate.TheVariants.{Cnot, Phase, Inverter}
use Rattle.circuit.specs.Working.{AllSound}
use Rattle.circuit.proofs.Decoding.{sound_parts}
use Rattle.running.specs.Run.{end_from}
use Rattle.running.specs.Masks.{Held, held, held_at, own_held, mixed, held_after, held_from, meets, sum_met}
use Rattle.running.specs.Groups.{same_held, group_total, held_before, earlier}
use Rattle.running.specs.Working.{number_of, held_of, own_numbers, numbers_after, numbers_from, met, met_by, sum_numbers}
use Rattle.running.proofs.Runs.{start_of}
use Rattle.running.proofs.Masks.{dot_start, wire_parity}

-- no number is two masks or two flips
pub number_held : (n : ℕ) → number_of (held_of n) ≡ n
number_held n = omega arith

pub same_number : (m n : ℕ) → same_held (held_of m) (held_of n) ≡ equal m n
same_number m n = sym (equal_low m n)

-- the exclusive or of two numbers is that of the masks, and of the flips
pub mixed_number : (m n : ℕ) → mixed (held_of m) (held_of n) ≡ held_of (bit_xor m n)
mixed_number m n = ap₂ held (sym (xor_half m n)) (let e : (m % 2 + n % 2) % 2 ≡ (m + n) % 2 = omega arith in e ∙ sym (xor_low m n))

-- each wire's number is its mask and flip
pub record Splits (ns : List ℕ) (hs : List Held) : Type 0 where
  pub long : length hs ≡ length ns
  pub each : (i : ℕ) → held_at hs i ≡ held_of (get_or ns i 0)

own_splits : (w : ℕ) → Splits (own_numbers w) (own_held w)
own_splits w = record { long = length-list w (λ i. held (2 ^ i) 0) ∙ sym (length-list w (λ i. 2 ^ suc i)); each = λ i. by i (dec_lt i w) }
  where
    by : (i : ℕ) → Dec (i < w) → held_at (own_held w) i ≡ held_of (get_or (own_numbers w) i 0)
    by i (yes h) =
        get_or-list w (λ j. held (2 ^ j) 0) i (held 0 0) h
        ∙ ap₂ held (let e : 2 ^ i ≡ 2 ^ suc i / 2 = omega arith in e) (let e : 0 ≡ 2 ^ suc i % 2 = omega arith in e) ∙ ap held_of (sym (get_or-list w (λ j. 2 ^ suc j) i 0 h))
    by i (no h) =
        get_or-eq_default (own_held w) (held 0 0) {n = i} (omega (arith, length-list w (λ (j : ℕ). held (2 ^ j) 0)))
        ∙ sym (ap held_of (get_or-eq_default (own_numbers w) 0 {n = i} (omega (arith, length-list w (λ (j : ℕ). 2 ^ suc j)))))

set_splits : (ns : List ℕ) (hs : List Held) (t n : ℕ) (h : Held) → h ≡ held_of n → Splits ns hs → Splits (set ns t n) (set hs t h)
set_splits ns hs t n h q s = record { long = length-set hs t h ∙ s.long ∙ sym (length-set ns t n); each = λ i. by i (ℕ_discrete i t) (dec_lt t (length ns)) }
  where
    by : (i : ℕ) → Dec (i ≡ t) → Dec (t < length ns) → held_at (set hs t h) i ≡ held_of (get_or (set ns t n) i 0)
    by i (yes e) (yes l) = rw e (get_or-set_same hs t h (held 0 0) (omega (arith, s.long)) ∙ q ∙ ap held_of (sym (get_or-set_same ns t n 0 l)))
    by i (yes e) (no l) = ap (λ (x : List Held). held_at x i) (set_out hs t h (omega (arith, s.long))) ∙ s.each i ∙ ap (λ (x : List ℕ). held_of (get_or x i 0)) (sym (set_out ns t n (omega arith)))
    by i (no e) l = get_or-set_other hs t i h (held 0 0) e ∙ s.each i ∙ ap held_of (sym (get_or-set_other ns t i n 0 e))

after_splits : (g : Gate) (ns : List ℕ) (hs : List Held) → Splits ns hs → Splits (numbers_after g ns) (held_after g hs)
after_splits (Cnot c t) ns hs s =
    set_splits ns hs t (bit_xor (get_or ns t 0) (get_or ns c 0)) (mixed (held_at hs t) (held_at hs c)) (ap₂ mixed (s.each t) (s.each c) ∙ mixed_number (get_or ns t 0) (get_or ns c 0)) s
after_splits (Phase i a) ns hs s = s
after_splits (Inverter i) ns hs s =
    set_splits ns hs i (bit_xor (get_or ns i 0) 1) (mixed (held_at hs i) (held 0 1)) (ap (λ (h : Held). mixed h (held 0 1)) (s.each i) ∙ mixed_number (get_or ns i 0) 1) s

from_splits : (gs : List Gate) (ns : List ℕ) (hs : List Held) → Splits ns hs → Splits (numbers_from gs ns) (held_from gs hs)
unfolding numbers_from held_from
from_splits [] ns hs s = s
from_splits (g ∷ gs) ns hs s = from_splits gs (numbers_after g ns) (held_after g hs) (after_splits g ns hs s)

meets_splits : (f : Held → ℕ → ℕ) (g : Gate) (ns : List ℕ) (hs : List Held) → Splits ns hs → meets f g hs ≡ met_by (λ n a. f (held_of n) a) (met g ns)
meets_splits f (Cnot c t) ns hs s = refl
meets_splits f (Phase i a) ns hs s = ap (λ (h : Held). f h a) (s.each i)
meets_splits f (Inverter i) ns hs s = refl

sum_splits : (f : Held → ℕ → ℕ) (gs : List Gate) (ns : List ℕ) (hs : List Held) → Splits ns hs → sum_met f gs hs ≡ sum_numbers (λ n a. f (held_of n) a) gs ns
unfolding sum_met sum_numbers
sum_splits f [] ns hs s = refl
sum_splits f (g ∷ gs) ns hs s = ap₂ ◌+◌ (meets_splits f g ns hs s) (sum_splits f gs (numbers_after g ns) (held_after g hs) (after_splits g ns hs s))

-- one circuit after another
pub sum_behind : (f : Held → ℕ → ℕ) (xs ys : List Gate) (hs : List Held) → sum_met f (xs ++ ys) hs ≡ sum_met f xs hs + sum_met f ys (held_from xs hs)
unfolding sum_met held_from
sum_behind f [] ys hs = sym (zero-add (sum_met f ys hs))
sum_behind f (g ∷ xs) ys hs =
    ap (meets f g hs +◌) (sum_behind f xs ys (held_after g hs)) ∙ sym (add_assoc (meets f g hs) (sum_met f xs (held_after g hs)) (sum_met f ys (held_from xs (held_after g hs))))

module _ (w : ℕ) (gs : List Gate) where
  -- what wire i holds after a circuit
  pub held_number : (i : ℕ) → held_at (held_from gs (own_held w)) i ≡ held_of (get_or (numbers_from gs (own_numbers w)) i 0)
  held_number i = (from_splits gs (own_numbers w) (own_held w) (own_splits w)).each i

  pub number_at : (i : ℕ) → number_of (held_at (held_from gs (own_held w)) i) ≡ get_or (numbers_from gs (own_numbers w)) i 0
  number_at i = ap number_of (held_number i) ∙ number_held (get_or (numbers_from gs (own_numbers w)) i 0)

  -- a sum over the phase gates
  pub sum_number : (f : Held → ℕ → ℕ) → sum_met f gs (own_held w) ≡ sum_numbers (λ n a. f (held_of n) a) gs (own_numbers w)
  sum_number f = sum_splits f gs (own_numbers w) (own_held w) (own_splits w)

  -- a group by its number
  pub group_sum : (h : ℕ → ℕ) (n : ℕ) → sum_met (λ k a. h a * same_held k (held_of n)) gs (own_held w) ≡ sum_numbers (λ k a. h a * equal k n) gs (own_numbers w)
  group_sum h n =
      sum_number (λ k a. h a * same_held k (held_of n))
      ∙ ap (λ (f : ℕ → ℕ → ℕ). sum_numbers f gs (own_numbers w)) (λ i k a. h a * same_number k n i)

  pub total_number : (n : ℕ) → group_total w gs (held_of n) ≡ sum_numbers (λ k a. a * equal k n) gs (own_numbers w) % 65536
  total_number n = ap (◌% 65536) (group_sum (λ a. a) n)

  pub before_number : (p i : ℕ) → held_before w gs p i ≡ held_of (get_or (numbers_from (take p gs) (own_numbers w)) i 0)
  before_number p i = (from_splits (take p gs) (own_numbers w) (own_held w) (own_splits w)).each i

  pub earlier_number : (p n : ℕ) → earlier w gs p (held_of n) ≡ sum_numbers (λ k a. equal k n) (take p gs) (own_numbers w)
  earlier_number p n =
      sum_splits (λ k a. same_held k (held_of n)) (take p gs) (own_numbers w) (own_held w) (own_splits w)
      ∙ ap (λ (f : ℕ → ℕ → ℕ). sum_numbers f (take p gs) (own_numbers w)) (λ i k a. same_number k n i)

  module _ (h : AllSound w gs) where
    -- "the bit at x is mask.x", turned by the flip
    pub held_parity : (x i : ℕ) → i < w → bit (end_from gs x) i ≡ ((held_at (held_from gs (own_held w)) i).flip + dot (held_at (held_from gs (own_held w)) i).mask x) % 2
    held_parity x i k =
        wire_parity w gs h x i k ∙ dot_start (get_or (numbers_from gs (own_numbers w)) i 0) x
        ∙ sym (ap (λ (q : Held). (q.flip + dot q.mask x) % 2) (held_number i))

    -- a mask is never empty: some start leaves 1 on its wire, and some 0
    pub mask_not_empty : (i : ℕ) → i < w → (held_at (held_from gs (own_held w)) i).mask ≡ 0 → ⊥
    mask_not_empty i k e =
        let one = bit_at (2 ^ i) (ap (λ (n : ℕ). bit n i) (sym (one-mul (2 ^ i))) ∙ bit_own 1 i (omega arith)) in
        let none = bit_at 0 (ap (λ (n : ℕ). bit n i) (sym (zero-mul (2 ^ i))) ∙ bit_own 0 i (omega arith)) in
        omega arith
      where
        bit_at : {b : ℕ} (s : ℕ) → bit s i ≡ b → b ≡ ((held_at (held_from gs (own_held w)) i).flip + 0) % 2
        bit_at {b} s q =
            let r = start_of w gs s h in
            sym q ∙ ap (λ (n : ℕ). bit n i) (sym r.1) ∙ held_parity r.0 i k
            ∙ ap (λ (m : ℕ). ((held_at (held_from gs (own_held w)) i).flip + dot m r.0) % 2) e ∙ ap (λ (d : ℕ). ((held_at (held_from gs (own_held w)) i).flip + d) % 2) (dot_none r.0)

-- so it is after any beginning of a sound circuit
pub prefix_parity : (w : ℕ) (xs ys : List Gate) → AllSound w (xs ++ ys) → (x i : ℕ) → i < w
    → bit (end_from xs x) i ≡ ((held_at (held_from xs (own_held w)) i).flip + dot (held_at (held_from xs (own_held w)) i).mask x) % 2
prefix_parity w xs ys h = held_parity w xs (sound_parts w xs ys h).0
