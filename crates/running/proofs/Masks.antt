-- What wires hold follows a run: each wire's bit is the parity of its number with the start. So a run's total is a sum over the phase gates.
use Rattle.std.proofs.Common.{◌≡◌, ℕ, suc, ◌+◌, ◌*◌, ◌/◌, ◌%◌, ◌^◌, ◌<◌, ◌≤◌, List, [], ◌∷◌, ◌++◌, length, get_or, set, replicate, sym, refl, ap, ◌∙◌, subst, ap₂, add_assoc, one-mul, zero-add, mul-one, arith, length-set, get_or-set_other, get_or-set_same, pow_pos}
use native.Mathlib.Decide.{dec_lt, ℕ_discrete}
use lib.Bits.{bit_xor, xor_lt}
use lib.ListN.{length-replicate, get_or-replicate, get_or-eq_default}
use lib.Seq.{set_out}
use lib.Pow.{pow-lt}
use Rattle.numbers.specs.Bits.{bit, dot}
use Rattle.numbers.proofs.Lists.{length-list, get_or-list}
use Rattle.numbers.proofs.Parity.{dot_below, dot_none, dot_step}
use Rattle.numbers.proofs.Wires.{bit-xor, bit_own, bit_other, dot_xor, dot_power}
use Rattle.circuit.specs.declared.Gate.{Gate}
use Rattle.circuit.specs.declared.Gate.TheVariants.{Cnot, Phase, Inverter}
use Rattle.circuit.specs.Working.{Sound, AllSound, AllAdmitted}
use Rattle.running.specs.Run.{stepped, end_from, total_from, phase_from}
use Rattle.running.specs.Working.{own_numbers, own_masks, numbers_after, numbers_from, Met, At, met, met_by, sum_numbers, start_of, total_by}

-- the recursion, where its definition is shut
pub numbers_none : (ms : List ℕ) → numbers_from [] ms ≡ ms
unfolding numbers_from
numbers_none ms = refl

pub numbers_cons : (g : Gate) (gs : List Gate) (ms : List ℕ) → numbers_from (g ∷ gs) ms ≡ numbers_from gs (numbers_after g ms)
unfolding numbers_from
numbers_cons g gs ms = refl

pub sum_none : (f : ℕ → ℕ → ℕ) (ms : List ℕ) → sum_numbers f [] ms ≡ 0
unfolding sum_numbers
sum_none f ms = refl

pub sum_cons : (f : ℕ → ℕ → ℕ) (g : Gate) (gs : List Gate) (ms : List ℕ) → sum_numbers f (g ∷ gs) ms ≡ met_by f (met g ms) + sum_numbers f gs (numbers_after g ms)
unfolding sum_numbers
sum_cons f g gs ms = refl

-- one circuit after another
pub numbers_append : (xs ys : List Gate) (ms : List ℕ) → numbers_from (xs ++ ys) ms ≡ numbers_from ys (numbers_from xs ms)
unfolding numbers_from
numbers_append [] ys ms = refl
numbers_append (g ∷ xs) ys ms = numbers_append xs ys (numbers_after g ms)

pub sum_append : (f : ℕ → ℕ → ℕ) (xs ys : List Gate) (ms : List ℕ) → sum_numbers f (xs ++ ys) ms ≡ sum_numbers f xs ms + sum_numbers f ys (numbers_from xs ms)
unfolding sum_numbers numbers_from
sum_append f [] ys ms = sym (zero-add (sum_numbers f ys ms))
sum_append f (g ∷ xs) ys ms =
    ap (met_by f (met g ms) +◌) (sum_append f xs ys (numbers_after g ms))
    ∙ sym (add_assoc (met_by f (met g ms)) (sum_numbers f xs (numbers_after g ms)) (sum_numbers f ys (numbers_from xs (numbers_after g ms))))

pub length-after : (g : Gate) (ms : List ℕ) → length (numbers_after g ms) ≡ length ms
length-after (Cnot c t) ms = length-set ms t (bit_xor (get_or ms t 0) (get_or ms c 0))
length-after (Phase i a) ms = refl
length-after (Inverter i) ms = length-set ms i (bit_xor (get_or ms i 0) 1)

pub length-numbers : (gs : List Gate) (ms : List ℕ) → length (numbers_from gs ms) ≡ length ms
unfolding numbers_from
length-numbers [] ms = refl
length-numbers (g ∷ gs) ms = length-numbers gs (numbers_after g ms) ∙ length-after g ms

-- where an inverter turns a wire, the start has the bit of the wire that always holds 1
abbrev Turns : ℕ → Gate → Type 0
Turns y (Cnot c t) = Unit {0}
Turns y (Phase i a) = Unit {0}
Turns y (Inverter i) = dot 1 y ≡ 1

unfoldable AllTurn : ℕ → List Gate → Type 0
AllTurn y [] = Unit {0}
AllTurn y (g ∷ gs) = Turns y g × AllTurn y gs

-- the bit at x is mask.x, turned where the flip is 1
pub dot_start : (n x : ℕ) → dot n (start_of x) ≡ (n % 2 + dot (n / 2) x) % 2
dot_start n x =
    dot_step n (start_of x)
    ∙ ap₂ (λ (b y : ℕ). (n % 2 * b + dot (n / 2) y) % 2) (let e : start_of x % 2 ≡ 1 = omega arith in e) (let e : start_of x / 2 ≡ x = omega arith in e)
    ∙ ap (λ (b : ℕ). (b + dot (n / 2) x) % 2) (mul-one (n % 2))

all_turn : (x : ℕ) (gs : List Gate) → AllTurn (start_of x) gs
unfolding AllTurn
all_turn x [] = tt
all_turn x (Cnot c t ∷ gs) = (tt, all_turn x gs)
all_turn x (Phase i a ∷ gs) = (tt, all_turn x gs)
all_turn x (Inverter i ∷ gs) = (dot_start 1 x ∙ ap (λ (d : ℕ). (1 + d) % 2) (dot_none x), all_turn x gs)

-- in version 1 there is none
none_turn : (y : ℕ) (gs : List Gate) → AllAdmitted 1 gs → AllTurn y gs
unfolding AllTurn AllAdmitted
none_turn y [] h = tt
none_turn y (Cnot c t ∷ gs) h = (tt, none_turn y gs h.1)
none_turn y (Phase i a ∷ gs) h = (tt, none_turn y gs h.1)
none_turn y (Inverter i ∷ gs) h = absurd (omega (arith, h.0))

-- the numbers of w wires say, by their parities with y, what state s is
pub record Follows (w : ℕ) (ns : List ℕ) (s y : ℕ) : Type 0 where
  pub wires : length ns ≡ w
  pub parity : (i : ℕ) → i < w → bit s i ≡ dot (get_or ns i 0) y

follows_own : (w x : ℕ) → Follows w (own_numbers w) x (start_of x)
follows_own w x = record {
  wires = length-list w (λ i. 2 ^ suc i);
  parity = λ i h.
      sym (ap (λ (n : ℕ). dot n (start_of x)) (get_or-list w (λ j. 2 ^ suc j) i 0 h) ∙ dot_start (2 ^ suc i) x
      ∙ ap₂ (λ (b m : ℕ). (b + dot m x) % 2) (let e : 2 ^ suc i % 2 ≡ 0 = omega arith in e) (let e : 2 ^ suc i / 2 ≡ 2 ^ i = omega arith in e)
      ∙ (let e : (0 + dot (2 ^ i) x) % 2 ≡ dot (2 ^ i) x = omega (arith, dot_below (2 ^ i) x) in e) ∙ dot_power i x);
}

follows_masks : (w x : ℕ) → Follows w (own_masks w) x x
follows_masks w x = record {
  wires = length-list w (λ i. 2 ^ i);
  parity = λ i h. sym (ap (λ (m : ℕ). dot m x) (get_or-list w (λ j. 2 ^ j) i 0 h) ∙ dot_power i x);
}

-- wire t takes up a number n, whose parity is the bit b
module _ (w : ℕ) (ns : List ℕ) (s y : ℕ) (k : Follows w ns s y) (t n b : ℕ) (h : t < w) (small : b < 2) (p : b ≡ dot n y) where
  taken : ℕ
  taken = bit_xor (get_or ns t 0) n

  takes_up : Follows w (set ns t (bit_xor (get_or ns t 0) n)) (bit_xor s (b * 2 ^ t)) y
  unfolding taken
  takes_up = record { wires = length-set ns t taken ∙ k.wires; parity = λ i l. at i l (ℕ_discrete i t) }
    where
      at : (i : ℕ) → i < w → Dec (i ≡ t) → bit (bit_xor s (b * 2 ^ t)) i ≡ dot (get_or (set ns t taken) i 0) y
      at i l (yes e) =
          rw e
          (bit-xor s (b * 2 ^ t) t ∙ ap (λ (m : ℕ). (bit s t + m) % 2) (bit_own b t small)
          ∙ ap₂ (λ (c d : ℕ). (c + d) % 2) (k.parity t h) p ∙ sym (dot_xor (get_or ns t 0) n y)
          ∙ ap (λ (m : ℕ). dot m y) (sym (get_or-set_same ns t taken 0 (omega (arith, h, k.wires)))))
      at i l (no e) =
          bit-xor s (b * 2 ^ t) i ∙ ap (λ (m : ℕ). (bit s i + m) % 2) (bit_other b t i small e) ∙ (let z : (bit s i + 0) % 2 ≡ bit s i = omega arith in z)
          ∙ k.parity i l ∙ ap (λ (m : ℕ). dot m y) (sym (get_or-set_other ns t i taken 0 e))

follows_after : (w : ℕ) (g : Gate) (ns : List ℕ) (s y : ℕ) → Sound w g → Turns y g → Follows w ns s y → Follows w (numbers_after g ns) (stepped g s) y
follows_after w (Cnot c t) ns s y h o k = takes_up w ns s y k t (get_or ns c 0) (bit s c) h.1 (omega arith) (k.parity c h.0)
follows_after w (Phase i a) ns s y h o k = k
follows_after w (Inverter i) ns s y h o k =
    subst (λ (p : ℕ). Follows w (set ns i (bit_xor (get_or ns i 0) 1)) (bit_xor s p) y) (one-mul (2 ^ i)) (takes_up w ns s y k i 1 1 h (omega arith) (sym o))

follows_from : (w : ℕ) (gs : List Gate) (ns : List ℕ) (s y : ℕ) → AllSound w gs → AllTurn y gs → Follows w ns s y → Follows w (numbers_from gs ns) (end_from gs s) y
unfolding numbers_from end_from AllSound AllTurn
follows_from w [] ns s y h o k = k
follows_from w (g ∷ gs) ns s y h o k = follows_from w gs (numbers_after g ns) (stepped g s) y h.1 o.1 (follows_after w g ns s y h.0 o.0 k)

total_follows : (w : ℕ) (gs : List Gate) (ns : List ℕ) (s y : ℕ) → AllSound w gs → AllTurn y gs → Follows w ns s y → total_from gs s ≡ total_by gs ns y
unfolding total_from sum_numbers AllSound AllTurn
total_follows w [] ns s y h o k = refl
total_follows w (Cnot c t ∷ gs) ns s y h o k =
    ap (0 +◌) (total_follows w gs (numbers_after (Cnot c t) ns) (stepped (Cnot c t) s) y h.1 o.1 (follows_after w (Cnot c t) ns s y h.0 o.0 k))
total_follows w (Phase i a ∷ gs) ns s y h o k = ap₂ (λ (b r : ℕ). a * b + r) (k.parity i h.0.0) (total_follows w gs ns s y h.1 o.1 k)
total_follows w (Inverter i ∷ gs) ns s y h o k =
    ap (0 +◌) (total_follows w gs (numbers_after (Inverter i) ns) (stepped (Inverter i) s) y h.1 o.1 (follows_after w (Inverter i) ns s y h.0 o.0 k))

module _ (w : ℕ) (gs : List Gate) (h : AllSound w gs) where
  -- after any circuit wire i's bit is the parity of its number with the start
  pub wire_parity : (x i : ℕ) → i < w → bit (end_from gs x) i ≡ dot (get_or (numbers_from gs (own_numbers w)) i 0) (start_of x)
  wire_parity x i k = (follows_from w gs (own_numbers w) x (start_of x) h (all_turn x gs) (follows_own w x)).parity i k

  -- so a run's total is the sum over the phase gates of angle times parity
  pub total_parity : (x : ℕ) → total_from gs x ≡ total_by gs (own_numbers w) (start_of x)
  total_parity x = total_follows w gs (own_numbers w) x (start_of x) h (all_turn x gs) (follows_own w x)

  pub phase_parity : (x : ℕ) → phase_from gs x ≡ total_by gs (own_numbers w) (start_of x) % 65536
  phase_parity x = ap (◌% 65536) (total_parity x)

  -- without an inverter the masks alone say it
  module _ (plain : AllAdmitted 1 gs) where
    pub plain_wire : (x i : ℕ) → i < w → bit (end_from gs x) i ≡ dot (get_or (numbers_from gs (own_masks w)) i 0) x
    plain_wire x i k = (follows_from w gs (own_masks w) x x h (none_turn x gs plain) (follows_masks w x)).parity i k

    pub plain_total : (x : ℕ) → total_from gs x ≡ total_by gs (own_masks w) x
    plain_total x = total_follows w gs (own_masks w) x x h (none_turn x gs plain) (follows_masks w x)

-- the numbers of w wires are those of w + 1 bits
abbrev pub NumbersBelow : ℕ → List ℕ → Type 0
NumbersBelow w ms = (i : ℕ) → get_or ms i 0 < 2 ^ suc w

pub own_below : (w : ℕ) → NumbersBelow w (own_numbers w)
own_below w i = by (dec_lt i w)
  where
    by : Dec (i < w) → get_or (own_numbers w) i 0 < 2 ^ suc w
    by (yes h) = rw (get_or-list w (λ j. 2 ^ suc j) i 0 h) (pow-lt (let z : suc i < suc w = omega arith in z))
    by (no h) = let l = length-list w (λ (j : ℕ). 2 ^ suc j) in rw (get_or-eq_default (own_numbers w) 0 {n = i} (omega arith)) (pow_pos (suc w))

set_below : (w : ℕ) (ms : List ℕ) (t v : ℕ) → v < 2 ^ suc w → NumbersBelow w ms → NumbersBelow w (set ms t v)
set_below w ms t v h k i = by (ℕ_discrete i t) (dec_lt t (length ms))
  where
    by : Dec (i ≡ t) → Dec (t < length ms) → get_or (set ms t v) i 0 < 2 ^ suc w
    by (no e) d = rw (get_or-set_other ms t i v 0 e) (k i)
    by (yes e) (yes l) = rw (e, get_or-set_same ms t v 0 l) h
    by (yes e) (no l) = rw (set_out ms t v (omega arith)) (k i)

pub after_below : (w : ℕ) (g : Gate) (ms : List ℕ) → NumbersBelow w ms → NumbersBelow w (numbers_after g ms)
after_below w (Cnot c t) ms h i = set_below w ms t (bit_xor (get_or ms t 0) (get_or ms c 0)) (xor_lt (suc w) (get_or ms t 0) (get_or ms c 0) (h t) (h c)) h i
after_below w (Phase j a) ms h i = h i
after_below w (Inverter j) ms h i = set_below w ms j (bit_xor (get_or ms j 0) 1) (xor_lt (suc w) (get_or ms j 0) 1 (h j) (let p = pow_pos w in omega arith)) h i

pub numbers_below : (w : ℕ) (gs : List Gate) (ms : List ℕ) → NumbersBelow w ms → NumbersBelow w (numbers_from gs ms)
unfolding numbers_from
numbers_below w [] ms h i = h i
numbers_below w (g ∷ gs) ms h i = numbers_below w gs (numbers_after g ms) (after_below w g ms h) i

pub zeros : (n i : ℕ) → ◌≡◌ {A = ℕ} (get_or (replicate n 0) i 0) 0
zeros n i = by (dec_lt i n)
  where
    by : Dec (i < n) → ◌≡◌ {A = ℕ} (get_or (replicate n 0) i 0) 0
    by (yes h) = get_or-replicate n i 0 0 h
    by (no h) = get_or-eq_default (replicate n 0) 0 {n = i} (omega (arith, length-replicate {A = ℕ} n 0))

-- numbers that agree on the first w wires, as code does that keeps more of them than the circuit has
pub record Alike (w : ℕ) (ms ns : List ℕ) : Type 0 where
  pub left : w ≤ length ms
  pub right : w ≤ length ns
  pub same : (i : ℕ) → i < w → get_or ms i 0 ≡ get_or ns i 0

pub own_alike : (v w : ℕ) → w ≤ v → Alike w (own_numbers v) (own_numbers w)
own_alike v w h =
    let l = length-list w (λ (i : ℕ). 2 ^ suc i) in
    let m = length-list v (λ (i : ℕ). 2 ^ suc i) in
    record {
      left = omega arith;
      right = omega arith;
      same = λ i k. get_or-list v (λ j. 2 ^ suc j) i 0 (omega arith) ∙ sym (get_or-list w (λ j. 2 ^ suc j) i 0 k);
    }

pub met_alike : (w : ℕ) (g : Gate) (ms ns : List ℕ) → Sound w g → Alike w ms ns → met g ms ≡ met g ns
met_alike w (Cnot c t) ms ns h k = refl
met_alike w (Phase i a) ms ns h k = ap (λ (m : ℕ). At m a) (k.same i h.0)
met_alike w (Inverter i) ms ns h k = refl

alike_set : (w : ℕ) (ms ns : List ℕ) (t m n : ℕ) → t < w → m ≡ n → Alike w ms ns → Alike w (set ms t m) (set ns t n)
alike_set w ms ns t m n h q k =
    let e = length-set ms t m in
    let d = length-set ns t n in
    record { left = omega (arith, k.left); right = omega (arith, k.right); same = λ i l. at i l (ℕ_discrete i t) }
  where
    at : (i : ℕ) → i < w → Dec (i ≡ t) → get_or (set ms t m) i 0 ≡ get_or (set ns t n) i 0
    at i l (yes e) = rw e (get_or-set_same ms t m 0 (omega (arith, k.left)) ∙ q ∙ sym (get_or-set_same ns t n 0 (omega (arith, k.right))))
    at i l (no e) = get_or-set_other ms t i m 0 e ∙ k.same i l ∙ sym (get_or-set_other ns t i n 0 e)

pub alike_after : (w : ℕ) (g : Gate) (ms ns : List ℕ) → Sound w g → Alike w ms ns → Alike w (numbers_after g ms) (numbers_after g ns)
alike_after w (Cnot c t) ms ns h k =
    alike_set w ms ns t (bit_xor (get_or ms t 0) (get_or ms c 0)) (bit_xor (get_or ns t 0) (get_or ns c 0)) h.1 (ap₂ bit_xor (k.same t h.1) (k.same c h.0)) k
alike_after w (Phase i a) ms ns h k = k
alike_after w (Inverter i) ms ns h k = alike_set w ms ns i (bit_xor (get_or ms i 0) 1) (bit_xor (get_or ns i 0) 1) h (ap (λ (m : ℕ). bit_xor m 1) (k.same i h)) k

pub alike_from : (w : ℕ) (gs : List Gate) (ms ns : List ℕ) → AllSound w gs → Alike w ms ns → Alike w (numbers_from gs ms) (numbers_from gs ns)
unfolding numbers_from AllSound
alike_from w [] ms ns h k = k
alike_from w (g ∷ gs) ms ns h k = alike_from w gs (numbers_after g ms) (numbers_after g ns) h.1 (alike_after w g ms ns h.0 k)

pub sum_alike : (f : ℕ → ℕ → ℕ) (w : ℕ) (gs : List Gate) (ms ns : List ℕ) → AllSound w gs → Alike w ms ns → sum_numbers f gs ms ≡ sum_numbers f gs ns
unfolding sum_numbers AllSound
sum_alike f w [] ms ns h k = refl
sum_alike f w (g ∷ gs) ms ns h k =
    ap₂ (λ (x : Met) (n : ℕ). met_by f x + n) (met_alike w g ms ns h.0 k) (sum_alike f w gs (numbers_after g ms) (numbers_after g ns) h.1 (alike_after w g ms ns h.0 k))
