-- The ends of the listed starts, from what the wires hold.
use Rattle.std.proofs.Common.{◌≡◌, ℕ, zero, suc, ◌+◌, ◌*◌, ◌/◌, ◌%◌, ◌^◌, ◌<◌, ◌≤◌, List, length, take, sym, ap, ◌∙◌, ap₂, mod-eq_of_lt, add-one, arith, length-take-le, get_or-take, pow_pos, pow_mono}
use lib.Bits.{bit_xor, xor_lt, xor_self, xor_zero_r}
use lib.Pow.{pow-lt}
use Rattle.numbers.specs.Bits.{bit, dot}
use Rattle.numbers.specs.Sums.{sum, list}
use Rattle.numbers.proofs.Sums.{sum_of-ext}
use Rattle.numbers.proofs.Lists.{list_ext}
use Rattle.numbers.proofs.Digits.{digits, digits_below}
use Rattle.numbers.proofs.Parity.{dot_comm, dot_none, dot_step}
use Rattle.numbers.proofs.Wires.{bit-xor, dot_power, xor_adds}
use Rattle.circuit.specs.declared.Gate.{Gate}
use Rattle.circuit.specs.Working.{AllSound}
use Rattle.circuit.proofs.Decoding.{all_wider}
use Rattle.running.specs.Run.{end_from}
use Rattle.running.specs.Masks.{most_wires}
use Rattle.running.specs.Working.{own_numbers, numbers_from, start_of}
use Rattle.running.proofs.Masks.{length-numbers, dot_start, wire_parity}
use Rattle.running.proofs.Runs.{end_below}
use Rattle.coefficients.specs.Coefficients.{listed_start, listed_ends}
use Rattle.coefficients.specs.Working.{entry, column, listed_column}

-- what the first j wires make of it
abbrev pub column_to : List ℕ → ℕ → ℕ → ℕ
column_to held j i = sum j (λ k. bit (entry held k) i * 2 ^ k)

-- one wire more, whose bit is shifted to its place
module _ (held : List ℕ) (i j state : ℕ) (e : state ≡ column_to held j i) (h : j < most_wires) where
  column_small : column_to held (suc j) i < 2 ^ 16
  column_small =
      let b : column_to held (suc j) i < 2 ^ suc j = digits_below (suc j) (λ k. bit (entry held k) i) (λ k. omega arith) in
      omega (arith, b, pow_mono {i = suc j} {j = most_wires} (omega arith))

  bit_placed : bit (entry held j) i * 2 ^ j % 65536 ≡ bit (entry held j) i * 2 ^ j
  bit_placed = mod-eq_of_lt (omega (arith, column_small))

  pub column_fits : state + bit (entry held j) i * 2 ^ j % 65536 < 2 ^ 16
  column_fits = omega (arith, e, bit_placed, column_small)

-- a circuit on w wires, what they hold kept for as many as there can be
module _ (w : ℕ) (gs : List Gate) (few : w ≤ most_wires) (sound : AllSound w gs) (held : List ℕ) (e : held ≡ numbers_from gs (own_numbers most_wires)) where
  pub held_long : length held ≡ most_wires
  held_long = ap length e ∙ length-numbers gs (own_numbers most_wires)

  front_long : length (take w held) ≡ w
  front_long = length-take-le w held (omega (arith, held_long))

  -- wire j's number, whose parity with a start is bit j of its end
  number : ℕ → ℕ
  number j = entry (take w held) j

  end_parity : (x j : ℕ) → j < w → bit (end_from gs x) j ≡ dot (number j) (start_of x)
  unfolding number
  end_parity x j l =
      wire_parity most_wires gs (all_wider w most_wires gs few sound) x j (omega arith)
      ∙ ap (λ (n : ℕ). dot n (start_of x))
      (sym (get_or-take w held j 0 l ∙ ap (λ (h : List ℕ). entry h j) e))

  -- a column is the state that has its bits
  is_state : (i s : ℕ) → s < 2 ^ w → ((j : ℕ) → j < w → bit (number j) i ≡ bit s j) → column (take w held) i ≡ s
  unfolding number
  is_state i s h b =
      ap (λ (n : ℕ). sum n (λ j. bit (entry (take w held) j) i * 2 ^ j)) front_long
      ∙ sum_of-ext 0 ◌+◌ w (λ j. bit (entry (take w held) j) i * 2 ^ j) (λ j. bit s j * 2 ^ j) (λ j l. ap (◌* 2 ^ j) (b j l)) ∙ digits w s ∙ mod-eq_of_lt h

  end_small : (x : ℕ) → x < 2 ^ w → end_from gs x < 2 ^ w
  end_small x h = end_below w gs x sound h

  -- the flips are the end of start 0
  flips_end : column (take w held) 0 ≡ end_from gs 0
  flips_end =
      is_state 0 (end_from gs 0) (end_small 0 (pow_pos w))
      (λ j l. sym (end_parity 0 j l ∙ dot_comm (number j) 1 ∙ dot_power 0 (number j)))

  -- the masks that contain wire i are where the ends of starts 2^i and 0 differ
  masks_end : (i : ℕ) → i < w → column (take w held) (suc i) ≡ bit_xor (end_from gs (2 ^ i)) (end_from gs 0)
  masks_end i k =
      is_state (suc i) (bit_xor (end_from gs (2 ^ i)) (end_from gs 0)) (xor_lt w (end_from gs (2 ^ i)) (end_from gs 0) (end_small (2 ^ i) (pow-lt k)) (end_small 0 (pow_pos w)))
      (λ j l. bits (number j) ∙ ap₂ (λ (a b : ℕ). (a + b) % 2) (sym (end_parity (2 ^ i) j l)) (sym (end_parity 0 j l)) ∙ sym (bit-xor (end_from gs (2 ^ i)) (end_from gs 0) j))
    where
      twice : (f d : ℕ) → (f * 0 + d) % 2 ≡ ((f + d) % 2 + (f + 0) % 2) % 2
      twice f d = omega arith

      bits : (n : ℕ) → bit n (suc i) ≡ (dot n (start_of (2 ^ i)) + dot n (start_of 0)) % 2
      bits n =
          sym (dot_power (suc i) n) ∙ dot_comm (2 ^ suc i) n ∙ dot_step n (2 ^ suc i)
          ∙ ap₂ (λ (a m : ℕ). (n % 2 * a + dot (n / 2) m) % 2) (let z : 2 ^ suc i % 2 ≡ 0 = omega arith in z) (let z : 2 ^ suc i / 2 ≡ 2 ^ i = omega arith in z)
          ∙ twice (n % 2) (dot (n / 2) (2 ^ i))
          ∙ ap₂ (λ (a b : ℕ). (a + b) % 2) (sym (dot_start n (2 ^ i))) (sym (dot_start n 0 ∙ ap (λ (d : ℕ). (n % 2 + d) % 2) (dot_comm (n / 2) 0 ∙ dot_none (n / 2))))

  listed : (i : ℕ) → i < suc w → listed_column (take w held) i ≡ end_from gs (listed_start i)
  listed zero k = flips_end
  listed (suc i) k =
      ap₂ bit_xor (masks_end i (omega arith)) flips_end ∙ xor_adds.assoc (end_from gs (2 ^ i)) (end_from gs 0) (end_from gs 0)
      ∙ ap (bit_xor (end_from gs (2 ^ i))) (xor_self (end_from gs 0)) ∙ xor_zero_r (end_from gs (2 ^ i))

  pub are_ends : (wires : ℕ) → wires ≡ w → list (length (take wires held) + 1) (listed_column (take wires held)) ≡ listed_ends w gs
  are_ends wires p =
      ap (λ (k : ℕ). list (length (take k held) + 1) (listed_column (take k held))) p
      ∙ ap (λ (k : ℕ). list k (listed_column (take w held))) (ap (◌+ 1) front_long ∙ add-one w) ∙ list_ext (suc w) (listed_column (take w held)) (λ i. end_from gs (listed_start i)) listed
