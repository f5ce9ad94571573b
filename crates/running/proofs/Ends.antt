-- A circuit's wires come back exactly where it has no loose wire, and exactly where every start ends as it starts.
use Rattle.std.proofs.Common.{◌≡◌, ℕ, suc, ◌+◌, ◌*◌, ◌/◌, ◌%◌, ◌^◌, ◌<◌, ◌≤◌, true, false, eqb, ◌↔◌, List, get_or, sym, ap, ◌∙◌, ap₂, one-mul, zero-mul, arith, pow_pos}
use native.Mathlib.Decide.{ℕ_discrete}
use lib.Pow.{pow-lt}
use Rattle.numbers.specs.Bits.{bit, dot, equal}
use Rattle.numbers.specs.Search.{least}
use Rattle.numbers.specs.Working.{unlike}
use Rattle.numbers.proofs.Parity.{dot_below, dot_comm, dot_none, equal_yes, equal_no}
use Rattle.numbers.proofs.Wires.{bit_own, bit_other, dot_power, same_bits}
use Rattle.numbers.proofs.Search.{Lowest, lowest_one, lowest_map, lowest_found, unlike_found}
use Rattle.circuit.specs.declared.Gate.{Gate}
use Rattle.circuit.specs.Working.{AllSound}
use Rattle.running.specs.Run.{end_from}
use Rattle.running.specs.Masks.{Held, held, most_wires}
use Rattle.running.specs.Groups.{same_held}
use Rattle.running.specs.Ends.{held_at_end, loose, lowest_loose, ComesBack, EndsAsItStarts}
use Rattle.running.specs.Working.{number_of, held_of, own_numbers, numbers_from}
use Rattle.running.proofs.Runs.{end_below}
use Rattle.running.proofs.Masks.{own_below, numbers_below, own_alike, alike_from}
use Rattle.running.proofs.Held.{same_number, held_number, number_at, held_parity}

-- a wire's own mask as a number
own_number : (i : ℕ) → held (2 ^ i) 0 ≡ held_of (2 ^ suc i)
own_number i = ap₂ held (let e : 2 ^ i ≡ 2 ^ suc i / 2 = omega arith in e) (let e : 0 ≡ 2 ^ suc i % 2 = omega arith in e)

module _ (w : ℕ) (gs : List Gate) where
  -- what wire i holds at the end, as a number
  abbrev number : ℕ → ℕ
  number i = get_or (numbers_from gs (own_numbers w)) i 0

  number_own : (i : ℕ) → held_at_end w gs i ≡ held (2 ^ i) 0 → number i ≡ 2 ^ suc i
  number_own i e = sym (number_at w gs i) ∙ ap number_of e ∙ (let z : 2 * 2 ^ i + 0 ≡ 2 ^ suc i = omega arith in z)

  own_again : (i : ℕ) → number i ≡ 2 ^ suc i → held_at_end w gs i ≡ held (2 ^ i) 0
  own_again i e = held_number w gs i ∙ ap held_of e ∙ sym (own_number i)

  -- the test is on the number
  loose_number : (i : ℕ) → loose w gs i ≡ eqb (equal (number i) (2 ^ suc i)) 0
  loose_number i = ap (λ (n : ℕ). eqb n 0) (ap₂ same_held (held_number w gs i) (own_number i) ∙ same_number (number i) (2 ^ suc i))

  -- the lowest loose wire is the lowest whose number is not its own
  loose_found : Lowest (λ i. number i ≡ 2 ^ suc i) w (lowest_loose w gs)
  loose_found = lowest_found (loose w gs) (λ i. number i ≡ 2 ^ suc i) tight apart w
    where
      tight : (i : ℕ) → loose w gs i ≡ false → number i ≡ 2 ^ suc i
      tight i t = by (ℕ_discrete (number i) (2 ^ suc i))
        where
          by : Dec (number i ≡ 2 ^ suc i) → number i ≡ 2 ^ suc i
          by (yes e) = e
          by (no e) = let z : true ≡ false = sym (loose_number i ∙ ap (λ (n : ℕ). eqb n 0) (equal_no e)) ∙ t in let y : ◌≡◌ {A = ℕ} 0 1 = cc in absurd (omega arith)

      apart : (i : ℕ) → loose w gs i ≡ true → number i ≡ 2 ^ suc i → ⊥
      apart i t e = let z : false ≡ true = sym (loose_number i ∙ ap (λ (n : ℕ). eqb n 0) (equal_yes e)) ∙ t in let y : ◌≡◌ {A = ℕ} 0 1 = cc in omega arith

  -- 02 §8: no wire is loose exactly where all come back
  pub back_exactly : (w ≤ lowest_loose w gs) ↔ ComesBack w gs
  back_exactly = (
    λ h i l. own_again i (loose_found.before i (omega arith)),
    λ b. let e = lowest_one (λ i. number i ≡ 2 ^ suc i) w (lowest_loose w gs) w loose_found (record { within = omega arith; before = λ i l. number_own i (b i l); there = λ l. absurd (omega arith) }) in omega arith,
  )

  module _ (h : AllSound w gs) where
    -- a mask has a bit for each wire, and a flip is one bit
    mask_below : (i : ℕ) → (held_at_end w gs i).mask < 2 ^ w
    mask_below i = rw (held_number w gs i) (let l = numbers_below w gs (own_numbers w) (own_below w) i in omega arith)

    flip_below : (i : ℕ) → (held_at_end w gs i).flip < 2
    flip_below i = rw (held_number w gs i) (omega arith)

    -- where all wires come back a start's bits are its end's
    pub back_ends : ComesBack w gs → EndsAsItStarts w gs
    back_ends b x l = same_bits w (end_from gs x) x (end_below w gs x h l) l same
      where
        same : (i : ℕ) → i < w → bit (end_from gs x) i ≡ bit x i
        same i k =
            held_parity w gs h x i k ∙ ap (λ (q : Held). (q.flip + dot q.mask x) % 2) (b i k)
            ∙ (let e : (0 + dot (2 ^ i) x) % 2 ≡ dot (2 ^ i) x = omega (arith, dot_below (2 ^ i) x) in e) ∙ dot_power i x

    module _ (ends : EndsAsItStarts w gs) (i : ℕ) (k : i < w) where
      -- start 0 shows the flip
      no_flip : (held_at_end w gs i).flip ≡ 0
      no_flip =
          let p = held_parity w gs h 0 i k in
          let z : bit (end_from gs 0) i ≡ 0 = ap (λ (n : ℕ). bit n i) (ends 0 (pow_pos w) ∙ sym (zero-mul (2 ^ i))) ∙ bit_own 0 i (omega arith) in
          let d : dot (held_at_end w gs i).mask 0 ≡ 0 = dot_comm (held_at_end w gs i).mask 0 ∙ dot_none (held_at_end w gs i).mask in
          omega (arith, flip_below i)

      -- and start 2^j the mask's bit j
      mask_bit : (j : ℕ) → j < w → bit (held_at_end w gs i).mask j ≡ bit (2 ^ j) i
      mask_bit j l =
          let p = held_parity w gs h (2 ^ j) i k in
          let d : dot (held_at_end w gs i).mask (2 ^ j) ≡ bit (held_at_end w gs i).mask j = dot_comm (held_at_end w gs i).mask (2 ^ j) ∙ dot_power j (held_at_end w gs i).mask in
          let e : bit (end_from gs (2 ^ j)) i ≡ bit (2 ^ j) i = ap (λ (n : ℕ). bit n i) (ends (2 ^ j) (pow-lt l)) in
          omega (arith, no_flip, dot_below (held_at_end w gs i).mask (2 ^ j))

      own_mask : (held_at_end w gs i).mask ≡ 2 ^ i
      own_mask = same_bits w (held_at_end w gs i).mask (2 ^ i) (mask_below i) (pow-lt k) (λ j l. mask_bit j l ∙ by j (ℕ_discrete j i))
        where
          by : (j : ℕ) → Dec (j ≡ i) → bit (2 ^ j) i ≡ bit (2 ^ i) j
          by j (yes e) = rw e
          by j (no e) = apart j i e ∙ sym (apart i j (λ q. e (sym q)))
            where
              apart : (m n : ℕ) → (m ≡ n → ⊥) → bit (2 ^ m) n ≡ 0
              apart m n q = ap (λ (x : ℕ). bit x n) (sym (one-mul (2 ^ m))) ∙ bit_other 1 m n (omega arith) (λ r. q (sym r))

    -- where every start ends as it starts all wires come back
    pub ends_back : EndsAsItStarts w gs → ComesBack w gs
    ends_back ends i k = ap₂ held (own_mask ends i k) (no_flip ends i k)

    -- as the code asks: of numbers that may be those of more wires than the circuit has
    pub loose_asked : (few : w ≤ most_wires) → least (unlike (λ i. get_or (numbers_from gs (own_numbers most_wires)) i 0) (λ i. 2 ^ suc i)) w 0 ≡ lowest_loose w gs
    loose_asked few =
        let a = alike_from w gs (own_numbers most_wires) (own_numbers w) h (own_alike most_wires w few) in
        let ns : ℕ → ℕ = λ i. get_or (numbers_from gs (own_numbers most_wires)) i 0 in
        lowest_one (λ i. number i ≡ 2 ^ suc i) w (least (unlike ns (λ i. 2 ^ suc i)) w 0) (lowest_loose w gs)
        (lowest_map (λ i. ns i ≡ 2 ^ suc i) (λ i. number i ≡ 2 ^ suc i) w (least (unlike ns (λ i. 2 ^ suc i)) w 0) (λ i l e. sym (a.same i l) ∙ e) (λ i l e. a.same i l ∙ e) (unlike_found ns (λ i. 2 ^ suc i) w))
        loose_found
