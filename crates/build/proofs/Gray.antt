-- Gray words: the paper's, flipping bit d_k, are k XOR k/2; they are the numbers 0 to 2^i - 1 in another order, and close.
use Rattle.std.proofs.Common.{◌≡◌, ℕ, zero, suc, ◌+◌, ◌-◌, ◌*◌, ◌/◌, ◌%◌, ◌^◌, ◌<◌, ◌≤◌, cond, sym, refl, ap, ◌∙◌, ap₂, pow-suc, add-one, arith, pow_pos, eq-eqb, ne_eqb}
use native.Mathlib.Nat.{mod-add-mod, add-mod_right, add-mul-mod_self_right, pow-succ'}
use native.Mathlib.Decide.{ℕ_discrete}
use lib.Bits.{bit_xor, xor_lt, xor_zero_r, xor_self}
use lib.Count.{count_trailing_zeros, under}
use Rattle.numbers.specs.Sums.{sum_of}
use Rattle.numbers.proofs.Sums.{Adds, sum_of-ext, sum_of-pairs}
use Rattle.numbers.proofs.Wires.{xor_low, xor_half}
use Rattle.build.specs.Gray.{turned, word}

abbrev pub gray : ℕ → ℕ
gray k = bit_xor k (k / 2)

gray_low : (k : ℕ) → gray k % 2 ≡ (k + k / 2) % 2
gray_low k = xor_low k (k / 2)

gray_half : (k : ℕ) → gray k / 2 ≡ gray (k / 2)
gray_half k = xor_half k (k / 2)

-- a number is its lowest bit and its half
by_digits : (a b : ℕ) → a % 2 ≡ b % 2 → a / 2 ≡ b / 2 → a ≡ b
by_digits a b p q = omega arith

low_digit : (g b : ℕ) → b < 2 → (g * 2 + b) % 2 ≡ b
low_digit g b h = omega arith

high_digits : (g b : ℕ) → b < 2 → (g * 2 + b) / 2 ≡ g
high_digits g b h = omega arith

pub gray_below : (i k : ℕ) → k < 2 ^ i → gray k < 2 ^ i
gray_below i k h = xor_lt i k (k / 2) h (omega arith)

-- flipping the bit of k + 1's trailing zeros is one step
gray_next : (j k : ℕ) → suc k < 2 ^ j → bit_xor (gray k) (2 ^ count_trailing_zeros j (suc k)) ≡ gray (suc k)
unfolding count_trailing_zeros
gray_next zero k h = absurd (omega arith)
gray_next (suc j) k h = by (suc k % 2) refl (gray_next j (k / 2))
  where
    by : (b : ℕ) → suc k % 2 ≡ b → (suc (k / 2) < 2 ^ j → bit_xor (gray (k / 2)) (2 ^ count_trailing_zeros j (suc (k / 2))) ≡ gray (suc (k / 2))) → bit_xor (gray k) (2 ^ count_trailing_zeros (suc j) (suc k)) ≡ gray (suc k)
    by zero e ih =
        let n : suc k / 2 ≡ suc (k / 2) = omega arith in
        let t = count_trailing_zeros j (suc k / 2) in
        let p : 2 ^ under (suc k % 2) t ≡ 2 * 2 ^ t = ap (λ (b : ℕ). 2 ^ under b t) e ∙ pow-succ' 2 t in
        rw p
        (by_digits (bit_xor (gray k) (2 * 2 ^ t)) (gray (suc k))
        (xor_low (gray k) (2 * 2 ^ t) ∙ (let z : (gray k + 2 * 2 ^ t) % 2 ≡ gray k % 2 = omega arith in z) ∙ gray_low k
        ∙ sym (gray_low (suc k) ∙ ap (◌% 2) (let z : suc k + suc k / 2 ≡ k + k / 2 + 2 = omega arith in z) ∙ add-mod_right (k + k / 2) 2))
        (xor_half (gray k) (2 * 2 ^ t) ∙ ap₂ bit_xor (gray_half k) (let q : 2 * 2 ^ t / 2 ≡ 2 ^ t = omega arith in q)
        ∙ ap (λ (m : ℕ). bit_xor (gray (k / 2)) (2 ^ count_trailing_zeros j m)) n ∙ ih (omega arith) ∙ ap gray (sym n) ∙ sym (gray_half (suc k))))
    by (suc b) e ih =
        let n : suc k / 2 ≡ k / 2 = omega arith in
        let t = count_trailing_zeros j (suc k / 2) in
        let p : 2 ^ under (suc k % 2) t ≡ 1 = ap (λ (b : ℕ). 2 ^ under b t) e in
        rw p
        (by_digits (bit_xor (gray k) 1) (gray (suc k))
        (xor_low (gray k) 1 ∙ sym (mod-add-mod (gray k) 2 1) ∙ ap (λ (m : ℕ). (m + 1) % 2) (gray_low k) ∙ mod-add-mod (k + k / 2) 2 1
        ∙ sym (gray_low (suc k) ∙ ap (◌% 2) (let z : suc k + suc k / 2 ≡ k + k / 2 + 1 = omega arith in z)))
        (xor_half (gray k) 1 ∙ xor_zero_r (gray k / 2) ∙ gray_half k ∙ ap gray (sym n) ∙ sym (gray_half (suc k))))

-- the paper's words
pub word_gray : (i k : ℕ) → k < 2 ^ i → word i k ≡ gray k
unfolding word turned
word_gray i zero h = refl
word_gray i (suc k) h =
    let t : turned i k ≡ count_trailing_zeros i (suc k) = ap (λ b. cond b (i - 1) (count_trailing_zeros i (suc k))) (ne_eqb (suc k) (2 ^ i) (omega arith)) in
    ap₂ (λ (v d : ℕ). bit_xor v (2 ^ d)) (word_gray i k (omega arith)) t ∙ gray_next i k h

-- the last word has the highest bit alone
gray_last : (j : ℕ) → gray (2 ^ suc j - 1) ≡ 2 ^ j
gray_last zero = refl
gray_last (suc j) =
    let q : ℕ = 2 ^ j - 1 in
    let e : 2 ^ j ≡ suc q = omega (arith, pow_pos j) in
    let k : 2 ^ suc (suc j) - 1 ≡ 2 * (2 * q + 1) + 1 = omega arith in
    let n : (2 * (2 * q + 1) + 1) / 2 ≡ 2 ^ suc j - 1 = omega arith in
    ap gray k
    ∙ by_digits (gray (2 * (2 * q + 1) + 1)) (2 ^ suc j) (gray_low (2 * (2 * q + 1) + 1) ∙ omega arith)
    (gray_half (2 * (2 * q + 1) + 1) ∙ ap gray n ∙ gray_last j ∙ omega arith)

-- "except that the last is i-1": so the words close
pub word_closes : (j : ℕ) → word (suc j) (2 ^ suc j) ≡ 0
unfolding word turned
word_closes j =
    let k : ℕ = 2 ^ suc j - 1 in
    let p = pow_pos j in
    let e : suc k ≡ 2 ^ suc j = omega arith in
    ap (word (suc j)) (sym e)
    ∙ ap₂ (λ (v d : ℕ). bit_xor v (2 ^ d)) (word_gray (suc j) k (omega arith) ∙ gray_last j)
    (ap (λ b. cond b (suc j - 1) (count_trailing_zeros (suc j) (suc k))) (eq-eqb (suc k) (2 ^ suc j) e) ∙ (let q : suc j - 1 ≡ j = omega arith in q))
    ∙ xor_self (2 ^ j)

pub word_below : (i k : ℕ) → k < 2 ^ i → word i k < 2 ^ i
word_below i k h = rw (word_gray i k h) (gray_below i k h)

trailing_less : (j n : ℕ) → 0 < n → n < 2 ^ j → count_trailing_zeros j n < j
unfolding count_trailing_zeros
trailing_less zero n p h = absurd (omega arith)
trailing_less (suc j) n p h = by (n % 2) refl (trailing_less j (n / 2))
  where
    by : (b : ℕ) → n % 2 ≡ b → (0 < n / 2 → n / 2 < 2 ^ j → count_trailing_zeros j (n / 2) < j) → under (n % 2) (count_trailing_zeros j (n / 2)) < suc j
    by zero e ih = rw e (let l = ih (omega arith) (omega arith) in omega arith)
    by (suc b) e ih = rw e (omega arith)

-- more digits than the number has change nothing
trailing_capped : (i j n : ℕ) → i ≤ j → 0 < n → n < 2 ^ i → count_trailing_zeros j n ≡ count_trailing_zeros i n
unfolding count_trailing_zeros
trailing_capped zero j n h p l = absurd (omega arith)
trailing_capped (suc i) zero n h p l = absurd (omega arith)
trailing_capped (suc i) (suc j) n h p l = by (n % 2) refl (trailing_capped i j (n / 2))
  where
    by : (b : ℕ) → n % 2 ≡ b → (i ≤ j → 0 < n / 2 → n / 2 < 2 ^ i → count_trailing_zeros j (n / 2) ≡ count_trailing_zeros i (n / 2)) → under (n % 2) (count_trailing_zeros j (n / 2)) ≡ under (n % 2) (count_trailing_zeros i (n / 2))
    by zero e ih = ap (under (n % 2)) (ih (omega arith) (omega arith) (omega arith))
    by (suc b) e ih = rw e refl

trailing_power : (i j : ℕ) → i ≤ j → count_trailing_zeros j (2 ^ i) ≡ i
unfolding count_trailing_zeros
trailing_power zero zero h = refl
trailing_power zero (suc j) h = refl
trailing_power (suc i) zero h = absurd (omega arith)
trailing_power (suc i) (suc j) h =
    ap₂ under (let e : 2 ^ suc i % 2 ≡ 0 = omega arith in e) (ap (count_trailing_zeros j) (let e : 2 ^ suc i / 2 ≡ 2 ^ i = omega arith in e) ∙ trailing_power i j (omega arith))

pub turned_last : (i k : ℕ) → suc k ≡ 2 ^ i → turned i k ≡ i - 1
unfolding turned
turned_last i k e = rw (eq-eqb (suc k) (2 ^ i) e)

pub turned_other : (i k : ℕ) → (suc k ≡ 2 ^ i → ⊥) → turned i k ≡ count_trailing_zeros i (suc k)
unfolding turned
turned_other i k e = rw (ne_eqb (suc k) (2 ^ i) e)

-- d_k from the zeros of a wide word: they reach i at the last k only
pub record Turning (i k zeros : ℕ) : Type 0 where
  pub within : zeros ≤ i
  pub other : zeros < i → zeros ≡ turned i k
  pub last : i ≤ zeros → i - 1 ≡ turned i k

pub turning : (i k : ℕ) → i ≤ 64 → k < 2 ^ i → Turning i k (count_trailing_zeros 64 (k + 1))
turning i k small h = by (ℕ_discrete (suc k) (2 ^ i))
  where
    by : Dec (suc k ≡ 2 ^ i) → Turning i k (count_trailing_zeros 64 (k + 1))
    by (yes p) =
        let z = ap (count_trailing_zeros 64) (add-one k ∙ p) ∙ trailing_power i 64 small in
        record { within = omega arith; other = λ l. absurd (omega arith); last = λ l. sym (turned_last i k p) }
    by (no p) =
        let z = ap (count_trailing_zeros 64) (add-one k) ∙ trailing_capped i 64 (suc k) small (omega arith) (omega arith) in
        let l = trailing_less i (suc k) (omega arith) (omega arith) in
        record { within = omega arith; other = λ m. z ∙ sym (turned_other i k p); last = λ m. absurd (omega arith) }

-- d_k is below i where there are words to flip
pub turned_below : (j k : ℕ) → k < 2 ^ suc j → turned (suc j) k < suc j
unfolding turned
turned_below j k h = by (ℕ_discrete (suc k) (2 ^ suc j))
  where
    by : Dec (suc k ≡ 2 ^ suc j) → turned (suc j) k < suc j
    by (yes e) = rw (eq-eqb (suc k) (2 ^ suc j) e) (omega arith)
    by (no e) = rw (ne_eqb (suc k) (2 ^ suc j) e) (trailing_less (suc j) (suc k) (omega arith) (omega arith))

same_low : (a b h : ℕ) → (a + h) % 2 ≡ (b + h) % 2 → a % 2 ≡ b % 2
same_low a b h e = omega arith

gray_same : (i a b : ℕ) → a < 2 ^ i → b < 2 ^ i → gray a ≡ gray b → a ≡ b
gray_same zero a b h k e = omega arith
gray_same (suc i) a b h k e =
    let q : a / 2 ≡ b / 2 = gray_same i (a / 2) (b / 2) (omega arith) (omega arith) (sym (gray_half a) ∙ ap (◌/ 2) e ∙ gray_half b) in
    by_digits a b (same_low a b (a / 2) (sym (gray_low a) ∙ ap (◌% 2) e ∙ gray_low b ∙ ap (λ (m : ℕ). (b + m) % 2) (sym q))) q

-- "The Gray words of i bits are a permutation of 0 to 2^i - 1": below 2^i (word_below), and no two alike
pub words_distinct : (i j k : ℕ) → j < 2 ^ i → k < 2 ^ i → word i j ≡ word i k → j ≡ k
words_distinct i j k h l e = gray_same i j k h l (sym (word_gray i j h) ∙ e ∙ word_gray i k l)

odd_low : (k : ℕ) → (k * 2 + 1 + (k * 2 + 1) / 2) % 2 ≡ 1 - k % 2
odd_low k =
    ap (◌% 2) (let e : k * 2 + 1 + (k * 2 + 1) / 2 ≡ k + 1 + k * 2 = omega arith in e) ∙ add-mul-mod_self_right (k + 1) k 2
    ∙ (let e : (k + 1) % 2 ≡ 1 - k % 2 = omega arith in e)

module _ {A : Type 0} (none : A) (add : A → A → A) (laws : Adds none add) where
  -- 2k and 2k + 1 have the words 2g and 2g + 1, in one order or the other
  pair : (F : ℕ → A) (k : ℕ) → add (F (gray (k * 2))) (F (gray (k * 2 + 1))) ≡ add (F (gray k * 2)) (F (gray k * 2 + 1))
  pair F k = by (k % 2) refl
    where
      bit₀ : k % 2 < 2
      bit₀ = omega arith

      even : gray (k * 2) ≡ gray k * 2 + k % 2
      even =
          by_digits (gray (k * 2)) (gray k * 2 + k % 2)
          (gray_low (k * 2) ∙ (let e : (k * 2 + k * 2 / 2) % 2 ≡ k % 2 = omega arith in e) ∙ sym (low_digit (gray k) (k % 2) bit₀))
          (gray_half (k * 2) ∙ ap gray (let e : k * 2 / 2 ≡ k = omega arith in e) ∙ sym (high_digits (gray k) (k % 2) bit₀))

      odd : gray (k * 2 + 1) ≡ gray k * 2 + (1 - k % 2)
      odd =
          by_digits (gray (k * 2 + 1)) (gray k * 2 + (1 - k % 2))
          (gray_low (k * 2 + 1) ∙ odd_low k ∙ sym (low_digit (gray k) (1 - k % 2) (omega arith)))
          (gray_half (k * 2 + 1) ∙ ap gray (let e : (k * 2 + 1) / 2 ≡ k = omega arith in e) ∙ sym (high_digits (gray k) (1 - k % 2) (omega arith)))

      by : (b : ℕ) → k % 2 ≡ b → add (F (gray (k * 2))) (F (gray (k * 2 + 1))) ≡ add (F (gray k * 2)) (F (gray k * 2 + 1))
      by zero e = ap₂ (λ (x y : ℕ). add (F x) (F y)) (even ∙ omega arith) (odd ∙ omega arith)
      by (suc b) e = ap₂ (λ (x y : ℕ). add (F x) (F y)) (even ∙ (let q : gray k * 2 + k % 2 ≡ gray k * 2 + 1 = omega arith in q)) (odd ∙ (let q : gray k * 2 + (1 - k % 2) ≡ gray k * 2 = omega arith in q)) ∙ laws.comm (F (gray k * 2 + 1)) (F (gray k * 2))

  gray_sum : (i : ℕ) (F : ℕ → A) → sum_of none add (2 ^ i) (λ k. F (gray k)) ≡ sum_of none add (2 ^ i) F
  gray_sum zero F = refl
  gray_sum (suc i) F =
      ap (λ (m : ℕ). sum_of none add m (λ k. F (gray k))) (pow-suc 2 i) ∙ sum_of-pairs none add laws (2 ^ i) (λ k. F (gray k))
      ∙ sum_of-ext none add (2 ^ i) (λ k. add (F (gray (k * 2))) (F (gray (k * 2 + 1)))) (λ k. add (F (gray k * 2)) (F (gray k * 2 + 1))) (λ k h. pair F k)
      ∙ gray_sum i (λ j. add (F (j * 2)) (F (j * 2 + 1)))
      ∙ sym (ap (λ (m : ℕ). sum_of none add m F) (pow-suc 2 i) ∙ sum_of-pairs none add laws (2 ^ i) F)

  -- so a sum over the words is the sum over the numbers
  pub words_sum : (i : ℕ) (F : ℕ → A) → sum_of none add (2 ^ i) (λ k. F (word i k)) ≡ sum_of none add (2 ^ i) F
  words_sum i F = sum_of-ext none add (2 ^ i) (λ k. F (word i k)) (λ k. F (gray k)) (λ k h. ap F (word_gray i k h)) ∙ gray_sum i F
