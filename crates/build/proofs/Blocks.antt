-- One block law for steps 2 and 3: the masks through a block, all wires restored after it, and a sum over its phase gates.
use Rattle.std.proofs.Common.{◌≡◌, ℕ, zero, suc, ◌+◌, ◌*◌, ◌^◌, ◌<◌, ◌≤◌, List, [], ◌∷◌, length, get_or, set, sym, ap, ◌∙◌, ap₂, add-zero, add_comm, arith, get_or-set_other, get_or-set_same, set-set}
use lib.Seq.{set-get_or}
use lib.Bits.{bit_xor, xor_block}
use lib.Pow.{pow-lt}
use Rattle.numbers.specs.Sums.{sum}
use Rattle.numbers.proofs.Sums.{ℕ-adds}
use Rattle.numbers.proofs.Lists.{length-list, get_or-list}
use Rattle.circuit.specs.declared.Gate.{Gate}
use Rattle.circuit.specs.declared.Gate.TheVariants.{Cnot, Phase}
use Rattle.running.specs.Working.{own_masks, numbers_after, numbers_from, sum_numbers}
use Rattle.running.proofs.Masks.{numbers_none, numbers_cons, numbers_append, sum_none, sum_cons, sum_append}
use Rattle.build.specs.Gray.{turned, word}
use Rattle.build.specs.Construction.{in_turn, cnot_after, block}
use Rattle.build.proofs.Gray.{word_below, word_closes, turned_below, words_sum}

own_at : (w i : ℕ) → i < w → get_or (own_masks w) i 0 ≡ 2 ^ i
own_at w i h = get_or-list w (λ j. 2 ^ j) i 0 h

-- wire i holds its own bit and the word v
abbrev holding : ℕ → ℕ → ℕ → List ℕ
holding w i v = set (own_masks w) i (2 ^ i + v)

module _ (w i : ℕ) (h : i < w) where
  own_long : i < length (own_masks w)
  own_long = omega (arith, length-list w (λ (j : ℕ). 2 ^ j))

  holding_none : holding w i 0 ≡ own_masks w
  holding_none = ap (set (own_masks w) i) (add-zero (2 ^ i) ∙ sym (own_at w i h)) ∙ set-get_or (own_masks w) i 0

  holding_at : (v : ℕ) → get_or (holding w i v) i 0 ≡ 2 ^ i + v
  holding_at v = get_or-set_same (own_masks w) i (2 ^ i + v) 0 own_long

  -- a CNOT from wire d below i flips bit d of the word
  mixes_word : (v d : ℕ) → v < 2 ^ i → d < i → bit_xor (2 ^ i + v) (2 ^ d) ≡ 2 ^ i + bit_xor v (2 ^ d)
  mixes_word v d hv hd =
      ap₂ bit_xor (let e : 2 ^ i + v ≡ 1 * 2 ^ i + v = omega arith in e) (let e : 2 ^ d ≡ 0 * 2 ^ i + 2 ^ d = omega arith in e)
      ∙ xor_block i 1 0 v (2 ^ d) hv (pow-lt hd) ∙ (let e : 1 * 2 ^ i + bit_xor v (2 ^ d) ≡ 2 ^ i + bit_xor v (2 ^ d) = omega arith in e)

  cnot_masks : (v d : ℕ) → v < 2 ^ i → d < i → numbers_after (Cnot d i) (holding w i v) ≡ holding w i (bit_xor v (2 ^ d))
  cnot_masks v d hv hd =
      ap₂ (λ (a b : ℕ). set (holding w i v) i (bit_xor a b)) (holding_at v) (get_or-set_other (own_masks w) i d (2 ^ i + v) 0 (omega arith) ∙ own_at w d (omega arith))
      ∙ ap (set (holding w i v) i) (mixes_word v d hv hd) ∙ set-set (own_masks w) i (2 ^ i + v) (2 ^ i + bit_xor v (2 ^ d))

-- the gates of one k
abbrev pub pair_at : ℕ → (ℕ → ℕ) → ℕ → List Gate
pair_at i angle_at k = Phase i (angle_at (word i k)) ∷ cnot_after i k

module _ (w j : ℕ) (h : suc j < w) (angle_at : ℕ → ℕ) (f : ℕ → ℕ → ℕ) where
  pair_masks : (k : ℕ) → k < 2 ^ suc j → numbers_from (pair_at (suc j) angle_at k) (holding w (suc j) (word (suc j) k)) ≡ holding w (suc j) (word (suc j) (suc k))
  unfolding word
  pair_masks k l =
      numbers_cons (Phase (suc j) (angle_at (word (suc j) k))) (cnot_after (suc j) k) (holding w (suc j) (word (suc j) k))
      ∙ numbers_cons (Cnot (turned (suc j) k) (suc j)) [] (holding w (suc j) (word (suc j) k))
      ∙ numbers_none (numbers_after (Cnot (turned (suc j) k) (suc j)) (holding w (suc j) (word (suc j) k)))
      ∙ cnot_masks w (suc j) h (word (suc j) k) (turned (suc j) k) (word_below (suc j) k l) (turned_below j k l)

  pair_sum : (k : ℕ) → sum_numbers f (pair_at (suc j) angle_at k) (holding w (suc j) (word (suc j) k)) ≡ f (2 ^ suc j + word (suc j) k) (angle_at (word (suc j) k))
  pair_sum k =
      let v = word (suc j) k in
      sum_cons f (Phase (suc j) (angle_at v)) (cnot_after (suc j) k) (holding w (suc j) v)
      ∙ ap₂ ◌+◌ (ap (λ (m : ℕ). f m (angle_at v)) (holding_at w (suc j) h v))
      (sum_cons f (Cnot (turned (suc j) k) (suc j)) [] (holding w (suc j) v) ∙ ap (0 +◌) (sum_none f (numbers_after (Cnot (turned (suc j) k) (suc j)) (holding w (suc j) v))))
      ∙ add-zero (f (2 ^ suc j + v) (angle_at v))

  some_masks : (m : ℕ) → m ≤ 2 ^ suc j → numbers_from (in_turn m (pair_at (suc j) angle_at)) (own_masks w) ≡ holding w (suc j) (word (suc j) m)
  unfolding word
  some_masks zero l = numbers_none (own_masks w) ∙ sym (holding_none w (suc j) h)
  some_masks (suc m) l =
      numbers_append (in_turn m (pair_at (suc j) angle_at)) (pair_at (suc j) angle_at m) (own_masks w)
      ∙ ap (numbers_from (pair_at (suc j) angle_at m)) (some_masks m (omega arith)) ∙ pair_masks m l

  some_sum : (m : ℕ) → m ≤ 2 ^ suc j → sum_numbers f (in_turn m (pair_at (suc j) angle_at)) (own_masks w) ≡ sum m (λ k. f (2 ^ suc j + word (suc j) k) (angle_at (word (suc j) k)))
  some_sum zero l = sum_none f (own_masks w)
  some_sum (suc m) l =
      sum_append f (in_turn m (pair_at (suc j) angle_at)) (pair_at (suc j) angle_at m) (own_masks w)
      ∙ ap₂ ◌+◌ (some_sum m (omega arith)) (ap (sum_numbers f (pair_at (suc j) angle_at m)) (some_masks m (omega arith)) ∙ pair_sum m)

-- all wires are as they were
pub block_masks : (w i : ℕ) → i < w → (angle_at : ℕ → ℕ) → numbers_from (block i angle_at) (own_masks w) ≡ own_masks w
block_masks w zero h angle_at = numbers_cons (Phase 0 (angle_at (word 0 0))) [] (own_masks w) ∙ numbers_none (own_masks w)
block_masks w (suc j) h angle_at =
    some_masks w j h angle_at (λ m a. 0) (2 ^ suc j) (omega arith) ∙ ap (holding w (suc j)) (word_closes j) ∙ holding_none w (suc j) h

block_words : (w i : ℕ) → i < w → (angle_at : ℕ → ℕ) (f : ℕ → ℕ → ℕ) → sum_numbers f (block i angle_at) (own_masks w) ≡ sum (2 ^ i) (λ k. f (2 ^ i + word i k) (angle_at (word i k)))
unfolding word
block_words w zero h angle_at f =
    sum_cons f (Phase 0 (angle_at 0)) [] (own_masks w) ∙ ap₂ ◌+◌ (ap (λ (m : ℕ). f m (angle_at 0)) (own_at w 0 h)) (sum_none f (own_masks w))
    ∙ add_comm (f 1 (angle_at 0)) 0
block_words w (suc j) h angle_at f = some_sum w j h angle_at f (2 ^ suc j) (omega arith)

-- the phase gates of a block meet the masks 2^i + v, each v below 2^i once, with the angle at v
pub block_sum : (w i : ℕ) → i < w → (angle_at : ℕ → ℕ) (f : ℕ → ℕ → ℕ) → sum_numbers f (block i angle_at) (own_masks w) ≡ sum (2 ^ i) (λ v. f (2 ^ i + v) (angle_at v))
block_sum w i h angle_at f = block_words w i h angle_at f ∙ words_sum 0 ◌+◌ ℕ-adds i (λ v. f (2 ^ i + v) (angle_at v))
