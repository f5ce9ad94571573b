-- Construction 1 as a gate list: how long it is, that it is sound, that its wires are restored, and which masks it meets.
use Rattle.std.proofs.Common.{◌≡◌, ℕ, zero, suc, ◌+◌, ◌-◌, ◌*◌, ◌^◌, ◌<◌, ◌≤◌, List, [], ◌∷◌, ◌++◌, length, pos, ◌*ℤ◌, sym, refl, ap, ◌∙◌, ap₂, add-zero, add_assoc, suc-mul, add_comm, zero-add, zero-mul, arith, length-append, pow_mono, pow-add}
use native.Mathlib.Nat.{two-pow-succ}
use Rattle.numbers.specs.Sums.{sum}
use Rattle.numbers.proofs.Sums.{ℕ-adds, sum_of-map, sum_of-ext, sum_of-split}
use Rattle.numbers.proofs.Lists.{get_or-list}
use Rattle.numbers.proofs.Turns.{difference_below, wrap_below}
use Rattle.spectrum.specs.Spectrum.{coefficient, theta}
use Rattle.circuit.specs.declared.Gate.{Gate}
use Rattle.circuit.specs.declared.Gate.TheVariants.{Phase}
use Rattle.circuit.specs.Working.{AllSound, AllAdmitted}
use Rattle.circuit.specs.File.{file_of}
use Rattle.running.specs.Working.{own_masks, numbers_from, sum_numbers}
use Rattle.circuit.proofs.Decoding.{sound_cons, sound_append, admitted_cons, admitted_append}
use Rattle.circuit.proofs.Files.{length-file}
use Rattle.running.proofs.Masks.{numbers_none, numbers_cons, numbers_append, sum_none, sum_cons, sum_append}
use Rattle.build.specs.Gray.{word}
use Rattle.build.specs.Construction.{in_turn, cnot_after, block, minus, first_quarter, variables, target, construction}
use Rattle.build.specs.Working.{parts}
use Rattle.build.proofs.Gray.{turned_below, word_below}
use Rattle.build.proofs.Blocks.{pair_at, block_masks, block_sum}

-- ---- how many gates

pub length-in_turn : (m : ℕ) (F : ℕ → List Gate) → length (in_turn m F) ≡ sum m (λ k. length (F k))
length-in_turn m F = sum_of-map [] ◌++◌ 0 ◌+◌ length refl length-append m F

pub sum_same : (m c : ℕ) → sum m (λ k. c) ≡ m * c
sum_same zero c = sym (zero-mul c)
sum_same (suc m) c = ap (◌+ c) (sum_same m c) ∙ sym (suc-mul m c)

pub length-block : (j : ℕ) (angle_at : ℕ → ℕ) → length (block (suc j) angle_at) ≡ 2 ^ suc j * 2
length-block j angle_at = length-in_turn (2 ^ suc j) (pair_at (suc j) angle_at) ∙ sum_same (2 ^ suc j) 2

pub length-variables : (m : ℕ) (angle_at : ℕ → ℕ) → length (variables (suc m) angle_at) + 3 ≡ 2 ^ suc (suc m)
length-variables zero angle_at = refl
length-variables (suc m) angle_at =
    ap (◌+ 3) (length-append (variables (suc m) angle_at) (block (suc m) (λ v. angle_at (2 ^ suc m + v))))
    ∙ omega (arith, length-variables m angle_at, length-block m (λ (v : ℕ). angle_at (2 ^ suc m + v)))

-- "The gates number 2^(n+2) - 2", whatever the angles
pub length-parts : (n : ℕ) (a b : ℕ → ℕ) → 0 < n → length (parts n a b) + 2 ≡ 2 ^ (n + 2)
length-parts zero a b p = absurd (omega arith)
length-parts (suc m) a b p =
    ap (◌+ 2) (length-append (first_quarter (suc m) ++ variables (suc m) a) (block (suc m) b) ∙ ap (◌+ length (block (suc m) b)) (length-append (first_quarter (suc m)) (variables (suc m) a)))
    ∙ omega (arith, length-variables m a, length-block m b, pow-add 2 (suc m) 2)

-- "the file is 2^(n+4) bytes"
pub length-parts_file : (n : ℕ) (a b : ℕ → ℕ) → 0 < n → length (file_of 1 (n + 1) (parts n a b)) ≡ 2 ^ (n + 4)
length-parts_file n a b p = omega (arith, length-file 1 (n + 1) (parts n a b), length-parts n a b p, pow-add 2 n 2, pow-add 2 n 4)

-- ---- sound on n + 1 wires

sound_in_turn : (w m : ℕ) (F : ℕ → List Gate) → ((k : ℕ) → k < m → AllSound w (F k)) → AllSound w (in_turn m F)
unfolding AllSound
sound_in_turn w zero F h = tt
sound_in_turn w (suc m) F h = sound_append w (in_turn m F) (F m) (sound_in_turn w m F (λ k l. h k (omega arith))) (h m (omega arith))

abbrev Angles : (ℕ → ℕ) → Type 0
Angles angle_at = (v : ℕ) → angle_at v < 65536

sound_cnot : (w i k : ℕ) → i < w → k < 2 ^ i → AllSound w (cnot_after i k)
unfolding AllSound
sound_cnot w zero k h l = tt
sound_cnot w (suc j) k h l = ((omega (arith, turned_below j k l), h, omega (arith, turned_below j k l)), tt)

pub sound_block : (w i : ℕ) (angle_at : ℕ → ℕ) → i < w → Angles angle_at → AllSound w (block i angle_at)
sound_block w i angle_at h a =
    sound_in_turn w (2 ^ i) (pair_at i angle_at)
    (λ k l. sound_cons w (Phase i (angle_at (word i k))) (cnot_after i k) (h, a (word i k)) (sound_cnot w i k h l))

pub theta_below : (n : ℕ) (f : ℕ → ℕ) (k : ℕ) → theta n f k < 65536
theta_below n f k = wrap_below (coefficient n f k *ℤ pos (2 ^ (14 - n)))

pub sound_construction : (n : ℕ) (f : ℕ → ℕ) → AllSound (n + 1) (construction n f)
unfolding construction AllSound
sound_construction n f =
    let θ = theta n f in
    sound_append (n + 1) (first_quarter n) (variables n θ ++ target n θ) ((omega arith, omega arith), tt)
    (sound_append (n + 1) (variables n θ) (target n θ)
    (sound_in_turn (n + 1) n (λ i. block i (λ v. θ (2 ^ i + v))) (λ i h. sound_block (n + 1) i (λ v. θ (2 ^ i + v)) (omega arith) (λ v. theta_below n f (2 ^ i + v))))
    (sound_block (n + 1) n (λ v. minus (θ v)) (omega arith) (λ v. difference_below 0 (θ v))))

-- ---- without an inverter

admitted_in_turn : (v m : ℕ) (F : ℕ → List Gate) → ((k : ℕ) → AllAdmitted v (F k)) → AllAdmitted v (in_turn m F)
unfolding AllAdmitted
admitted_in_turn v zero F h = tt
admitted_in_turn v (suc m) F h = admitted_append v (in_turn m F) (F m) (admitted_in_turn v m F h) (h m)

admitted_cnot : (v i k : ℕ) → AllAdmitted v (cnot_after i k)
unfolding AllAdmitted
admitted_cnot v zero k = tt
admitted_cnot v (suc j) k = (tt, tt)

pub admitted_block : (v i : ℕ) (angle_at : ℕ → ℕ) → AllAdmitted v (block i angle_at)
admitted_block v i angle_at = admitted_in_turn v (2 ^ i) (pair_at i angle_at) (λ k. admitted_cons v (Phase i (angle_at (word i k))) (cnot_after i k) tt (admitted_cnot v i k))

pub admitted_construction : (v n : ℕ) (f : ℕ → ℕ) → AllAdmitted v (construction n f)
unfolding construction AllAdmitted
admitted_construction v n f =
    let θ = theta n f in
    admitted_append v (first_quarter n) (variables n θ ++ target n θ) (tt, tt)
    (admitted_append v (variables n θ) (target n θ) (admitted_in_turn v n (λ i. block i (λ k. θ (2 ^ i + k))) (λ i. admitted_block v i (λ k. θ (2 ^ i + k)))) (admitted_block v n (λ k. minus (θ k))))

-- ---- the masks

variables_masks : (w n : ℕ) (angle_at : ℕ → ℕ) → n ≤ w → numbers_from (variables n angle_at) (own_masks w) ≡ own_masks w
variables_masks w zero angle_at h = numbers_none (own_masks w)
variables_masks w (suc n) angle_at h =
    numbers_append (variables n angle_at) (block n (λ v. angle_at (2 ^ n + v))) (own_masks w)
    ∙ ap (numbers_from (block n (λ v. angle_at (2 ^ n + v)))) (variables_masks w n angle_at (omega arith)) ∙ block_masks w n (omega arith) (λ v. angle_at (2 ^ n + v))

-- the blocks' masks are all numbers from 1 on, each once
blocks_merge : (n : ℕ) (F : ℕ → ℕ) → F 0 + sum n (λ i. sum (2 ^ i) (λ v. F (2 ^ i + v))) ≡ sum (2 ^ n) F
blocks_merge zero F = add_comm (F 0) 0
blocks_merge (suc n) F =
    sym (add_assoc (F 0) (sum n (λ i. sum (2 ^ i) (λ v. F (2 ^ i + v)))) (sum (2 ^ n) (λ v. F (2 ^ n + v))))
    ∙ ap (◌+ sum (2 ^ n) (λ v. F (2 ^ n + v))) (blocks_merge n F) ∙ sym (ap (λ (m : ℕ). sum m F) (two-pow-succ n) ∙ sum_of-split 0 ◌+◌ ℕ-adds (2 ^ n) (2 ^ n) F)

variables_sum : (w n : ℕ) (angle_at : ℕ → ℕ) (g : ℕ → ℕ → ℕ) → n ≤ w
    → sum_numbers g (variables n angle_at) (own_masks w) ≡ sum n (λ i. sum (2 ^ i) (λ v. g (2 ^ i + v) (angle_at (2 ^ i + v))))
variables_sum w zero angle_at g h = sum_none g (own_masks w)
variables_sum w (suc n) angle_at g h =
    sum_append g (variables n angle_at) (block n (λ v. angle_at (2 ^ n + v))) (own_masks w)
    ∙ ap₂ ◌+◌ (variables_sum w n angle_at g (omega arith))
    (ap (sum_numbers g (block n (λ v. angle_at (2 ^ n + v)))) (variables_masks w n angle_at (omega arith)) ∙ block_sum w n (omega arith) (λ v. angle_at (2 ^ n + v)) g)

module _ (n : ℕ) (f : ℕ → ℕ) where
  abbrev own : List ℕ
  own = own_masks (n + 1)

  -- "The wires are restored": every wire ends on its own mask
  pub construction_masks : numbers_from (construction n f) own ≡ own
  unfolding construction
  construction_masks =
      let θ = theta n f in
      numbers_append (first_quarter n) (variables n θ ++ target n θ) own
      ∙ ap (numbers_from (variables n θ ++ target n θ)) (numbers_cons (Phase n 16384) [] own ∙ numbers_none own)
      ∙ numbers_append (variables n θ) (target n θ) own ∙ ap (numbers_from (target n θ)) (variables_masks (n + 1) n θ (omega arith))
      ∙ block_masks (n + 1) n (omega arith) (λ v. minus (θ v))

  -- a sum over its phase gates: the first quarter turn, every k from 1 on with theta at k, and every 2^n + v with minus theta at v
  pub construction_sum : (g : ℕ → ℕ → ℕ) → g 0 (theta n f 0) ≡ 0
      → sum_numbers g (construction n f) own ≡ g (2 ^ n) 16384 + (sum (2 ^ n) (λ k. g k (theta n f k)) + sum (2 ^ n) (λ v. g (2 ^ n + v) (minus (theta n f v))))
  unfolding construction
  construction_sum g e =
      let θ = theta n f in
      sum_append g (first_quarter n) (variables n θ ++ target n θ) own
      ∙ ap₂ ◌+◌
      (sum_cons g (Phase n 16384) [] own ∙ ap₂ ◌+◌ (ap (λ (m : ℕ). g m 16384) (get_or-list (n + 1) (λ j. 2 ^ j) n 0 (omega arith))) (sum_none g own) ∙ add-zero (g (2 ^ n) 16384))
      (ap (sum_numbers g (variables n θ ++ target n θ)) (numbers_cons (Phase n 16384) [] own ∙ numbers_none own)
      ∙ sum_append g (variables n θ) (target n θ) own
      ∙ ap₂ ◌+◌
      (variables_sum (n + 1) n θ g (omega arith) ∙ sym (ap (◌+ sum n (λ i. sum (2 ^ i) (λ v. g (2 ^ i + v) (θ (2 ^ i + v))))) e ∙ zero-add (sum n (λ i. sum (2 ^ i) (λ v. g (2 ^ i + v) (θ (2 ^ i + v))))))
      ∙ blocks_merge n (λ k. g k (θ k)))
      (ap (sum_numbers g (target n θ)) (variables_masks (n + 1) n θ (omega arith)) ∙ block_sum (n + 1) n (omega arith) (λ v. minus (θ v)) g))

-- ---- the angles count only where there are words

pub block_same : (i : ℕ) (a b : ℕ → ℕ) → ((v : ℕ) → v < 2 ^ i → a v ≡ b v) → block i a ≡ block i b
block_same i a b h =
    sum_of-ext [] ◌++◌ (2 ^ i) (pair_at i a) (pair_at i b)
    (λ k l. ap (λ (x : ℕ). Phase i x ∷ cnot_after i k) (h (word i k) (word_below i k l)))

pub parts_same : (n : ℕ) (a b c d : ℕ → ℕ) → ((k : ℕ) → k < 2 ^ n → a k ≡ c k) → ((k : ℕ) → k < 2 ^ n → b k ≡ d k) → parts n a b ≡ parts n c d
parts_same n a b c d h k =
    ap₂ (λ (x y : List Gate). first_quarter n ++ x ++ y)
    (sum_of-ext [] ◌++◌ n (λ i. block i (λ v. a (2 ^ i + v))) (λ i. block i (λ v. c (2 ^ i + v)))
    (λ i l. block_same i (λ v. a (2 ^ i + v)) (λ v. c (2 ^ i + v)) (λ v q. h (2 ^ i + v) (omega (arith, pow_mono {i = suc i} {j = n} l)))))
    (block_same n b d k)
