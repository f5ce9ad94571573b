-- Gates written one list after another: what is left of them.
use Rattle.std.proofs.Common.{◌≡◌, ℕ, zero, suc, ◌+◌, ◌-◌, ◌%◌, ◌^◌, ◌<◌, ◌≤◌, List, [], ◌∷◌, ◌++◌, length, get_or, take, drop, sym, refl, ap, ◌∙◌, subst, ap₂, append_assoc, append-nil, add-zero, zero-add, arith, length-drop, get_or-drop, pow_mono}
use lib.Bits.{bit_xor}
use Rattle.numbers.proofs.Powers.{power_fits, small_power}
use Rattle.numbers.proofs.Rows.{end_part}
use Rattle.circuit.specs.declared.Gate.{Gate}
use Rattle.circuit.specs.declared.Gate.TheVariants.{Cnot, Phase}
use Rattle.circuit.specs.Working.{Wrote}
use Rattle.circuit.specs.Gates.{bytes_of}
use Rattle.circuit.proofs.Decoding.{bytes_append, length-bytes}
use Rattle.circuit.proofs.Parts.{Left, all_left, room, less_left, none_left}
use Rattle.build.specs.Gray.{turned, word}
use Rattle.build.specs.Construction.{in_turn, block, variables}
use Rattle.build.proofs.Gray.{turned_below, word_below}
use Rattle.build.proofs.Blocks.{pair_at}
use Rattle.build.proofs.Circuits.{block_same}

-- ---- lists in turn

-- m lists, from the i-th on
onward : ℕ → ℕ → (ℕ → List Gate) → List Gate
onward zero i F = []
onward (suc m) i F = F i ++ onward m (suc i) F

onward_all : (m i : ℕ) (F : ℕ → List Gate) → in_turn i F ++ onward m i F ≡ in_turn (i + m) F
unfolding onward
onward_all zero i F = append-nil (in_turn i F) ∙ ap (λ (k : ℕ). in_turn k F) (sym (add-zero i))
onward_all (suc m) i F =
    sym (append_assoc (in_turn i F) (F i) (onward m (suc i) F)) ∙ onward_all m (suc i) F ∙ ap (λ (k : ℕ). in_turn k F) (let e : suc i + m ≡ i + suc m = omega arith in e)

-- what is left of n lists when i of them are written
pub left : ℕ → (ℕ → List Gate) → ℕ → List ℕ
left n F i = bytes_of (onward (n - i) i F)

module _ (n : ℕ) (F : ℕ → List Gate) where
  pub none_yet : bytes_of (in_turn n F) ≡ left n F 0
  unfolding left
  none_yet = ap (λ (k : ℕ). bytes_of (in_turn k F)) (sym (zero-add n)) ∙ ap bytes_of (sym (onward_all n 0 F)) ∙ ap (λ (m : ℕ). bytes_of (onward m 0 F)) (let e : n ≡ n - 0 = omega arith in e)

  one_less : (i : ℕ) → i < n → left n F i ≡ bytes_of (F i) ++ left n F (i + 1)
  unfolding left onward
  one_less i h =
      ap (λ (m : ℕ). bytes_of (onward m i F)) (let e : n - i ≡ suc (n - (i + 1)) = omega arith in e) ∙ bytes_append (F i) (onward (n - (i + 1)) (suc i) F)
      ∙ ap (λ (k : ℕ). bytes_of (F i) ++ bytes_of (onward (n - (i + 1)) k F)) (let e : suc i ≡ i + 1 = omega arith in e)

  pub none_after : (i : ℕ) → n ≤ i → left n F i ≡ []
  unfolding left onward bytes_of
  none_after i h = ap (λ (m : ℕ). bytes_of (onward m i F)) (let e : n - i ≡ 0 = omega arith in e)

  -- the next list stands before what is left after it
  pub next_left : {text : List ℕ} {start : ℕ} {before : List ℕ} {at : ℕ} {now : List ℕ} (i : ℕ) → i < n → (g : List Gate) → g ≡ F i
      → Left text start before (left n F i) at now → Left text start before (bytes_of g ++ left n F (i + 1)) at now
  next_left {text} {start} {before} {at} {now} i h g e l =
      subst (λ (r : List ℕ). Left text start before r at now) (one_less i h ∙ ap (λ (x : List Gate). bytes_of x ++ left n F (i + 1)) (sym e)) l

-- ---- a wire's block

-- wire 0's is one gate
pub first_block : (angle_at : ℕ → ℕ) → Phase 0 (angle_at 0) ∷ [] ≡ block 0 angle_at
unfolding word
first_block angle_at = refl

pub pair_is : (i : ℕ) (angle_at : ℕ → ℕ) (k v d : ℕ) → 0 < i → v ≡ word i k → d ≡ turned i k → Phase i (angle_at v) ∷ Cnot d i ∷ [] ≡ pair_at i angle_at k
pair_is zero angle_at k v d h ev ed = absurd (omega arith)
pair_is (suc j) angle_at k v d h ev ed = ap₂ (λ (a c : ℕ). Phase (suc j) (angle_at a) ∷ Cnot c (suc j) ∷ []) ev ed

pub next_word : (i k v d p : ℕ) → 0 < i → i ≤ 8 → k < 2 ^ i → v ≡ word i k → d ≡ turned i k → p ≡ 2 ^ d % 2 ^ 64 → bit_xor v p ≡ word i (k + 1)
unfolding word
next_word zero k v d p z few h ev ed ep = absurd (omega arith)
next_word (suc j) k v d p z few h ev ed ep =
    ap₂ bit_xor ev (ep ∙ power_fits (omega (arith, turned_below j k h)) ∙ ap (λ (c : ℕ). 2 ^ c) ed) ∙ ap (word (suc j)) (let e : suc k ≡ k + 1 = omega arith in e)

pub below_words : (i words k : ℕ) → i ≤ 8 → words ≡ 2 ^ i % 2 ^ 64 → k < words → k < 2 ^ i
below_words i words k few e h = omega (arith, small_power i words (omega arith) e)

-- wire i's block, of which k pairs are written: the word at hand, and what is left
pub record InBlock (i : ℕ) (angle_at : ℕ → ℕ) (at : ℕ) (before : List ℕ) (k v next : ℕ) (now : List ℕ) : Type 0 where
  pub word_is : v ≡ word i k
  pub rest : Left (bytes_of (block i angle_at)) at before (left (2 ^ i) (pair_at i angle_at) k) next now

pub block_starts : (i : ℕ) (angle_at : ℕ → ℕ) (at : ℕ) (before : List ℕ) → at + length (bytes_of (block i angle_at)) ≤ length before → InBlock i angle_at at before 0 0 at before
unfolding word
block_starts i angle_at at before h = record { word_is = refl; rest = all_left at before (none_yet (2 ^ i) (pair_at i angle_at)) h }

module _ {i : ℕ} {angle_at : ℕ → ℕ} {at : ℕ} {before : List ℕ} {k v next : ℕ} {now : List ℕ} (m : InBlock i angle_at at before k v next now) where
  pub word_small : k < 2 ^ i → v < 2 ^ i
  word_small h = rw m.word_is (word_below i k h)

  pub block_ends : 2 ^ i ≤ k → Wrote (bytes_of (block i angle_at)) at before next now
  block_ends h = none_left (none_after (2 ^ i) (pair_at i angle_at) k h) m.rest

  module _ (d : ℕ) (some : 0 < i) (h : k < 2 ^ i) (e : d ≡ turned i k) where
    abbrev pair : List Gate
    pair = Phase i (angle_at v) ∷ Cnot d i ∷ []

    behind_pair : List ℕ
    behind_pair = left (2 ^ i) (pair_at i angle_at) (k + 1)

    pair_left : Left (bytes_of (block i angle_at)) at before (bytes_of pair ++ behind_pair) next now
    unfolding behind_pair
    pair_left = next_left (2 ^ i) (pair_at i angle_at) k h pair (pair_is i angle_at k v d some m.word_is e) m.rest

    pub pair_fits : next + length (bytes_of pair) ≤ length now
    pair_fits = room (bytes_of pair) behind_pair pair_left

    pub pair_done : i ≤ 8 → (p : ℕ) → p ≡ 2 ^ d % 2 ^ 64 → {behind : ℕ} {after : List ℕ} → Wrote (bytes_of pair) next now behind after
        → InBlock i angle_at at before (k + 1) (bit_xor v p) behind after
    unfolding behind_pair
    pair_done few p ep w = record { word_is = next_word i k v d p some few h m.word_is e ep; rest = less_left (bytes_of pair) behind_pair pair_left w }

-- ---- the variables' blocks

abbrev pub wire_block : (ℕ → ℕ) → ℕ → List Gate
wire_block angle_at i = block i (λ v. angle_at (2 ^ i + v))

-- those of the wires below i are written
abbrev pub BlocksTo : ℕ → List ℕ → ℕ → List ℕ → ℕ → ℕ → List ℕ → Type 0
BlocksTo n angles at before i next now = Left (bytes_of (variables n (λ k. get_or angles k 0))) at before (left n (wire_block (λ k. get_or angles k 0)) i) next now

module _ (n : ℕ) (angles : List ℕ) (at : ℕ) (before : List ℕ) where
  abbrev angle_of : ℕ → ℕ
  angle_of k = get_or angles k 0

  abbrev first : List Gate
  first = Phase 0 (angle_of 1) ∷ []

  module _ (some : 0 < n) (h : at + length (bytes_of (variables n angle_of)) ≤ length before) where
    first_left : Left (bytes_of (variables n angle_of)) at before (bytes_of first ++ left n (wire_block angle_of) 1) at before
    first_left = next_left n (wire_block angle_of) 0 some first (first_block (λ v. angle_of (1 + v))) (all_left at before (none_yet n (wire_block angle_of)) h)

    pub first_fits : at + 4 ≤ length before
    first_fits = omega (arith, room (bytes_of first) (left n (wire_block angle_of) 1) first_left, length-bytes first)

    pub first_done : {next : ℕ} {now : List ℕ} → Wrote (bytes_of first) at before next now → BlocksTo n angles at before 1 next now
    first_done w = less_left (bytes_of first) (left n (wire_block angle_of) 1) first_left w

  pub blocks_end : (i : ℕ) → n ≤ i → {next : ℕ} {now : List ℕ} → BlocksTo n angles at before i next now → Wrote (bytes_of (variables n angle_of)) at before next now
  blocks_end i h l = none_left (none_after n (wire_block angle_of) i h) l

  -- wire i's angles are those from 2^i on
  module _ (few : n ≤ 8) (enough : 2 ^ n ≤ length angles) (i : ℕ) (h : i < n) (p : ℕ) (e : p ≡ 2 ^ i % 2 ^ 64) where
    p_is : p ≡ 2 ^ i
    p_is = small_power i p (omega arith) e

    pub angles_from : p ≤ length angles
    angles_from = omega (arith, p_is, pow_mono {i = i} {j = n} (omega arith))

    abbrev part : List ℕ
    part = take (length angles - p) (drop p angles)

    pub part_enough : 2 ^ i ≤ length part
    part_enough = omega (arith, p_is, pow_mono {i = suc i} {j = n} h, ap length (end_part angles p), length-drop p angles)

    part_at : (v : ℕ) → get_or part v 0 ≡ angle_of (2 ^ i + v)
    part_at v = ap (λ (l : List ℕ). get_or l v 0) (end_part angles p) ∙ get_or-drop p angles v 0 ∙ ap (λ (k : ℕ). angle_of (k + v)) p_is

    module _ {next : ℕ} {now : List ℕ} (l : BlocksTo n angles at before i next now) where
      next_block : Left (bytes_of (variables n angle_of)) at before (bytes_of (block i (λ v. get_or part v 0)) ++ left n (wire_block angle_of) (i + 1)) next now
      next_block = next_left n (wire_block angle_of) i h (block i (λ v. get_or part v 0)) (block_same i (λ v. get_or part v 0) (λ v. angle_of (2 ^ i + v)) (λ v q. part_at v)) l

      pub block_fits : next + length (bytes_of (block i (λ v. get_or part v 0))) ≤ length now
      block_fits = room (bytes_of (block i (λ v. get_or part v 0))) (left n (wire_block angle_of) (i + 1)) next_block

      pub block_done : {behind : ℕ} {after : List ℕ} → Wrote (bytes_of (block i (λ v. get_or part v 0))) next now behind after → BlocksTo n angles at before (i + 1) behind after
      block_done w = less_left (bytes_of (block i (λ v. get_or part v 0))) (left n (wire_block angle_of) (i + 1)) next_block w
