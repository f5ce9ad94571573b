-- A row, block by block, and two neighbouring blocks gathered as one.
use Rattle.std.proofs.Common.{◌≡◌, ℕ, zero, suc, ◌+◌, ◌-◌, ◌*◌, ◌%◌, ◌^◌, ◌<◌, ◌≤◌, Bool, true, false, List, [], ◌∷◌, ◌++◌, length, take, drop, sym, refl, ap, ◌∙◌, ap₂, append_assoc, append-nil, mod-eq_of_lt, suc-mul, add_comm, add-one, one-mul, zero-add, zero-mul, arith, length-append, drop_of_length-le, take_all, drop-drop, take_at, drop_at, pow-add}
use native.Mathlib.Nat.{two-pow-succ}
use lib.Seq.{take-append-add, drop-append-add}
use lib.Pow.{pow-lt}
use borrow.Rule.Slice.PartMut.{mid_of, post_of, put_mid}
use Rattle.numbers.specs.Sums.{list}
use Rattle.numbers.proofs.Lists.{length-list}
use Rattle.numbers.proofs.Subsets.{subset_none}
use Rattle.coefficients.specs.Working.{entry, counts, gathered, joined, in_blocks}
use Rattle.coefficients.proofs.Gathering.{length-gathered, gathered_front, halves, by_halves}

next_block : (f : List ℕ → List ℕ) (s : ℕ) → ((b : List ℕ) → length (f b) ≡ s) → (c : ℕ) (v : List ℕ)
    → put_mid (c * s) s (in_blocks f s c v) (f (mid_of (c * s) s (in_blocks f s c v))) ≡ in_blocks f s (suc c) v
unfolding in_blocks
next_block f s fits zero v = ap (λ (k : ℕ). put_mid k s v (f (mid_of k s v))) (zero-mul s)
next_block f s fits (suc c) v =
    let a : List ℕ = f (take s v) in
    let r : List ℕ = in_blocks f s c (drop s v) in
    let k : suc c * s ≡ length a + c * s = suc-mul c s ∙ add_comm (c * s) s ∙ ap (◌+ c * s) (sym (fits (take s v))) in
    ap (λ (k : ℕ). put_mid k s (a ++ r) (f (mid_of k s (a ++ r)))) k
    ∙ ap₂ (λ (t d : List ℕ). t ++ (f (take s d) ++ drop s d)) (take-append-add a r (c * s)) (drop-append-add a r (c * s))
    ∙ append_assoc a (take (c * s) r) (f (mid_of (c * s) s r) ++ post_of (c * s) s r)
    ∙ ap (a ++◌) (next_block f s fits c (drop s v))

-- a loop's turn: the next block, which was lent, comes back as f's
pub block_again : (f : List ℕ → List ℕ) (s : ℕ) → ((b : List ℕ) → length (f b) ≡ s) → (before now : List ℕ) (c : ℕ) → now ≡ in_blocks f s c before
    → (back : List ℕ) → back ≡ f (mid_of (c * s) (c * s + s - c * s) now) → put_mid (c * s) (c * s + s - c * s) now back ≡ in_blocks f s (c + 1) before
block_again f s fits before now c done back e =
    let k : c * s + s - c * s ≡ s = omega arith in
    ap (put_mid (c * s) (c * s + s - c * s) now) e ∙ (λ i. put_mid (c * s) (k i) (done i) (f (mid_of (c * s) (k i) (done i))))
    ∙ next_block f s fits c before ∙ ap (λ (n : ℕ). in_blocks f s n before) (sym (add-one c))

pub length-joined : (up : Bool) (h : ℕ) (v : List ℕ) → length (joined up h v) ≡ h + h
unfolding joined
length-joined up h v = at up
  where
    both : (f g : ℕ → ℕ) → length (list h f ++ list h g) ≡ h + h
    both f g = length-append (list h f) (list h g) ∙ ap₂ ◌+◌ (length-list h f) (length-list h g)

    at : (up : Bool) → length (joined up h v) ≡ h + h
    at true = both (λ i. (entry v i + entry v (h + i)) % 65536) (λ i. entry v (h + i))
    at false = both (λ i. entry v i) (λ i. (entry v (h + i) + entry v i) % 65536)

-- two blocks of 2^k entries, gathered and then joined, are one of twice as many
module _ (up : Bool) (k : ℕ) where
  abbrev size : ℕ
  size = 2 ^ k

  two_blocks : (v : List ℕ) → joined up size (gathered up k (take size v) ++ gathered up k (take size (drop size v))) ≡ gathered up (suc k) (take (size + size) v)
  unfolding halves
  two_blocks v =
      ap (λ (b : List ℕ). joined up size (gathered up k (take size v) ++ b)) (gathered_front up k (drop size v)) ∙ by_halves k v up
      ∙ sym (gathered_front up (suc k) v) ∙ ap (λ (m : ℕ). gathered up (suc k) (take m v)) (two-pow-succ k)

  merged : (c : ℕ) (v : List ℕ) → in_blocks (joined up size) (size + size) c (in_blocks (gathered up k) size (c + c) v) ≡ in_blocks (gathered up (suc k)) (size + size) c v
  unfolding in_blocks
  merged zero v = refl
  merged (suc c) v =
      let a : List ℕ = gathered up k (take size v) in
      let b : List ℕ = gathered up k (take size (drop size v)) in
      let r : List ℕ = in_blocks (gathered up k) size (c + c) (drop size (drop size v)) in
      let two : suc c + suc c ≡ suc (suc (c + c)) = omega arith in
      let long : length (a ++ b) ≡ size + size = length-append a b ∙ ap₂ ◌+◌ (length-gathered up k (take size v)) (length-gathered up k (take size (drop size v))) in
      ap (λ (m : ℕ). in_blocks (joined up size) (size + size) (suc c) (in_blocks (gathered up k) size m v)) two
      ∙ ap (λ (u : List ℕ). joined up size (take (size + size) u) ++ in_blocks (joined up size) (size + size) c (drop (size + size) u)) (sym (append_assoc a b r))
      ∙ ap₂ (λ (t d : List ℕ). joined up size t ++ in_blocks (joined up size) (size + size) c d) (take_at (a ++ b) r (size + size) long) (drop_at (a ++ b) r (size + size) long)
      ∙ ap₂ ◌++◌ (two_blocks v) (merged c (drop size (drop size v)) ∙ ap (in_blocks (gathered up (suc k)) (size + size) c) (drop-drop size size v))

-- a row of one entry is its own sum
alone : (up : Bool) (x : ℕ) → x < 65536 → gathered up 0 (x ∷ []) ≡ x ∷ []
unfolding gathered
alone up x h = ap (◌∷ []) (ap (◌% 65536) (zero-add (counts up 0 0 * x) ∙ ap (◌* x) (self up) ∙ one-mul x) ∙ mod-eq_of_lt h)
  where
    self : (up : Bool) → counts up 0 0 ≡ 1
    self true = subset_none 0
    self false = subset_none 0

single : (up : Bool) (c : ℕ) (v : List ℕ) → c ≤ length v → ((i : ℕ) → entry v i < 65536) → v ≡ in_blocks (gathered up 0) 1 c v
unfolding in_blocks
single up zero v h b = refl
single up (suc c) [] h b = absurd (omega arith)
single up (suc c) (x ∷ xs) h b = ap₂ ◌++◌ (sym (alone up x (b 0))) (single up c xs (omega arith) (λ i. b (suc i)))

-- a row of 2^n entries, gathered in each of its 2^rest blocks of `size`
pub record Blocks (up : Bool) (n size : ℕ) (before after : List ℕ) : Type 0 where
  pub wires : ℕ
  pub rest : ℕ
  pub all : wires + rest ≡ n
  pub power : size ≡ 2 ^ wires
  pub blocks : after ≡ in_blocks (gathered up wires) size (2 ^ rest) before

module _ (up : Bool) (n : ℕ) (before : List ℕ) (row : length before ≡ 2 ^ n) where
  blocks_of_one : ((i : ℕ) → entry before i < 65536) → Blocks up n 1 before before
  blocks_of_one b = record { wires = 0; rest = n; all = zero-add n; power = refl; blocks = single up (2 ^ n) before (omega (arith, row)) b }

  module _ (size : ℕ) (now : List ℕ) (b : Blocks up n size before now) where
    blocks_again : length now ≡ length before → size < length before → (after : List ℕ)
        → ((c : ℕ) → length now ≡ c * (size + size) → after ≡ in_blocks (joined up size) (size + size) c now) → Blocks up n (size + size) before after
    blocks_again l h after e = at b.rest refl
      where
        k : ℕ
        k = b.wires

        at : (r : ℕ) → r ≡ b.rest → Blocks up n (size + size) before after
        at zero q = absurd (omega (arith, row, b.power, ap (2 ^◌) (let z : k ≡ n = omega (arith, b.all, q) in z)))
        at (suc r) q =
            let double : size + size ≡ 2 ^ suc k = ap₂ ◌+◌ b.power b.power ∙ sym (two-pow-succ k) in
            let long : length now ≡ 2 ^ r * (size + size) =
            l ∙ row ∙ ap (2 ^◌) (let z : n ≡ r + suc k = omega (arith, b.all, q) in z) ∙ pow-add 2 r (suc k) ∙ ap (2 ^ r *◌) (sym double) in
            let held : now ≡ in_blocks (gathered up k) (2 ^ k) (2 ^ r + 2 ^ r) before =
            b.blocks ∙ ap₂ (λ (s c : ℕ). in_blocks (gathered up k) s c before) b.power (ap (2 ^◌) (sym q) ∙ two-pow-succ r) in
            record {
              wires = suc k;
              rest = r;
              all = omega (arith, b.all, q);
              power = double;
              blocks =
                  e (2 ^ r) long ∙ ap₂ (λ (s : ℕ) (u : List ℕ). in_blocks (joined up s) (s + s) (2 ^ r) u) b.power held ∙ merged up k (2 ^ r) before
                  ∙ ap (λ (s : ℕ). in_blocks (gathered up (suc k)) (s + s) (2 ^ r) before) (sym b.power);
            }

    pub blocks_end : length before ≤ size → now ≡ gathered up n before
    unfolding in_blocks
    blocks_end h = at b.rest refl
      where
        at : (r : ℕ) → r ≡ b.rest → now ≡ gathered up n before
        at zero q =
            b.blocks ∙ ap (λ (c : ℕ). in_blocks (gathered up b.wires) size (2 ^ c) before) (sym q)
            ∙ ap₂ (λ (v d : List ℕ). gathered up b.wires v ++ d) (take_all size before h) (drop_of_length-le before {i = size} h)
            ∙ append-nil (gathered up b.wires before) ∙ ap (λ (k : ℕ). gathered up k before) (let z : b.wires ≡ n = omega (arith, b.all, q) in z)
        at (suc r) q = absurd (omega (arith, row, b.power, pow-lt (let z : b.wires < n = omega (arith, b.all, q) in z)))

-- the loop: blocks of `size` entries are gathered, whatever power of two the row's length is
pub record Grown (up : Bool) (before now : List ℕ) (size : ℕ) : Type 0 where
  pub some : 0 < size
  pub long : length now ≡ length before
  pub blocks : (n : ℕ) → length before ≡ 2 ^ n → Blocks up n size before now

pub grown_starts : (up : Bool) (v : List ℕ) → ((i : ℕ) → entry v i < 65536) → Grown up v v 1
grown_starts up v b = record { some = omega arith; long = refl; blocks = λ n row. blocks_of_one up n v row b }

pub grown_again : (up : Bool) (before now : List ℕ) (size : ℕ) → Grown up before now size → size < length now → (after : List ℕ) → length after ≡ length now
    → ((c : ℕ) → length now ≡ c * (size + size) → after ≡ in_blocks (joined up size) (size + size) c now) → Grown up before after (size + size)
grown_again up before now size g h after l e =
    record {
      some = omega (arith, g.some);
      long = l ∙ g.long;
      blocks = λ n row. blocks_again up n before row size now (g.blocks n row) g.long (omega (arith, g.long)) after e;
    }
