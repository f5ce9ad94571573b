-- Sums over an index: one law for whole numbers and integers alike, over any operation that has a unit, associates and commutes.
use Rattle.std.proofs.Common.{◌≡◌, ℕ, zero, suc, ◌+◌, ◌*◌, ◌<◌, pos, ◌+ℤ◌, sym, refl, ap, ◌∙◌, ap₂, add-zero, add_assoc, add-suc, suc-mul, add_comm, zero-add, arith}
use lib.IntN.{+ℤ_idl, +ℤ_assoc, +ℤ_comm}
use Rattle.numbers.specs.Sums.{sum_of}

pub record Adds {A : Type 0} (none : A) (add : A → A → A) : Type 0 where
  pub unit : (a : A) → add none a ≡ a
  pub assoc : (a b c : A) → add (add a b) c ≡ add a (add b c)
  pub comm : (a b : A) → add a b ≡ add b a

pub ℕ-adds : Adds 0 ◌+◌
ℕ-adds = record { unit = zero-add; assoc = add_assoc; comm = add_comm }

pub ℤ-adds : Adds (pos 0) ◌+ℤ◌
ℤ-adds = record { unit = +ℤ_idl; assoc = +ℤ_assoc; comm = +ℤ_comm }

module _ {A : Type 0} (none : A) (add : A → A → A) where
  pub sum_of-ext : (n : ℕ) (f g : ℕ → A) → ((i : ℕ) → i < n → f i ≡ g i) → sum_of none add n f ≡ sum_of none add n g
  sum_of-ext zero f g h = refl
  sum_of-ext (suc n) f g h = ap₂ add (sum_of-ext n f g (λ i l. h i (omega arith))) (h n (omega arith))

-- what respects the operation goes inside
pub sum_of-map : {A B : Type 0} (none : A) (add : A → A → A) (none' : B) (add' : B → B → B) (h : A → B) → h none ≡ none' → ((a b : A) → h (add a b) ≡ add' (h a) (h b))
    → (n : ℕ) (f : ℕ → A) → h (sum_of none add n f) ≡ sum_of none' add' n (λ i. h (f i))
sum_of-map none add none' add' h h0 hadd zero f = h0
sum_of-map none add none' add' h h0 hadd (suc n) f = hadd (sum_of none add n f) (f n) ∙ ap (λ x. add' x (h (f n))) (sum_of-map none add none' add' h h0 hadd n f)

module _ {A : Type 0} (none : A) (add : A → A → A) (laws : Adds none add) where
  -- a b c d in the order a c b d
  pub interchange : (a b c d : A) → add (add a b) (add c d) ≡ add (add a c) (add b d)
  interchange a b c d =
      laws.assoc a b (add c d) ∙ ap (add a) (sym (laws.assoc b c d) ∙ ap (λ x. add x d) (laws.comm b c) ∙ laws.assoc c b d)
      ∙ sym (laws.assoc a c (add b d))

  unit_r : (a : A) → add a none ≡ a
  unit_r a = laws.comm a none ∙ laws.unit a

  pub sum_of-none : (n : ℕ) → sum_of none add n (λ i. none) ≡ none
  sum_of-none zero = refl
  sum_of-none (suc n) = unit_r (sum_of none add n (λ i. none)) ∙ sum_of-none n

  pub sum_of-plus : (n : ℕ) (f g : ℕ → A) → sum_of none add n (λ i. add (f i) (g i)) ≡ add (sum_of none add n f) (sum_of none add n g)
  sum_of-plus zero f g = sym (laws.unit none)
  sum_of-plus (suc n) f g = ap (λ x. add x (add (f n) (g n))) (sum_of-plus n f g) ∙ interchange (sum_of none add n f) (sum_of none add n g) (f n) (g n)

  -- the first m, then the rest
  pub sum_of-split : (m n : ℕ) (f : ℕ → A) → sum_of none add (m + n) f ≡ add (sum_of none add m f) (sum_of none add n (λ i. f (m + i)))
  sum_of-split m zero f = ap (λ (k : ℕ). sum_of none add k f) (add-zero m) ∙ sym (unit_r (sum_of none add m f))
  sum_of-split m (suc n) f =
      ap (λ (k : ℕ). sum_of none add k f) (add-suc m n) ∙ ap (λ x. add x (f (m + n))) (sum_of-split m n f)
      ∙ laws.assoc (sum_of none add m f) (sum_of none add n (λ i. f (m + i))) (f (m + n))

  -- by pairs, an even place and the odd one after it
  pub sum_of-pairs : (n : ℕ) (f : ℕ → A) → sum_of none add (n * 2) f ≡ sum_of none add n (λ i. add (f (i * 2)) (f (i * 2 + 1)))
  sum_of-pairs zero f = refl
  sum_of-pairs (suc n) f =
      ap (λ (k : ℕ). sum_of none add k f) (suc-mul n 2) ∙ sum_of-split (n * 2) 2 f
      ∙ ap₂ add (sum_of-pairs n f) (ap (λ x. add x (f (n * 2 + 1))) (laws.unit (f (n * 2 + 0)) ∙ ap f (add-zero (n * 2))))

  pub sum_of-swap : (m n : ℕ) (f : ℕ → ℕ → A) → sum_of none add m (λ i. sum_of none add n (f i)) ≡ sum_of none add n (λ j. sum_of none add m (λ i. f i j))
  sum_of-swap zero n f = sym (sum_of-none n)
  sum_of-swap (suc m) n f = ap (λ x. add x (sum_of none add n (f m))) (sum_of-swap m n f) ∙ sym (sum_of-plus n (λ j. sum_of none add m (λ i. f i j)) (f m))
