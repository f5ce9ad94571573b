-- The list of a function's values.
use Rattle.std.proofs.Common.{◌≡◌, ℕ, zero, suc, ◌+◌, ◌<◌, ◌≤◌, List, [], ◌∷◌, ◌++◌, length, get_or, drop, set, sym, refl, ap, ◌∙◌, ap₂, append_assoc, append-nil, add-zero, suc-add, zero-add, add-one, arith, drop-cons, ext_get_or}
use lib.Seq.{set_at, drop-length}
use Rattle.numbers.specs.Sums.{list}

module _ {A : Type 0} where
  pub length-list : (n : ℕ) (f : ℕ → A) → length (list n f) ≡ n
  length-list zero f = refl
  length-list (suc n) f = ap suc (length-list n (λ i. f (suc i)))

  pub get_or-list : (n : ℕ) (f : ℕ → A) (i : ℕ) (d : A) → i < n → get_or (list n f) i d ≡ f i
  get_or-list zero f i d h = absurd (omega arith)
  get_or-list (suc n) f zero d h = refl
  get_or-list (suc n) f (suc i) d h = get_or-list n (λ j. f (suc j)) i d (omega arith)

  -- at every place, if behind the list it is the value too
  pub get_or-list_else : (n : ℕ) (f : ℕ → A) (i : ℕ) (d : A) → (n ≤ i → d ≡ f i) → get_or (list n f) i d ≡ f i
  get_or-list_else zero f i d h = h (omega arith)
  get_or-list_else (suc n) f zero d h = refl
  get_or-list_else (suc n) f (suc i) d h = get_or-list_else n (λ j. f (suc j)) i d (λ l. h (omega arith))

  -- a list is that of a function where it has as many entries and each is the function's value
  pub is_list : (d : A) (l : List A) (n : ℕ) (f : ℕ → A) → length l ≡ n → ((i : ℕ) → i < n → get_or l i d ≡ f i) → l ≡ list n f
  is_list d l n f e h = ext_get_or d l (list n f) (e ∙ sym (length-list n f)) (λ i k. h i (omega arith) ∙ sym (get_or-list n f i d (omega arith)))

  pub list_ext : (n : ℕ) (f g : ℕ → A) → ((i : ℕ) → i < n → f i ≡ g i) → list n f ≡ list n g
  list_ext zero f g h = refl
  list_ext (suc n) f g h = ap₂ ◌∷◌ (h zero (omega arith)) (list_ext n (λ i. f (suc i)) (λ i. g (suc i)) (λ i k. h (suc i) (omega arith)))

  -- the first m, then the rest
  pub list_split : (m n : ℕ) (f : ℕ → A) → list (m + n) f ≡ list m f ++ list n (λ i. f (m + i))
  list_split zero n f = ap (λ (k : ℕ). list k f) (zero-add n) ∙ list_ext n f (λ i. f (0 + i)) (λ i h. ap f (sym (zero-add i)))
  list_split (suc m) n f =
      ap (λ (k : ℕ). list k f) (suc-add m n)
      ∙ ap (◌∷◌ (f zero)) (list_split m n (λ i. f (suc i)) ∙ ap (λ l. list m (λ i. f (suc i)) ++ l) (list_ext n (λ i. f (suc (m + i))) (λ i. f (suc m + i)) (λ i h. ap f (sym (suc-add m i)))))

  pub list_last : (n : ℕ) (f : ℕ → A) → list (suc n) f ≡ list n f ++ (f n ∷ [])
  list_last n f = ap (λ (k : ℕ). list k f) (let e : suc n ≡ n + 1 = omega arith in e) ∙ list_split n 1 f ∙ ap (λ (k : ℕ). list n f ++ (f k ∷ [])) (add-zero n)

  -- a row whose first x entries have become f 0 to f (x - 1)
  abbrev pub filled : ℕ → (ℕ → A) → List A → List A
  filled x f l = list x f ++ drop x l

  -- one entry more
  fill_next : (x : ℕ) (f : ℕ → A) (l : List A) (d : A) → x < length l → set (filled x f l) x (f x) ≡ filled (suc x) f l
  fill_next x f l d h =
      ap (λ m. set (list x f ++ m) x (f x)) (drop-cons l x d h) ∙ set_at (list x f) (get_or l x d) (drop (suc x) l) (f x) x (length-list x f)
      ∙ sym (ap (λ m. m ++ drop (suc x) l) (list_last x f) ∙ append_assoc (list x f) (f x ∷ []) (drop (suc x) l))

  -- a loop's turn: what stands at x becomes f x
  pub fill_again : (x : ℕ) (f : ℕ → A) (l now : List A) (d a : A) → x < length l → now ≡ filled x f l → a ≡ f x → set now x a ≡ filled (x + 1) f l
  fill_again x f l now d a h e v = ap₂ (λ m b. set m x b) e v ∙ fill_next x f l d h ∙ ap (λ (k : ℕ). filled k f l) (sym (add-one x))

  -- a loop's end: every entry is f's
  pub fill_ends : (x : ℕ) (f : ℕ → A) (l now : List A) → x ≡ length l → now ≡ filled x f l → now ≡ list (length l) f
  fill_ends x f l now e p =
      p ∙ ap (λ (k : ℕ). filled k f l) e ∙ ap (λ m. list (length l) f ++ m) (drop-length l) ∙ append-nil (list (length l) f)
