-- A row that is changed from the front, or whose end part is lent: what stands where nothing was written yet.
use Rattle.std.proofs.Common.{◌≡◌, ℕ, ◌+◌, ◌-◌, List, length, get_or, take, drop, sym, ap, ◌∙◌, ap₂, add-zero, arith, length-drop, get_or-drop, take_all, get_or-append-add}
use Rattle.numbers.specs.Sums.{list}
use Rattle.numbers.proofs.Lists.{length-list, filled}

module _ {A : Type 0} where
  -- the next entry of a row that is filled from the front
  pub filled_at : (x : ℕ) (f : ℕ → A) (l now : List A) (d : A) → now ≡ filled x f l → get_or now x d ≡ get_or l x d
  filled_at x f l now d e =
      ap₂ (λ m k. get_or m k d) e (sym (add-zero x) ∙ ap (◌+ 0) (sym (length-list x f)))
      ∙ get_or-append-add (list x f) (drop x l) 0 d ∙ get_or-drop x l 0 d ∙ ap (λ (k : ℕ). get_or l k d) (add-zero x)

  -- the part from h on, as it is lent and as it comes back
  pub end_part : (v : List A) (h : ℕ) → take (length v - h) (drop h v) ≡ drop h v
  end_part v h = take_all (length v - h) (drop h v) (omega (arith, length-drop h v))
