-- Integers: signs, multiples and sizes.
use Rattle.std.proofs.Common.{◌≡◌, ℕ, zero, suc, ◌+◌, ◌-◌, ◌*◌, ◌/◌, ◌%◌, ◌≤◌, Bool, true, false, cond, ltb, ℤ, pos, negsuc, ◌+ℤ◌, ◌-ℤ◌, ◌*ℤ◌, neg_ℤ, nat_abs, sym, refl, ap, ◌∙◌, subst, le_refl, add-mul, add_comm, suc-add, one-mul, div-add-mod', zero-add, arith, ltb-true}
use lib.IntN.{sub_ℕ, neg_ℤ-neg_ℤ, neg_ℤ-+ℤ, +ℤ_idl, +ℤ_idr, +ℤ_invr}
use Rattle.numbers.specs.Turn.{flip}
use Rattle.numbers.proofs.Sums.{ℤ-adds, interchange}

pub flip_add : (a b : ℕ) (z : ℤ) → flip (a + b) z ≡ flip a (flip b z)
flip_add zero b z = ap (λ (m : ℕ). flip m z) (zero-add b)
flip_add (suc a) b z = ap (λ (m : ℕ). flip m z) (suc-add a b) ∙ ap neg_ℤ (flip_add a b z)

flip_even : (h : ℕ) (z : ℤ) → flip (h * 2) z ≡ z
flip_even zero z = refl
flip_even (suc h) z = ap (λ (m : ℕ). flip m z) (let e : suc h * 2 ≡ suc (suc (h * 2)) = omega arith in e) ∙ neg_ℤ-neg_ℤ (flip (h * 2) z) ∙ flip_even h z

-- only the parity counts
pub flip_mod : (m : ℕ) (z : ℤ) → flip (m % 2) z ≡ flip m z
flip_mod m z = sym (ap (λ (k : ℕ). flip k z) (sym (div-add-mod' m 2)) ∙ flip_add (m / 2 * 2) (m % 2) z ∙ flip_even (m / 2) (flip (m % 2) z))

pub flip_plus : (m : ℕ) (y z : ℤ) → flip m (y +ℤ z) ≡ flip m y +ℤ flip m z
flip_plus zero y z = refl
flip_plus (suc m) y z = ap neg_ℤ (flip_plus m y z) ∙ neg_ℤ-+ℤ (flip m y) (flip m z)

pub flip_zero : (m : ℕ) → flip m (pos 0) ≡ pos 0
flip_zero zero = refl
flip_zero (suc m) = ap neg_ℤ (flip_zero m)

pub flip_neg : (m : ℕ) (z : ℤ) → flip m (neg_ℤ z) ≡ neg_ℤ (flip m z)
flip_neg zero z = refl
flip_neg (suc m) z = ap neg_ℤ (flip_neg m z)

pub nat_abs-neg : (z : ℤ) → nat_abs (neg_ℤ z) ≡ nat_abs z
nat_abs-neg (pos zero) = refl
nat_abs-neg (pos (suc n)) = refl
nat_abs-neg (negsuc n) = refl

pub nat_abs-flip : (m : ℕ) (z : ℤ) → nat_abs (flip m z) ≡ nat_abs z
nat_abs-flip zero z = refl
nat_abs-flip (suc m) z = nat_abs-neg (flip m z) ∙ nat_abs-flip m z

nat_abs-sub : (a b : ℕ) → nat_abs (sub_ℕ a b) ≤ a + b
nat_abs-sub a b = by (ltb a b) refl
  where
    by : (t : Bool) → ltb a b ≡ t → nat_abs (cond t (negsuc (b - suc a)) (pos (a - b))) ≤ a + b
    by true e = omega (arith, ltb-true a b e)
    by false e = omega arith

pub nat_abs-add : (y z : ℤ) → nat_abs (y +ℤ z) ≤ nat_abs y + nat_abs z
nat_abs-add (pos a) (pos b) = le_refl (a + b)
nat_abs-add (pos a) (negsuc b) = nat_abs-sub a (suc b)
nat_abs-add (negsuc a) (pos b) = subst (λ (n : ℕ). nat_abs (sub_ℕ b (suc a)) ≤ n) (add_comm b (suc a)) (nat_abs-sub b (suc a))
nat_abs-add (negsuc a) (negsuc b) = omega arith

-- the sum and the difference of two numbers add up to twice the first, and they differ by twice the second
pub sum_and_difference_lem : (y z : ℤ) → (y +ℤ z) +ℤ (y -ℤ z) ≡ y +ℤ y
sum_and_difference_lem y z = interchange (pos 0) ◌+ℤ◌ ℤ-adds y z y (neg_ℤ z) ∙ ap (λ (x : ℤ). (y +ℤ y) +ℤ x) (+ℤ_invr z) ∙ +ℤ_idr (y +ℤ y)

pub difference_of_both : (y z : ℤ) → (y +ℤ z) -ℤ (y -ℤ z) ≡ z +ℤ z
difference_of_both y z =
    ap (λ (x : ℤ). (y +ℤ z) +ℤ x) (neg_ℤ-+ℤ y (neg_ℤ z) ∙ ap (λ (x : ℤ). neg_ℤ y +ℤ x) (neg_ℤ-neg_ℤ z)) ∙ interchange (pos 0) ◌+ℤ◌ ℤ-adds y z (neg_ℤ y) z
    ∙ ap (λ (x : ℤ). x +ℤ (z +ℤ z)) (+ℤ_invr y) ∙ +ℤ_idl (z +ℤ z)

pub multiple_plus : (a b : ℕ) (z : ℤ) → pos (a + b) *ℤ z ≡ pos a *ℤ z +ℤ pos b *ℤ z
multiple_plus a b (pos c) = ap pos (add-mul a b c)
multiple_plus a b (negsuc c) = ap (λ (n : ℕ). neg_ℤ (pos n)) (add-mul a b (suc c)) ∙ neg_ℤ-+ℤ (pos (a * suc c)) (pos (b * suc c))

pub once : (z : ℤ) → pos 1 *ℤ z ≡ z
once (pos c) = ap pos (one-mul c)
once (negsuc c) = ap (λ (n : ℕ). neg_ℤ (pos n)) (one-mul (suc c))
