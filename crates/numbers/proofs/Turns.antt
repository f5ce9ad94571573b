-- Angles modulo a turn: a congruence, and the angle of an integer.
use Rattle.std.proofs.Common.{◌≡◌, ℕ, zero, suc, ◌+◌, ◌-◌, ◌*◌, ◌%◌, ◌<◌, Bool, true, false, cond, ltb, ℤ, pos, negsuc, ◌+ℤ◌, ◌*ℤ◌, neg_ℤ, sym, refl, ap, ◌∙◌, ap₂, add-zero, mod-lt, mod-eq_of_lt, mul_comm, add-mul, add_comm, mul-zero, zero-add, zero-mul, mul-suc, arith, ltb-false, ltb-true}
use native.Mathlib.Nat.{add-mod, mod-mod, add-mul-mod_self_right}
use lib.IntN.{sub_ℕ}
use Rattle.numbers.specs.Working.{◌≈◌}
use Rattle.numbers.specs.Turn.{difference, wrap}

pub ≈-of : {a b : ℕ} → a ≡ b → a ≈ b
≈-of p = record { alike = ap (◌% 65536) p }

pub ≈_refl : {a : ℕ} → a ≈ a
≈_refl = record { alike = refl }

pub ≈_sym : {a b : ℕ} → a ≈ b → b ≈ a
≈_sym p = record { alike = sym p.alike }

infixr 30 ◌≈∙◌
pub ◌≈∙◌ : {a b c : ℕ} → a ≈ b → b ≈ c → a ≈ c
◌≈∙◌ p q = record { alike = p.alike ∙ q.alike }

pub ≈-mod : (a : ℕ) → a % 65536 ≈ a
≈-mod a = record { alike = mod-mod a 65536 }

-- angles below a turn are the same angle only where they are the same number
pub ≈-small : {a b : ℕ} → a < 65536 → b < 65536 → a ≈ b → a ≡ b
≈-small h k p = sym (mod-eq_of_lt h) ∙ p.alike ∙ mod-eq_of_lt k

pub ≈-add : {a b c d : ℕ} → a ≈ b → c ≈ d → a + c ≈ b + d
≈-add {a} {b} {c} {d} p q = record { alike = add-mod a c 65536 ∙ ap₂ (λ (x y : ℕ). (x + y) % 65536) p.alike q.alike ∙ sym (add-mod b d 65536) }

pub ≈-turns : (a k : ℕ) → a + k * 65536 ≈ a
≈-turns a k = record { alike = add-mul-mod_self_right a k 65536 }

pub ≈-cancel : {a b : ℕ} (c : ℕ) → a + c ≈ b + c → a ≈ b
≈-cancel {a} {b} c h =
    ≈_sym (≈-turns a c) ≈∙ ≈-of (omega arith) ≈∙ ≈-add h (≈_refl {a = c * 65535}) ≈∙ ≈-of (omega arith) ≈∙ ≈-turns b c

pub ≈-scale : {a b : ℕ} (k : ℕ) → a ≈ b → a * k ≈ b * k
≈-scale {a} {b} zero p = ≈-of (mul-zero a ∙ sym (mul-zero b))
≈-scale {a} {b} (suc k) p = ≈-of (mul-suc a k) ≈∙ ≈-add (≈-scale k p) p ≈∙ ≈-of (sym (mul-suc b k))

pub ≈-mul : {a b c d : ℕ} → a ≈ b → c ≈ d → a * c ≈ b * d
≈-mul {a} {b} {c} {d} p q = ≈-scale c p ≈∙ ≈-of (mul_comm b c) ≈∙ ≈-scale b q ≈∙ ≈-of (mul_comm d b)

-- ---- the difference of two angles

pub difference_below : (a b : ℕ) → difference a b < 65536
difference_below a b = mod-lt (a + 65536 - b) (omega arith)

-- what the second angle wraps to the first is their difference: the wrapping subtraction
pub subtracted : (a b r : ℕ) → r < 65536 → b < 65536 → (r + b) % 65536 ≡ a → r ≡ difference a b
subtracted a b r hr hb e = omega arith

pub difference_adds : (a b : ℕ) → b < 65536 → difference a b + b ≈ a
difference_adds a b h =
    ≈-add (≈-mod (a + 65536 - b)) (≈_refl {a = b}) ≈∙ ≈-of (let e : a + 65536 - b + b ≡ a + 1 * 65536 = omega arith in e) ≈∙ ≈-turns a 1

-- ---- the angle of an integer

pub wrap_below : (z : ℤ) → wrap z < 65536
wrap_below (pos m) = omega arith
wrap_below (negsuc m) = omega arith

pub wrap_pos : (m : ℕ) → wrap (pos m) ≈ m
wrap_pos m = ≈-mod m

-- a negative number's angle and that of its size make whole turns
pub wrap_negsuc : (m : ℕ) → wrap (negsuc m) + suc m ≈ 0
wrap_negsuc m = record { alike = omega arith }

pub wrap_neg : (z : ℤ) → wrap (neg_ℤ z) + wrap z ≈ 0
wrap_neg (pos zero) = ≈_refl
wrap_neg (pos (suc m)) = ≈-add (≈_refl {a = wrap (negsuc m)}) (wrap_pos (suc m)) ≈∙ wrap_negsuc m
wrap_neg (negsuc m) = ≈-add (wrap_pos (suc m)) (≈_refl {a = wrap (negsuc m)}) ≈∙ ≈-of (add_comm (suc m) (wrap (negsuc m))) ≈∙ wrap_negsuc m

wrap_sub : (a b : ℕ) → wrap (sub_ℕ a b) + b ≈ a
wrap_sub a b = by (ltb a b) refl
  where
    by : (t : Bool) → ltb a b ≡ t → wrap (cond t (negsuc (b - suc a)) (pos (a - b))) + b ≈ a
    by true e = ≈-of (omega (arith, ltb-true a b e)) ≈∙ ≈-add (wrap_negsuc (b - suc a)) (≈_refl {a = a}) ≈∙ ≈-of (zero-add a)
    by false e = ≈-add (wrap_pos (a - b)) (≈_refl {a = b}) ≈∙ ≈-of (omega (arith, ltb-false a b e))

wrap_less : (a b : ℕ) → wrap (sub_ℕ a (suc b)) ≈ wrap (pos a) + wrap (negsuc b)
wrap_less a b =
    ≈-cancel (suc b)
    (wrap_sub a (suc b) ≈∙ ≈_sym (wrap_pos a) ≈∙ ≈-of (sym (add-zero (wrap (pos a))))
    ≈∙ ≈-add (≈_refl {a = wrap (pos a)}) (≈_sym (wrap_negsuc b)) ≈∙ ≈-of (omega arith))

pub wrap_add : (y z : ℤ) → wrap (y +ℤ z) ≈ wrap y + wrap z
wrap_add (pos a) (pos b) = wrap_pos (a + b) ≈∙ ≈-add (≈_sym (wrap_pos a)) (≈_sym (wrap_pos b))
wrap_add (pos a) (negsuc b) = wrap_less a b
wrap_add (negsuc a) (pos b) = wrap_less b a ≈∙ ≈-of (add_comm (wrap (pos b)) (wrap (negsuc a)))
wrap_add (negsuc a) (negsuc b) =
    ≈-cancel (suc (suc (a + b)))
    (wrap_negsuc (suc (a + b)) ≈∙ ≈-add (≈_sym (wrap_negsuc a)) (≈_sym (wrap_negsuc b)) ≈∙ ≈-of (omega arith))

pub wrap_mul : (z : ℤ) (c : ℕ) → wrap (z *ℤ pos c) ≈ wrap z * c
wrap_mul (pos m) c = wrap_pos (m * c) ≈∙ ≈-scale c (≈_sym (wrap_pos m))
wrap_mul (negsuc m) c =
    ≈-cancel (suc m * c)
    (≈-add (≈_refl {a = wrap (neg_ℤ (pos (suc m * c)))}) (≈_sym (wrap_pos (suc m * c))) ≈∙ wrap_neg (pos (suc m * c))
    ≈∙ ≈-of (sym (zero-mul c)) ≈∙ ≈-scale c (≈_sym (wrap_negsuc m)) ≈∙ ≈-of (add-mul (wrap (negsuc m)) (suc m) c))
