-- A run's end: below 2^w, linear in the start but for start 0's end, and reached from some start.
use Rattle.std.proofs.Common.{◌≡◌, ℕ, zero, suc, ◌+◌, ◌*◌, ◌%◌, ◌^◌, ◌<◌, List, [], ◌∷◌, ◌++◌, sym, refl, ap, ◌∙◌, add_assoc, zero-add, arith, pow_pos}
use lib.Bits.{bit_xor, xor_lt, xor_self, xor_zero_r}
use lib.Pow.{pow-lt}
use Rattle.numbers.specs.Bits.{bit}
use Rattle.numbers.proofs.Sums.{interchange}
use Rattle.numbers.proofs.Wires.{bit-xor, bit_other, xor_adds, xor_weights}
use Rattle.circuit.specs.declared.Gate.{Gate}
use Rattle.circuit.specs.declared.Gate.TheVariants.{Cnot, Phase, Inverter}
use Rattle.circuit.specs.Working.{Sound, AllSound}
use Rattle.running.specs.Run.{stepped, added, end_from, total_from}

pub end_none : (s : ℕ) → end_from [] s ≡ s
unfolding end_from
end_none s = refl

-- one circuit after another
pub end_append : (xs ys : List Gate) (s : ℕ) → end_from (xs ++ ys) s ≡ end_from ys (end_from xs s)
unfolding end_from
end_append [] ys s = refl
end_append (g ∷ xs) ys s = end_append xs ys (stepped g s)

pub total_append : (xs ys : List Gate) (s : ℕ) → total_from (xs ++ ys) s ≡ total_from xs s + total_from ys (end_from xs s)
unfolding total_from end_from
total_append [] ys s = sym (zero-add (total_from ys s))
total_append (g ∷ xs) ys s = ap (added g s +◌) (total_append xs ys (stepped g s)) ∙ sym (add_assoc (added g s) (total_from xs (stepped g s)) (total_from ys (end_from xs (stepped g s))))

pub weight_below : (b t w : ℕ) → b < 2 → t < w → b * 2 ^ t < 2 ^ w
weight_below zero t w h k = let p = pow_pos w in omega arith
weight_below (suc zero) t w h k = let p = pow-lt k in omega arith
weight_below (suc (suc b)) t w h k = absurd (omega arith)

-- end states are below 2^w
pub stepped_below : (w : ℕ) (g : Gate) (s : ℕ) → Sound w g → s < 2 ^ w → stepped g s < 2 ^ w
stepped_below w (Cnot c t) s h k = xor_lt w s (bit s c * 2 ^ t) k (weight_below (bit s c) t w (omega arith) h.1)
stepped_below w (Phase i a) s h k = k
stepped_below w (Inverter i) s h k = xor_lt w s (2 ^ i) k (pow-lt h)

pub end_below : (w : ℕ) (gs : List Gate) (s : ℕ) → AllSound w gs → s < 2 ^ w → end_from gs s < 2 ^ w
unfolding end_from AllSound
end_below w [] s h k = k
end_below w (g ∷ gs) s h k = end_below w gs (stepped g s) h.1 (stepped_below w g s h.0 k)

-- and linear in the start but for what the inverters turn: three ends together are the end of the three starts together
cnot_xor : (c t x y : ℕ) → stepped (Cnot c t) (bit_xor x y) ≡ bit_xor (stepped (Cnot c t) x) (stepped (Cnot c t) y)
cnot_xor c t x y =
    ap (λ (b : ℕ). bit_xor (bit_xor x y) (b * 2 ^ t)) (bit-xor x y c) ∙ ap (bit_xor (bit_xor x y)) (sym (xor_weights (bit x c) (bit y c) t (omega arith) (omega arith)))
    ∙ interchange 0 bit_xor xor_adds x y (bit x c * 2 ^ t) (bit y c * 2 ^ t)

stepped_xor : (g : Gate) (x y z : ℕ) → stepped g (bit_xor (bit_xor x y) z) ≡ bit_xor (bit_xor (stepped g x) (stepped g y)) (stepped g z)
stepped_xor (Cnot c t) x y z = cnot_xor c t (bit_xor x y) z ∙ ap (λ (s : ℕ). bit_xor s (stepped (Cnot c t) z)) (cnot_xor c t x y)
stepped_xor (Phase i a) x y z = refl
stepped_xor (Inverter i) x y z =
    let p = 2 ^ i in
    xor_adds.assoc (bit_xor x y) z p
    ∙ ap (λ (s : ℕ). bit_xor s (bit_xor z p)) (sym (xor_zero_r (bit_xor x y)) ∙ ap (bit_xor (bit_xor x y)) (sym (xor_self p)) ∙ interchange 0 bit_xor xor_adds x y p p)

end_three : (gs : List Gate) (x y z : ℕ) → end_from gs (bit_xor (bit_xor x y) z) ≡ bit_xor (bit_xor (end_from gs x) (end_from gs y)) (end_from gs z)
unfolding end_from
end_three [] x y z = refl
end_three (g ∷ gs) x y z = ap (end_from gs) (stepped_xor g x y z) ∙ end_three gs (stepped g x) (stepped g y) (stepped g z)

-- so two starts together end where they end, turned by what start 0's end turns
pub end_xor : (gs : List Gate) (x y : ℕ) → end_from gs (bit_xor x y) ≡ bit_xor (bit_xor (end_from gs x) (end_from gs y)) (end_from gs 0)
end_xor gs x y = ap (end_from gs) (sym (xor_zero_r (bit_xor x y))) ∙ end_three gs x y 0

-- a good gate undoes itself, so every state is some start's end
pub stepped_back : (w : ℕ) (g : Gate) (s : ℕ) → Sound w g → stepped g (stepped g s) ≡ s
stepped_back w (Cnot c t) s h =
    let p = bit s c * 2 ^ t in
    let kept : bit (bit_xor s p) c ≡ bit s c = bit-xor s p c ∙ ap (λ (n : ℕ). (bit s c + n) % 2) (bit_other (bit s c) t c (omega arith) h.2) ∙ omega arith in
    ap (λ (b : ℕ). bit_xor (bit_xor s p) (b * 2 ^ t)) kept ∙ xor_adds.assoc s p p ∙ ap (bit_xor s) (xor_self p) ∙ xor_zero_r s
stepped_back w (Phase i a) s h = refl
stepped_back w (Inverter i) s h = xor_adds.assoc s (2 ^ i) (2 ^ i) ∙ ap (bit_xor s) (xor_self (2 ^ i)) ∙ xor_zero_r s

pub start_of : (w : ℕ) (gs : List Gate) (s : ℕ) → AllSound w gs → (x : ℕ) × (end_from gs x ≡ s)
unfolding end_from AllSound
start_of w [] s h = (s, refl)
start_of w (g ∷ gs) s h =
    let r = start_of w gs s h.1 in
    (stepped g r.0, ap (end_from gs) (stepped_back w g r.0 h.0) ∙ r.1)
