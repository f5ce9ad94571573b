-- Two good tables of as many variables are the same where their values are.
use Prim.Native.Nat.{ℕ, ◌+◌, ◌-◌, ◌*◌, ◌/◌, ◌%◌, ◌^◌, ◌<◌, ◌≤◌, min}
use native.Mathlib.Nat.{div-lt_iff_lt-mul, div-eq_of_lt}
use native.Mathlib.Decide.{dec_lt}
use native.Mathlib.Omega.{arith}
use mathlib.Core.Path.{◌≡◌, sym, ap, ap₂, ◌∙◌}
use mathlib.Core.List.{List}
use lib.ListN.{length, get_or}
use lib.Seq.{ext_get_or}
use lib.Pow.{pow_mono, pow-add, pow_pos}
use Rattle.numbers.specs.Bits.{bit}
use Rattle.numbers.proofs.Wires.{same_bits}
use Rattle.refusal.specs.Checks.{passed, outcome}
use Rattle.refusal.proofs.Passed.{passed_fail}
use Rattle.table.specs.Table.{value_at, table_checks}
use Rattle.circuit.specs.Bytes.{Bytes}

-- a byte whose bits from k on are none
high_bits : (b k j : ℕ) → b / 2 ^ k ≡ 0 → k ≤ j → bit b j ≡ 0
high_bits b k j e h =
    let l : b < 1 * 2 ^ k = (div-lt_iff_lt-mul {k = 2 ^ k} {x = b} {y = 1} (pow_pos k)).0 (omega arith) in
    ap (◌% 2) (div-eq_of_lt (omega (arith, pow_mono {i = k} {j = j} h)))

module _ (n : ℕ) (t u : List ℕ) (bt : Bytes t) (bu : Bytes u) (gt : outcome (table_checks n t) ≡ passed) (gu : outcome (table_checks n u) ≡ passed)
    (same : (x : ℕ) → x < 2 ^ n → value_at t x ≡ value_at u x) where
  same_length : length t ≡ length u
  same_length = (passed_fail (table_checks n t) gt).1.1.0 ∙ sym (passed_fail (table_checks n u) gu).1.1.0

  -- the table's bytes hold 2^n values, 8 to a byte, or fewer in one byte
  byte_bit : (i j : ℕ) → i < length t → j < 8 → bit (get_or t i 0) j ≡ bit (get_or u i 0) j
  byte_bit i j hi hj = by (dec_lt (i * 8 + j) (2 ^ n))
    where
      here : (i * 8 + j) / 8 ≡ i
      here = omega arith

      place : (i * 8 + j) % 8 ≡ j
      place = omega arith

      at : (l : List ℕ) → value_at l (i * 8 + j) ≡ bit (get_or l i 0) j
      at l = ap₂ (λ (a b : ℕ). bit (get_or l a 0) b) here place

      by : Dec (i * 8 + j < 2 ^ n) → bit (get_or t i 0) j ≡ bit (get_or u i 0) j
      by (yes h) = sym (at t) ∙ same (i * 8 + j) h ∙ at u
      by (no h) = past (dec_lt n 3)
        where
          long : length t ≡ 2 ^ (n - 3)
          long = (passed_fail (table_checks n t) gt).1.1.0

          past : Dec (n < 3) → bit (get_or t i 0) j ≡ bit (get_or u i 0) j
          past (no k) = absurd (omega (arith, long, pow-add 2 (n - 3) 3, ap (λ (m : ℕ). 2 ^ m) (let e : n - 3 + 3 ≡ n = omega arith in e)))
          past (yes k) =
              let z : i ≡ 0 = omega (arith, long, ap (λ (m : ℕ). 2 ^ m) (let e : n - 3 ≡ 0 = omega arith in e)) in
              let w : 2 ^ n ≤ 2 ^ 2 = pow_mono {i = n} {j = 2} (omega arith) in
              let m : min (2 ^ n) 8 ≤ j = omega arith in
              rw z (high_bits (get_or t 0 0) (min (2 ^ n) 8) j (passed_fail (table_checks n t) gt).1.1.1.0 m ∙ sym (high_bits (get_or u 0 0) (min (2 ^ n) 8) j (passed_fail (table_checks n u) gu).1.1.1.0 m))

  pub tables_same : t ≡ u
  tables_same = ext_get_or 0 t u same_length (λ i h. same_bits 8 (get_or t i 0) (get_or u i 0) (bt i) (bu i) (λ j l. byte_bit i j h l))
