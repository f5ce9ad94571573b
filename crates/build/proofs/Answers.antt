-- The builder's three ways out, and what its local rows come to.
use Rattle.std.proofs.Common.{◌≡◌, ℕ, ◌+◌, ◌-◌, ◌^◌, ◌<◌, ◌≤◌, List, [], ◌∷◌, ◌++◌, length, get_or, drop, replicate, ℤ, pos, nat_abs, sym, refl, ap, ◌∙◌, arith, get_or-drop, get_or-append-add, pow_mono}
use native.Mathlib.Decide.{dec_lt}
use lib.ListN.{get_or-replicate, length-replicate, get_or-append, get_or-eq_default}
use Rattle.numbers.specs.Sums.{list}
use Rattle.numbers.proofs.Lists.{length-list, get_or-list}
use Rattle.refusal.specs.declared.Refusal.{Refusal}
use Rattle.refusal.specs.Names.{refusal, ROOM}
use Rattle.refusal.specs.Checks.{passed, refused, outcome}
use Rattle.refusal.specs.Contract.{values}
use Rattle.refusal.proofs.Rooms.{earlier_refused, room_refused, room_enough}
use Rattle.table.specs.Table.{table_checks, value_at}
use Rattle.spectrum.specs.Spectrum.{coefficient, spectrum_of, angle, theta}
use Rattle.spectrum.proofs.Callers.{length-spectrum}
use Rattle.spectrum.proofs.Angles.{coefficient_size}
use Rattle.circuit.specs.Bytes.{put_at}
use Rattle.circuit.specs.File.{file_of}
use Rattle.circuit.proofs.Writing.{put_front}
use Rattle.std.specs.Prelude.{Ok, Err}
use Rattle.build.specs.Construction.{minus, construction, built_file, built_says, Builds}
use Rattle.build.specs.Working.{parts}
use Rattle.build.proofs.Circuits.{parts_same}
use Rattle.build.proofs.Files.{built_long}

module _ (n : ℕ) (t before : List ℕ) where
  pub table_fails : (r : Refusal) → outcome (table_checks n t) ≡ refused r → Builds n t before (Err r) before
  table_fails r o = earlier_refused built_says (table_checks n t) (2 ^ (n + 4)) (2 ^ (n + 4) ∷ []) (built_file n t) before (Err r) r refl o

  pub room_fails : outcome (table_checks n t) ≡ passed → length before < 2 ^ (n + 4) → (r : Refusal) → r ≡ refusal ROOM → Builds n t before (Err r) before
  room_fails o h r p = room_refused built_says (table_checks n t) (2 ^ (n + 4)) (2 ^ (n + 4) ∷ []) (built_file n t) before o h (Err r) r refl p

  pub answered : outcome (table_checks n t) ≡ passed → 2 ^ (n + 4) ≤ length before → (k : ℕ) → k ≡ 2 ^ (n + 4) → (after : List ℕ) → after ≡ built_file n t ++ drop (length (built_file n t)) before → Builds n t before (Ok k) after
  answered o h k p after q = room_enough built_says (table_checks n t) (2 ^ (n + 4)) (2 ^ (n + 4) ∷ []) (built_file n t) before o h (Ok k) after (ap (λ (m : ℕ). values (m ∷ [])) p) q

-- ---- the row of coefficients, then zeros

abbrev pub zeros : List ℤ
zeros = replicate 256 (pos 0)

zero_at : (k : ℕ) → get_or zeros k (pos 0) ≡ pos 0
zero_at k = by (dec_lt k 256)
  where
    by : Dec (k < 256) → get_or zeros k (pos 0) ≡ pos 0
    by (yes h) = get_or-replicate 256 k (pos 0) (pos 0) h
    by (no h) = get_or-eq_default zeros (pos 0) {n = k} (omega (arith, length-replicate 256 (pos 0)))

module _ (n : ℕ) (t : List ℕ) (small : n ≤ 8) (row : List ℤ) (e : row ≡ spectrum_of n t ++ drop (length (spectrum_of n t)) zeros) where
  row_at : (k : ℕ) → k < 2 ^ n → get_or row k (pos 0) ≡ coefficient n (value_at t) k
  unfolding spectrum_of
  row_at k h =
      ap (λ l. get_or l k (pos 0)) e ∙ get_or-append (spectrum_of n t) (drop (length (spectrum_of n t)) zeros) (pos 0) k (omega (arith, length-spectrum n t))
      ∙ get_or-list (2 ^ n) (coefficient n (value_at t)) k (pos 0) h

  row_past : (j : ℕ) → get_or row (length (spectrum_of n t) + j) (pos 0) ≡ pos 0
  row_past j =
      ap (λ l. get_or l (length (spectrum_of n t) + j) (pos 0)) e ∙ get_or-append-add (spectrum_of n t) (drop (length (spectrum_of n t)) zeros) j (pos 0)
      ∙ get_or-drop (length (spectrum_of n t)) zeros j (pos 0) ∙ zero_at (length (spectrum_of n t) + j)

  pub row_size : (k : ℕ) → nat_abs (get_or row k (pos 0)) ≤ 256
  row_size k = by (dec_lt k (2 ^ n))
    where
      by : Dec (k < 2 ^ n) → nat_abs (get_or row k (pos 0)) ≤ 256
      by (yes h) = omega (arith, ap nat_abs (row_at k h), coefficient_size n (value_at t) k, pow_mono {i = n} {j = 8} small)
      by (no h) =
          let j : ℕ = k - 2 ^ n in
          let p : length (spectrum_of n t) + j ≡ k = omega (arith, length-spectrum n t) in
          omega (arith, ap (λ (m : ℕ). nat_abs (get_or row m (pos 0))) (sym p) ∙ ap nat_abs (row_past j))

  module _ (angles opposites : List ℕ) (l : ℕ) (wide : 256 ≤ l) (ea : angles ≡ list l (λ k. angle n (get_or row k (pos 0)))) (eo : opposites ≡ list (length angles) (λ k. minus (get_or angles k 0))) where
    angle_at_lem : (k : ℕ) → k < 2 ^ n → get_or angles k 0 ≡ theta n (value_at t) k
    angle_at_lem k h =
        ap (λ m. get_or m k 0) ea ∙ get_or-list l (λ j. angle n (get_or row j (pos 0))) k 0 (omega (arith, pow_mono {i = n} {j = 8} small)) ∙ ap (angle n) (row_at k h)

    opposite_at : (k : ℕ) → k < 2 ^ n → get_or opposites k 0 ≡ minus (theta n (value_at t) k)
    opposite_at k h =
        let long = ap length ea ∙ length-list l (λ j. angle n (get_or row j (pos 0))) in
        ap (λ m. get_or m k 0) eo ∙ get_or-list (length angles) (λ j. minus (get_or angles j 0)) k 0 (omega (arith, long, pow_mono {i = n} {j = 8} small)) ∙ ap minus (angle_at_lem k h)

    file_is : file_of 1 (n + 1) (parts n (λ k. get_or angles k 0) (λ v. get_or opposites v 0)) ≡ built_file n t
    unfolding construction
    file_is = ap (file_of 1 (n + 1)) (parts_same n (λ k. get_or angles k 0) (λ v. get_or opposites v 0) (theta n (value_at t)) (λ v. minus (theta n (value_at t) v)) angle_at_lem opposite_at)

    -- what the call leaves: the file, then what stood there
    pub leaves_file : 0 < n → (before after : List ℕ) → 2 ^ (n + 4) ≤ length before → after ≡ put_at (file_of 1 (n + 1) (parts n (λ k. get_or angles k 0) (λ v. get_or opposites v 0))) 0 before
        → after ≡ built_file n t ++ drop (length (built_file n t)) before
    leaves_file p before after h w =
        w ∙ ap (λ b. put_at b 0 before) file_is ∙ put_front (built_file n t) before (omega (arith, built_long n t p))
