-- The first 33 bytes of a table decide: what is read of it is refused as it is, and is all of it where it passes.
use Prim.Native.Nat.{ℕ, ◌-◌, ◌<◌}
use native.Mathlib.Omega.{arith}
use mathlib.Core.Path.{◌≡◌, refl, sym, ap, ◌∙◌}
use mathlib.Core.Bool.{Bool, true, false}
use mathlib.Core.Logic.{inl, inr}
use mathlib.Core.List.{List, [], ◌∷◌}
use lib.Dec.{leb}
use lib.ListN.{length, take}
use lib.Seq.{length-take-le, take_all}
use lib.Pow.{pow_mono}
use borrow.Author.Tests.{leb-true, leb-false}
use Rattle.refusal.specs.Names.{refusal, VARS, TABLE, PAD}
use Rattle.refusal.specs.Checks.{Check, check, less, other, passed, refused, outcome}
use Rattle.refusal.proofs.Outcomes.{reaches, behind}
use Rattle.refusal.proofs.Passed.{passed_fail}
use Rattle.table.specs.Table.{length_for, unused, table_checks}

-- the checks of a table behind the first
abbrev table_rest : ℕ → ℕ → ℕ → List Check
table_rest n long bits = check (less 8 n) (refusal VARS) ∷ check (other long (length_for n)) (refusal TABLE) ∷ check (other bits 0) (refusal PAD) ∷ []

table_too_long : (n l b m d : ℕ) → 32 < l → 32 < m → outcome (table_rest n l b) ≡ outcome (table_rest n m d)
table_too_long n l b m d h k = by (leb n 8) refl
  where
    by : (t : Bool) → leb n 8 ≡ t → outcome (table_rest n l b) ≡ outcome (table_rest n m d)
    by true e =
        let c = leb-true n 8 e in
        let p = pow_mono {i = n - 3} {j = 5} (omega arith) in
        reaches (table_rest n l b) (refused (refusal TABLE)) (inr (c, inl ((λ z. omega arith), refl)))
        ∙ sym (reaches (table_rest n m d) (refused (refusal TABLE)) (inr (c, inl ((λ z. omega arith), refl))))
    by false e =
        let c = leb-false n 8 e in
        reaches (table_rest n l b) (refused (refusal VARS)) (inl (c, refl)) ∙ sym (reaches (table_rest n m d) (refused (refusal VARS)) (inl (c, refl)))

module _ (n : ℕ) (t : List ℕ) where
  -- 33 bytes of a table decide its refusal
  pub table_cut : outcome (table_checks n (take 33 t)) ≡ outcome (table_checks n t)
  table_cut = by (leb (length t) 33) refl
    where
      by : (b : Bool) → leb (length t) 33 ≡ b → outcome (table_checks n (take 33 t)) ≡ outcome (table_checks n t)
      by true e = ap (λ u. outcome (table_checks n u)) (take_all 33 t (leb-true (length t) 33 e))
      by false e =
          let h = leb-false (length t) 33 e in
          let l = length-take-le 33 t (omega arith) in
          behind _ _ _ (table_too_long n (length (take 33 t)) (unused n (take 33 t)) (length t) (unused n t) (omega arith) (omega arith))

  -- and a table that passes has no more
  pub table_whole : outcome (table_checks n t) ≡ passed → take 33 t ≡ t
  table_whole e =
      let g = passed_fail (table_checks n t) e in
      take_all 33 t (omega (arith, g.1.1.0, pow_mono {i = n - 3} {j = 5} (omega (arith, g.1.0))))
