-- The first 8,201 bytes of a file decide: what is read of it is refused as it is, and is all of it where it passes.
use Prim.Native.Nat.{ℕ, ◌+◌, ◌*◌, ◌<◌}
use native.Mathlib.Omega.{arith}
use mathlib.Core.Path.{◌≡◌, refl, sym, ap, ◌∙◌}
use mathlib.Core.Bool.{Bool, true, false}
use mathlib.Core.Logic.{inl, inr}
use mathlib.Core.List.{List, [], ◌∷◌}
use lib.Dec.{leb}
use lib.ListN.{length, get_or, take}
use lib.Seq.{length-take-le, take_all, get_or-take}
use borrow.Author.Tests.{leb-true, leb-false}
use Rattle.std.specs.Prelude.{Option}
use Rattle.refusal.specs.declared.Reason.{Reason}
use Rattle.refusal.specs.Names.{refusal_at, bad_gate, SHORT, MARK, VERSION, WIRES, COUNT, LENGTH}
use Rattle.refusal.specs.Checks.{Check, check, less, same, other, passed, refused, outcome}
use Rattle.refusal.proofs.Outcomes.{reaches, behind, past}
use Rattle.circuit.specs.File.{mark_of, version_of, wires_of, count_of, bad_of, reason_at, file_checks}
use Rattle.circuit.proofs.Callers.{good_file}

-- the checks of a file by what they look at
abbrev last_checks : ℕ → ℕ → ℕ → ℕ → Option Reason → List Check
last_checks s long count bad reason =
    check (less 2048 count) (refusal_at COUNT s 0) ∷ check (other long (8 + 4 * count)) (refusal_at LENGTH s 0) ∷ check (less bad count) (bad_gate s bad reason) ∷ []

abbrev head_checks : ℕ → ℕ → ℕ → ℕ → List Check → List Check
head_checks s mark version wires rest =
    check (other mark 0x504847) (refusal_at MARK s 0)
    ∷ check (same version 0) (refusal_at VERSION s 0)
    ∷ check (less 2 version) (refusal_at VERSION s 0)
    ∷ check (same wires 0) (refusal_at WIRES s 0)
    ∷ check (less 10 wires) (refusal_at WIRES s 0)
    ∷ rest

abbrev checks_of : ℕ → ℕ → ℕ → ℕ → ℕ → ℕ → ℕ → Option Reason → List Check
checks_of s long mark version wires count bad reason = check (less long 8) (refusal_at SHORT s 0) ∷ head_checks s mark version wires (last_checks s long count bad reason)

-- a file that is too long for 2,048 gates is refused by its header
module _ (s count : ℕ) (l b m d : ℕ) (x y : Option Reason) (h : 8200 < l) (k : 8200 < m) where
  too_long : outcome (last_checks s l count b x) ≡ outcome (last_checks s m count d y)
  too_long = by (leb count 2048) refl
    where
      by : (t : Bool) → leb count 2048 ≡ t → outcome (last_checks s l count b x) ≡ outcome (last_checks s m count d y)
      by true e =
          let c = leb-true count 2048 e in
          reaches (last_checks s l count b x) (refused (refusal_at LENGTH s 0)) (inr (c, inl ((λ z. omega arith), refl)))
          ∙ sym (reaches (last_checks s m count d y) (refused (refusal_at LENGTH s 0)) (inr (c, inl ((λ z. omega arith), refl))))
      by false e =
          let c = leb-false count 2048 e in
          reaches (last_checks s l count b x) (refused (refusal_at COUNT s 0)) (inl (c, refl))
          ∙ sym (reaches (last_checks s m count d y) (refused (refusal_at COUNT s 0)) (inl (c, refl)))

  by_header : (mark version wires : ℕ) → outcome (checks_of s l mark version wires count b x) ≡ outcome (checks_of s m mark version wires count d y)
  by_header mark version wires =
      past _ _ (omega arith) ∙ behind _ _ _ (behind _ _ _ (behind _ _ _ (behind _ _ _ (behind _ _ _ too_long)))) ∙ sym (past _ _ (omega arith))

same_header : (s l b : ℕ) (x : Option Reason) (m m' v v' w w' c c' : ℕ) → m ≡ m' → v ≡ v' → w ≡ w' → c ≡ c' → outcome (checks_of s l m v w c b x) ≡ outcome (checks_of s l m' v' w' c' b x)
same_header s l b x m m' v v' w w' c c' p q r t = rw (p, q, r, t)

module _ (s : ℕ) (f : List ℕ) where
  abbrev cut : List ℕ
  cut = take 8201 f

  kept : (i : ℕ) → i < 8201 → get_or cut i 0 ≡ get_or f i 0
  kept i h = get_or-take 8201 f i 0 h

  -- 8,201 bytes of a file decide its refusal
  pub file_cut : outcome (file_checks s cut) ≡ outcome (file_checks s f)
  file_cut = by (leb (length f) 8201) refl
    where
      by : (t : Bool) → leb (length f) 8201 ≡ t → outcome (file_checks s cut) ≡ outcome (file_checks s f)
      by true e = ap (λ g. outcome (file_checks s g)) (take_all 8201 f (leb-true (length f) 8201 e))
      by false e =
          let h = leb-false (length f) 8201 e in
          let l = length-take-le 8201 f (omega arith) in
          let e0 = kept 0 (omega arith) in
          let e1 = kept 1 (omega arith) in
          let e2 = kept 2 (omega arith) in
          let e3 = kept 3 (omega arith) in
          let e4 = kept 4 (omega arith) in
          let e5 = kept 5 (omega arith) in
          let e6 = kept 6 (omega arith) in
          let e7 = kept 7 (omega arith) in
          same_header s (length cut) (bad_of cut) (reason_at cut (bad_of cut)) (mark_of cut) (mark_of f) (version_of cut) (version_of f) (wires_of cut) (wires_of f) (count_of cut) (count_of f) (omega arith) (omega arith) e5 (omega arith)
          ∙ by_header s (count_of f) (length cut) (bad_of cut) (length f) (bad_of f) (reason_at cut (bad_of cut)) (reason_at f (bad_of f)) (omega arith) (omega arith) (mark_of f) (version_of f) (wires_of f)

  -- and a file that passes has no more
  pub file_whole : outcome (file_checks s f) ≡ passed → cut ≡ f
  file_whole e =
      let g = good_file s f e in
      take_all 8201 f (omega (arith, g.count, g.whole))
