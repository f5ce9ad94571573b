-- 02 §4: of several faults of a gate the first is its reason, and without one it is good; no two reasons have one number.
use Prim.Native.Nat.{ℕ, ◌≤◌}
use native.Mathlib.Omega.{arith}
use mathlib.Core.Path.{◌≡◌, refl, sym, subst}
use mathlib.Core.Logic.{◌⊎◌, inl, inr, ⊎_elim}
use mathlib.Core.Bool.{Bool, true, false, not, ◌||◌, ◌&&◌}
use lib.Dec.{leb, eqb}
use borrow.Author.Tests.{leb-true, leb-false, eqb-true, eqb-false, not-true, not-false}
use Rattle.std.specs.Prelude.{Ok, Err}
use Rattle.refusal.specs.declared.Reason.{Reason}
use Rattle.refusal.specs.declared.Reason.TheVariants.{Kind, Wire, Equal, Spare}
use Rattle.refusal.specs.Names.{reason_number}
use Rattle.refusal.proofs.Numbering.{one_number as one_reason_number}
use Rattle.circuit.specs.Gates.{Decoded, bad_kind, bad_wire, equal_wires, bad_spare, decoded}
use Rattle.circuit.proofs.Decoding.{bad_kind_lem, bad_wire_lem, equal_wires_lem, bad_spare_lem, no_fault}
use Rattle.promises.specs.Reasons.{BadKind, BadWire, EqualWires, BadSpare, FirstFault}

-- a test that says whether a fact holds
abbrev Shows : Bool → Type 0 → Type 0
Shows t A = (t ≡ true → A) × (t ≡ false → ¬ A)

shows_not : {A : Type 0} (t : Bool) → Shows t A → Shows (not t) (¬ A)
shows_not t h = (λ e. h.1 (not-true t e), λ e n. n (h.0 (not-false t e)))

shows_and : {A B : Type 0} (s t : Bool) → Shows s A → Shows t B → Shows (s && t) (A × B)
shows_and true t h k = (λ e. (h.0 refl, k.0 e), λ e x. k.1 e x.1)
shows_and false t h k = (λ e. let z : ◌≡◌ {A = ℕ} 0 1 = cc in absurd (omega arith), λ e x. h.1 refl x.0)

shows_or : {A B : Type 0} (s t : Bool) → Shows s A → Shows t B → Shows (s || t) (A ⊎ B)
shows_or true t h k = (λ e. inl (h.0 refl), λ e x. let z : ◌≡◌ {A = ℕ} 0 1 = cc in absurd (omega arith))
shows_or false t h k = (λ e. inr (k.0 e), λ e x. ⊎_elim (h.1 refl) (k.1 e) x)

shows_same : (m n : ℕ) → Shows (eqb m n) (m ≡ n)
shows_same m n = (eqb-true m n, eqb-false m n)

shows_most : (m n : ℕ) → Shows (leb m n) (m ≤ n)
shows_most m n = (leb-true m n, λ e h. omega (arith, leb-false m n e))

shown : {A : Type 0} (t : Bool) → Shows t A → A → t ≡ true
shown true h x = refl
shown false h x = absurd (h.1 refl x)

denied : {A : Type 0} (t : Bool) → Shows t A → ¬ A → t ≡ false
denied true h n = absurd (n (h.0 refl))
denied false h n = refl

module _ (version w p kind a b c : ℕ) where
  shows_isnt : (m n : ℕ) → Shows (not (eqb m n)) (¬ (m ≡ n))
  shows_isnt m n = shows_not (eqb m n) (shows_same m n)

  shows_kind : Shows (bad_kind version kind) (BadKind version kind)
  shows_kind =
      shows_and (not (eqb kind 1) && not (eqb kind 2)) (not (eqb kind 3) || not (eqb version 2)) (shows_and (not (eqb kind 1)) (not (eqb kind 2)) (shows_isnt kind 1) (shows_isnt kind 2))
      (shows_or (not (eqb kind 3)) (not (eqb version 2)) (shows_isnt kind 3) (shows_isnt version 2))

  shows_wire : Shows (bad_wire w kind a b) (BadWire w kind a b)
  shows_wire = shows_or (leb w a) (eqb kind 1 && leb w b) (shows_most w a) (shows_and (eqb kind 1) (leb w b) (shows_same kind 1) (shows_most w b))

  shows_equal : Shows (equal_wires kind a b) (EqualWires kind a b)
  shows_equal = shows_and (eqb kind 1) (eqb a b) (shows_same kind 1) (shows_same a b)

  shows_spare : Shows (bad_spare kind b c) (BadSpare kind b c)
  shows_spare =
      shows_or (eqb kind 1 && not (eqb c 0)) (eqb kind 3 && (not (eqb b 0) || not (eqb c 0))) (shows_and (eqb kind 1) (not (eqb c 0)) (shows_same kind 1) (shows_isnt c 0))
      (shows_and (eqb kind 3) (not (eqb b 0) || not (eqb c 0)) (shows_same kind 3) (shows_or (not (eqb b 0)) (not (eqb c 0)) (shows_isnt b 0) (shows_isnt c 0)))

  -- what each answer means for the bytes
  abbrev Means : Decoded → Type 0
  Means (Err Kind) = BadKind version kind
  Means (Err Wire) = ¬ (BadKind version kind) × BadWire w kind a b
  Means (Err Equal) = ¬ (BadKind version kind) × ¬ (BadWire w kind a b) × EqualWires kind a b
  Means (Err Spare) = ¬ (BadKind version kind) × ¬ (BadWire w kind a b) × ¬ (EqualWires kind a b) × BadSpare kind b c
  Means (Ok g) = ¬ (BadKind version kind) × ¬ (BadWire w kind a b) × ¬ (EqualWires kind a b) × ¬ (BadSpare kind b c)

  meant : Means (decoded version w p kind a b c)
  meant = by (bad_kind version kind) (bad_wire w kind a b) (equal_wires kind a b) (bad_spare kind b c) refl refl refl refl
    where
      by : (k v e s : Bool) → bad_kind version kind ≡ k → bad_wire w kind a b ≡ v → equal_wires kind a b ≡ e → bad_spare kind b c ≡ s → Means (decoded version w p kind a b c)
      by true v e s k₁ v₁ e₁ s₁ = subst Means (sym (bad_kind_lem version w p kind a b c k₁)) (shows_kind.0 k₁)
      by false true e s k₁ v₁ e₁ s₁ = subst Means (sym (bad_wire_lem version w p kind a b c k₁ v₁)) (shows_kind.1 k₁, shows_wire.0 v₁)
      by false false true s k₁ v₁ e₁ s₁ = subst Means (sym (equal_wires_lem version w p kind a b c k₁ v₁ e₁)) (shows_kind.1 k₁, shows_wire.1 v₁, shows_equal.0 e₁)
      by false false false true k₁ v₁ e₁ s₁ = subst Means (sym (bad_spare_lem version w p kind a b c k₁ v₁ e₁ s₁)) (shows_kind.1 k₁, shows_wire.1 v₁, shows_equal.1 e₁, shows_spare.0 s₁)
      by false false false false k₁ v₁ e₁ s₁ = subst Means (sym (no_fault version w p kind a b c k₁ v₁ e₁ s₁)) (shows_kind.1 k₁, shows_wire.1 v₁, shows_equal.1 e₁, shows_spare.1 s₁)

  kind_fails : ¬ (BadKind version kind) → bad_kind version kind ≡ false
  kind_fails = denied (bad_kind version kind) shows_kind

  wire_fails : ¬ (BadWire w kind a b) → bad_wire w kind a b ≡ false
  wire_fails = denied (bad_wire w kind a b) shows_wire

  equal_fails : ¬ (EqualWires kind a b) → equal_wires kind a b ≡ false
  equal_fails = denied (equal_wires kind a b) shows_equal

  -- "tried in that order"
  pub first_fault : FirstFault version w p kind a b c
  first_fault = record {
    kind_first = (λ e. subst Means e meant, λ x. bad_kind_lem version w p kind a b c (shown (bad_kind version kind) shows_kind x));
    then_wire = (λ e. subst Means e meant, λ h. bad_wire_lem version w p kind a b c (kind_fails h.0) (shown (bad_wire w kind a b) shows_wire h.1));
    then_equal = (λ e. subst Means e meant, λ h. equal_wires_lem version w p kind a b c (kind_fails h.0) (wire_fails h.1) (shown (equal_wires kind a b) shows_equal h.2));
    then_spare = (λ e. subst Means e meant, λ h. bad_spare_lem version w p kind a b c (kind_fails h.0) (wire_fails h.1) (equal_fails h.2) (shown (bad_spare kind b c) shows_spare h.3));
    else_good = (λ e. subst Means e meant, λ h. no_fault version w p kind a b c (kind_fails h.0) (wire_fails h.1) (equal_fails h.2) (denied (bad_spare kind b c) shows_spare h.3));
  }

-- no two reasons have one number
pub one_number : (x y : Reason) → reason_number x ≡ reason_number y → x ≡ y
one_number = one_reason_number
