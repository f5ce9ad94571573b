-- The first bad gate: it is bad, and those before it are good.
use Prim.Native.Nat.{ℕ, zero, suc, ◌+◌, ◌*◌, ◌<◌}
use native.Mathlib.Nat.{zero-add, add-zero, add-suc, suc-add}
use native.Mathlib.Omega.{arith}
use mathlib.Core.Path.{◌≡◌, refl, sym, ap, subst, subst₂, ◌∙◌}
use mathlib.Core.List.{List}
use lib.ListN.{length, drop}
use lib.Seq.{drop-drop}
use borrow.Author.Tests.{le-leb}
use Rattle.circuit.specs.declared.Placed.{Placed}
use Rattle.refusal.specs.declared.Reason.{Reason}
use Rattle.std.specs.Prelude.{Ok, Err}
use Rattle.circuit.specs.Gates.{Decoded, decoded_at, first_bad}
use Rattle.circuit.specs.File.{version_of, wires_of, count_of, bad_of, gate_at}
use Rattle.circuit.proofs.Decoding.{first_bad_lem, first_good}

-- of n gates from position p on, the i-th is the first bad one
record Found (v w n p : ℕ) (bs : List ℕ) : Type 0 where
  i : ℕ
  at : first_bad v w n p bs ≡ p + i
  reason : Reason
  bad : decoded_at v w (p + i) (drop (4 * i) bs) ≡ Err reason
  before : (j : ℕ) → j < i → (g : Placed) × (decoded_at v w (p + j) (drop (4 * j) bs) ≡ Ok g)

-- a gate behind the first, counted from the first
behind : (v w p j : ℕ) (bs : List ℕ) (d : Decoded) → decoded_at v w (suc p + j) (drop (4 * j) (drop 4 bs)) ≡ d → decoded_at v w (p + suc j) (drop (4 * suc j) bs) ≡ d
behind v w p j bs d e =
    let at : 4 + 4 * j ≡ 4 * suc j = omega arith in
    subst₂ (λ (q : ℕ) (l : List ℕ). decoded_at v w q l ≡ d) (suc-add p j ∙ sym (add-suc p j)) (drop-drop (4 * j) 4 bs ∙ ap (λ (q : ℕ). drop q bs) at) e

found : (v w n p : ℕ) (bs : List ℕ) → first_bad v w n p bs < p + n → Found v w n p bs
unfolding first_bad
found v w zero p bs h = absurd (omega arith)
found v w (suc n) p bs h = by (decoded_at v w p bs) refl (found v w n (suc p) (drop 4 bs))
  where
    by : (d : Decoded) → decoded_at v w p bs ≡ d → (first_bad v w n (suc p) (drop 4 bs) < suc p + n → Found v w n (suc p) (drop 4 bs)) → Found v w (suc n) p bs
    by (Err x) e rest = record {
      i = 0;
      at = first_bad_lem v w n p bs x e ∙ sym (add-zero p);
      reason = x;
      bad = rw (add-zero p) e;
      before = λ j k. absurd (omega arith);
    }
    by (Ok q) e rest =
        let f = first_good v w n p bs q e in
        let r = rest (omega arith) in
        record {
          i = suc r.i;
          at = f ∙ r.at ∙ suc-add p r.i ∙ sym (add-suc p r.i);
          reason = r.reason;
          bad = behind v w p r.i bs (Err r.reason) r.bad;
          before = earlier r;
        }
      where
        earlier : (r : Found v w n (suc p) (drop 4 bs)) (j : ℕ) → j < suc r.i → (g : Placed) × (decoded_at v w (p + j) (drop (4 * j) bs) ≡ Ok g)
        earlier r zero k = (q, rw (add-zero p) e)
        earlier r (suc j) k = let g = r.before j (omega arith) in (g.0, behind v w p j bs (Ok g.0) g.1)

module _ (f : List ℕ) (h : bad_of f < count_of f) (whole : length f ≡ 8 + 4 * count_of f) where
  here : Found (version_of f) (wires_of f) (count_of f) 0 (drop 8 f)
  here = found (version_of f) (wires_of f) (count_of f) 0 (drop 8 f) (omega arith)

  place : here.i ≡ bad_of f
  place = sym (here.at ∙ zero-add here.i)

  -- what the decoder makes of the gate at a position of the list is what it makes of it in the file
  at_position : (i : ℕ) (d : Decoded) → i < count_of f → decoded_at (version_of f) (wires_of f) (0 + i) (drop (4 * i) (drop 8 f)) ≡ d → gate_at f i ≡ d
  at_position i d k e =
      rw (le-leb (12 + 4 * i) (length f) (omega arith)) (subst₂ (λ (p : ℕ) (bs : List ℕ). decoded_at (version_of f) (wires_of f) p bs ≡ d) (zero-add i) (drop-drop (4 * i) 8 f) e)

  pub first_is_bad : (x : Reason) × (gate_at f (bad_of f) ≡ Err x)
  first_is_bad =
      let p = place in
      (here.reason, subst (λ (i : ℕ). gate_at f i ≡ Err here.reason) p (at_position here.i (Err here.reason) (omega arith) here.bad))

  pub before_is_good : (i : ℕ) → i < bad_of f → (g : Placed) × (gate_at f i ≡ Ok g)
  before_is_good i k =
      let p = place in
      let g = here.before i (omega arith) in
      (g.0, at_position i (Ok g.0) (omega arith) g.1)
