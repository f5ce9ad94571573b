-- The pass that writes: what it leaves of each gate, one after another, are the folded gates.
use Rattle.std.proofs.Common.{◌≡◌, ℕ, ◌<◌, ◌≤◌, List, [], ◌∷◌, ◌++◌, length, get_or, set, sym, refl, ap, ◌∙◌, ap₂, arith, get_or-set_other, get_or-set_same}
use native.Mathlib.Decide.{ℕ_discrete, dec_lt}
use lib.ListN.{get_or-eq_default}
use lib.Seq.{set_out}
use Rattle.circuit.specs.declared.Gate.{Gate}
use Rattle.circuit.specs.declared.Gate.TheVariants.{Cnot, Phase, Inverter}
use Rattle.circuit.specs.Bytes.{Bytes}
use Rattle.circuit.specs.Gates.{bytes_of}
use Rattle.circuit.specs.File.{wires_of, gates_of}
use Rattle.circuit.specs.Working.{written, Wrote}
use Rattle.circuit.proofs.Decoding.{bytes_append, length-bytes}
use Rattle.circuit.proofs.Callers.{GoodFile}
use Rattle.circuit.proofs.Files.{file_sound}
use Rattle.circuit.proofs.Parts.{wrote_nothing}
use Rattle.running.specs.Masks.{most_wires}
use Rattle.running.specs.Working.{totals_of, own_numbers, numbers_after, met}
use Rattle.running.proofs.Masks.{own_alike}
use Rattle.running.proofs.Groups.{total_at_lem}
use Rattle.fold.specs.Fold.{folded}
use Rattle.fold.specs.Working.{taken_from, found, left, leaves, fold_step, fold_put}
use Rattle.std.specs.Prelude.{Option}
use Rattle.std.specs.Prelude.{Some, None}
use Rattle.fold.proofs.Remaining.{cleared, takes, after, remains, remains_alike, same_function, cleared_own, cleared_other}
use Rattle.fold.proofs.Positions.{total_at, folded_remains}

abbrev entry : List ℕ → ℕ → ℕ
entry totals m = get_or totals m 0

-- the row as a function of the number, after a gate and where it looks
module _ (totals held : List ℕ) where
  taken_entry : (g : Gate) → entry (taken_from (met g held) totals) ≡ after (entry totals) (met g held)
  taken_entry (Cnot c t) = refl
  taken_entry (Inverter i) = refl
  taken_entry (Phase i a) = let k = get_or held i 0 in same_function (entry (set totals k 0)) (cleared (entry totals) k) (λ m. by k m (ℕ_discrete m k) (dec_lt k (length totals)))
    where
      by : (k m : ℕ) → Dec (m ≡ k) → Dec (k < length totals) → entry (set totals k 0) m ≡ cleared (entry totals) k m
      by k m (no e) d = get_or-set_other totals k m 0 0 e ∙ sym (cleared_other (entry totals) k m e)
      by k m (yes e) (yes l) = ap (entry (set totals k 0)) e ∙ get_or-set_same totals k 0 0 l ∙ sym (cleared_own (entry totals) k m e)
      by k m (yes e) (no l) =
          ap (λ (t : List ℕ). entry t m) (set_out totals k 0 (omega arith)) ∙ get_or-eq_default totals 0 {n = m} (omega arith) ∙ sym (cleared_own (entry totals) k m e)

  found_entry : (g : Gate) → found (met g held) totals ≡ takes (entry totals) (met g held)
  found_entry (Cnot c t) = refl
  found_entry (Phase i a) = refl
  found_entry (Inverter i) = refl

written_remains : (gs : List Gate) (held totals : List ℕ) → written fold_step fold_put gs (held, totals) ≡ bytes_of (remains (entry totals) gs held)
unfolding written remains bytes_of
written_remains [] held totals = refl
written_remains (g ∷ gs) held totals =
    let held' = numbers_after g held in
    let totals' = taken_from (met g held) totals in
    ap₂ ◌++◌ (ap (λ (t : ℕ). bytes_of (left t g)) (found_entry totals held g))
    (written_remains gs held' totals' ∙ ap (λ (T : ℕ → ℕ). bytes_of (remains T gs held')) (taken_entry totals held g))
    ∙ sym (bytes_append (left (takes (entry totals) (met g held)) g) (remains (after (entry totals) (met g held)) gs held'))

-- from the groups' totals and what each wire holds at first, they are the folded gates
pub written_folded : (f : List ℕ) → Bytes f → GoodFile f → (held totals : List ℕ) → held ≡ own_numbers most_wires → totals ≡ totals_of f
    → written fold_step fold_put (gates_of f) (held, totals) ≡ bytes_of (folded (wires_of f) (gates_of f))
written_folded f bytes good held totals p q =
    let w = wires_of f in
    let gs = gates_of f in
    written_remains gs held totals
    ∙ ap bytes_of
    (ap₂ (λ (T : ℕ → ℕ) (ms : List ℕ). remains T gs ms) (ap entry q ∙ same_function (entry (totals_of f)) (total_at w gs) (total_at_lem f good.few)) p
    ∙ remains_alike (total_at w gs) w gs (own_numbers most_wires) (own_numbers w) (file_sound f bytes good) (own_alike most_wires w good.few) ∙ sym (folded_remains w gs))

-- what is left of one gate: its bytes, or none
pub four_left : (l : Option Gate) (g : Gate) → l ≡ Some g → length (bytes_of (leaves l)) ≡ 4
four_left l g e = length-bytes (leaves l) ∙ rw e

module _ {l : Option Gate} {at : ℕ} {out : List ℕ} where
  pub goes : l ≡ None → at ≤ length out → Wrote (bytes_of (leaves l)) at out at out
  unfolding bytes_of
  goes e h = rw e (wrote_nothing at out h)

  pub stays : {g : Gate} {behind : ℕ} {after : List ℕ} → l ≡ Some g → Wrote (bytes_of (g ∷ [])) at out behind after → Wrote (bytes_of (leaves l)) at out behind after
  stays e w = rw e w
