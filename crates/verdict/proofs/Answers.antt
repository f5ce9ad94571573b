-- The ways out of compare and judge, and that no two answers say the same.
use Rattle.std.proofs.Common.{◌≡◌, ℕ, ◌^◌, ◌<◌, ◌≤◌, List, [], ◌∷◌, ◌++◌, length, drop, refl, ap, ◌∙◌, inl, inr}
use Rattle.refusal.specs.declared.Refusal.{Refusal}
use Rattle.refusal.specs.Names.{refusal, UNLIKE, ROOM}
use Rattle.refusal.specs.Checks.{Check, check, other, Outcome, passed, refused, outcome}
use Rattle.refusal.specs.Contract.{values, Meets}
use Rattle.refusal.proofs.Outcomes.{reaches, then_passed}
use Rattle.refusal.proofs.Passed.{passed_fail}
use Rattle.refusal.proofs.Rooms.{earlier_refused, room_refused, room_enough}
use Rattle.verdict.specs.declared.Verdict.{Verdict}
use Rattle.std.specs.Prelude.{Result, Ok, Err}
use Rattle.verdict.specs.Judging.{verdict_values, compared_says, work_checks}

-- the checks on wires and work
module _ (w v : ℕ) (vs result before : List ℕ) where
  abbrev unlike_check : List Check
  unlike_check = check (other w v) (refusal UNLIKE) ∷ []

  abbrev Works : Result Verdict Refusal → List ℕ → Type 0
  Works answer after = Meets compared_says (outcome (work_checks w v (length before))) vs result before answer after

  pub wires_refused : (w ≡ v → ⊥) → (r : Refusal) → r ≡ refusal UNLIKE → Works (Err r) before
  wires_refused h r e = earlier_refused compared_says unlike_check (2 ^ w) vs result before (Err r) r refl (reaches unlike_check (refused r) (inl (h, ap refused e)))

  module _ (h : w ≡ v) where
    alike : outcome unlike_check ≡ passed
    alike = reaches unlike_check passed (inr (h, refl))

    pub work_refused : length before < 2 ^ w → (r : Refusal) → r ≡ refusal ROOM → Works (Err r) before
    work_refused k r e = room_refused compared_says unlike_check (2 ^ w) vs result before alike k (Err r) r refl e

    pub work_enough : 2 ^ w ≤ length before → (d : Verdict) → verdict_values d ≡ vs → (after : List ℕ) → after ≡ result ++ drop (length result) before → Works (Ok d) after
    work_enough k d e after q = room_enough compared_says unlike_check (2 ^ w) vs result before alike k (Ok d) after (ap values e) q

-- both inputs pass, and then the checks on wires and work: the summaries' judgement, whose numbers count where the wires are alike
pub both_passed : (xs ys : List Check) (w v : ℕ) (vs result before : List ℕ) → outcome xs ≡ passed → outcome ys ≡ passed → {vs' result' : List ℕ} → (w ≡ v → (vs' ≡ vs) × (result' ≡ result)) → (answer : Result Verdict Refusal) (after : List ℕ)
    → Meets compared_says (outcome (work_checks w v (length before))) vs' result' before answer after → Meets compared_says (outcome (xs ++ (ys ++ work_checks w v (length before)))) vs result before answer after
both_passed xs ys w v vs result before p q {vs'} {result'} same answer after m = rw (then_passed xs (ys ++ work_checks w v (length before)) p ∙ then_passed ys (work_checks w v (length before)) q) (by (outcome (work_checks w v (length before))) refl m)
  where
    by : (o : Outcome) → outcome (work_checks w v (length before)) ≡ o → Meets compared_says o vs' result' before answer after → Meets compared_says o vs result before answer after
    by (refused r) e n = record { says = n.says; leaves = n.leaves }
    by passed e n =
        let s = same (passed_fail (work_checks w v (length before)) e).0 in
        record { says = n.says ∙ ap values s.0; leaves = n.leaves ∙ ap (λ (l : List ℕ). l ++ drop (length l) before) s.1 }
