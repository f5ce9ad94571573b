-- 02 §9: what is answered is what its sentences say, and they decide it; compare says Same; 2,048 suffices; and the order of the refusals.
use Prim.Native.Nat.{ℕ, ◌^◌, ◌<◌, ◌≤◌}
use mathlib.Core.Path.{◌≡◌, refl, ap, ap₂, ◌∙◌}
use mathlib.Core.Logic.{inl, inr}
use mathlib.Core.List.{List, [], ◌∷◌, ◌++◌}
use lib.ListN.{length, drop}
use Rattle.std.specs.Prelude.{Result, Ok}
use Rattle.refusal.specs.declared.Refusal.{Refusal}
use Rattle.refusal.specs.Names.{refusal, ROOM, ALLOW}
use Rattle.refusal.specs.Checks.{passed, refused, outcome, room_check}
use Rattle.refusal.specs.Contract.{values, said_of}
use Rattle.refusal.proofs.Outcomes.{reaches, parts_pass, then_refused, then_passed}
use Rattle.refusal.proofs.Contracts.{when_passed, when_refused, meets_passed}
use Rattle.circuit.specs.Bytes.{Bytes}
use Rattle.circuit.specs.File.{wires_of, gates_of, file_checks, file_of}
use Rattle.circuit.proofs.Callers.{good_file}
use Rattle.circuit.proofs.Files.{file_written}
use Rattle.fold.specs.Fold.{folded_file}
use Rattle.fold.proofs.Files.{folded_passes, folded_bytes}
use Rattle.verdict.specs.declared.Verdict.TheVariants.{Same}
use Rattle.verdict.specs.declared.Verdict.{Verdict}
use Rattle.verdict.specs.Judging.{Compares}
use Rattle.cancel.specs.declared.Cancelled.{Cancelled}
use Rattle.cancel.specs.Cancel.{steps, cancelled_file, most_allowed, allow_check, cancel_checks, cancelled_says, Cancels}
use Rattle.cancel.specs.Sentences.{Pair}
use Rattle.cancel.proofs.Sentences.{cancelling_only}
use Rattle.cancel.proofs.Files.{same_version, same_wires, cancelled_passes, cancelled_bytes, count_falls, file_cancels, file_others, file_end, file_phase, all_gone}
use Rattle.cancel.proofs.Callers.{cancel_values, cancelled_distinct}
use Rattle.promises.specs.Pairs.{PaperCancelled}
use Rattle.promises.proofs.Demand3.{Like, like_itself, like_then, like_folded, alike_are_same}

-- ---- the file that is left

module _ (f : List ℕ) (b : Bytes f) (good : outcome (file_checks 0 f) ≡ passed) where
  -- "0 to 2,048": with 2,048 allowed no pair is left, whatever the file
  pub most_suffices : (p : ℕ) → Pair (gates_of (cancelled_file f most_allowed)) p → ⊥
  most_suffices = all_gone 0 f b good

  like_cancelled : (most : ℕ) → Like f (cancelled_file f most)
  like_cancelled most =
      record { passes = cancelled_passes 0 f b good most; wires = same_wires f most; runs = λ x. record { ends = file_end 0 f b good most x; phases = file_phase 0 f b good most x } }

  -- "The result is Same as its input", whichever is given first
  pub cancelled_is_same : (most : ℕ) (work : List ℕ) → 2 ^ wires_of f ≤ length work → (c : Result Verdict Refusal) (after : List ℕ) → Compares f (cancelled_file f most) work c after → c ≡ Ok Same
  cancelled_is_same most = alike_are_same f f (cancelled_file f most) (like_itself f good) (like_cancelled most)

  pub input_is_same : (most : ℕ) (work : List ℕ) → 2 ^ wires_of f ≤ length work → (c : Result Verdict Refusal) (after : List ℕ) → Compares (cancelled_file f most) f work c after → c ≡ Ok Same
  input_is_same most = alike_are_same f (cancelled_file f most) f (like_cancelled most) (like_itself f good)

-- "Folding leaves CNOTs beside their twin.": folded, then cancelled, it still is
pub folded_cancelled_is_same : (f : List ℕ) → Bytes f → outcome (file_checks 0 f) ≡ passed → (most : ℕ) (work : List ℕ) → 2 ^ wires_of f ≤ length work → (c : Result Verdict Refusal) (after : List ℕ)
    → Compares f (cancelled_file (folded_file f) most) work c after → c ≡ Ok Same
folded_cancelled_is_same f b good most =
    let g = folded_file f in
    alike_are_same f f (cancelled_file g most) (like_itself f good) (like_then f g (cancelled_file g most) (like_folded f b good) (like_cancelled g (folded_bytes 0 f b good) (folded_passes 0 f b good 0) most))

-- ---- what is answered

module _ (f : List ℕ) (most : ℕ) (out : List ℕ) (a : Result Cancelled Refusal) (after : List ℕ) (b : Bytes f) (p : outcome (cancel_checks f most (length out)) ≡ passed) where
  good : outcome (file_checks 0 f) ≡ passed
  good = (parts_pass (file_checks 0 f) (allow_check most ++ room_check (length out) (length (cancelled_file f most))) p).0

  -- what meets the contract is what 02 says ..
  pub cancel_paper : Cancels f most out a after → PaperCancelled f most out a after
  cancel_paper m =
      let r = when_passed cancelled_says (outcome (cancel_checks f most (length out))) (cancel_values f most) (cancelled_file f most) out a after p m in
      record {
        file = cancelled_file f most;
        pairs = steps most (gates_of f);
        answers = cancelled_distinct a (Ok (record { length = length (cancelled_file f most); pairs = steps most (gates_of f) })) r.0;
        holds = r.1;
        bytes = cancelled_bytes 0 f b good most;
        good = cancelled_passes 0 f b good most;
        version = same_version f most;
        wires = same_wires f most;
        cancels = file_cancels 0 f b good most;
        same = cancelled_is_same f b good most;
        falls = count_falls 0 f b good most;
        others = file_others 0 f b good most;
      }

  -- .. and nothing else is: whatever takes so many single steps, and stops early only where no pair is left, meets it
  pub paper_cancels : PaperCancelled f most out a after → Cancels f most out a after
  paper_cancels c =
      let only = cancelling_only most c.pairs (gates_of f) (gates_of c.file) c.cancels in
      let same : c.file ≡ cancelled_file f most = file_written c.file c.bytes (good_file 0 c.file (c.good 0)) ∙ (λ i. file_of (c.version i) (c.wires i) (only.1 i)) in
      meets_passed cancelled_says (outcome (cancel_checks f most (length out))) (cancel_values f most) (cancelled_file f most) out a after
      (ap cancelled_says c.answers ∙ ap₂ (λ (l n : ℕ). values (l ∷ n ∷ [])) (ap length same) only.0) p (c.holds ∙ ap (λ (g : List ℕ). g ++ drop (length g) out) same)

-- ---- the order

module _ (f : List ℕ) (most : ℕ) (out : List ℕ) (a : Result Cancelled Refusal) (after : List ℕ) (m : Cancels f most out a after) where
  -- where the checks come to a refusal it is answered, and nothing is written
  answers : (r : Refusal) → outcome (cancel_checks f most (length out)) ≡ refused r → (cancelled_says a ≡ said_of r) × (after ≡ out)
  answers r e = when_refused cancelled_says (outcome (cancel_checks f most (length out))) (cancel_values f most) (cancelled_file f most) out a after r e m

  -- "the file's own", whatever is allowed and whatever the room
  pub file_before_allow : (r : Refusal) → outcome (file_checks 0 f) ≡ refused r → (cancelled_says a ≡ said_of r) × (after ≡ out)
  file_before_allow r e = answers r (then_refused (file_checks 0 f) (allow_check most ++ room_check (length out) (length (cancelled_file f most))) r e)

  module _ (good : outcome (file_checks 0 f) ≡ passed) where
    -- "then 18 ALLOW above 2,048", whatever the room
    pub allow_before_room : most_allowed < most → (cancelled_says a ≡ said_of (refusal ALLOW)) × (after ≡ out)
    allow_before_room h = answers (refusal ALLOW) (then_passed (file_checks 0 f) (allow_check most ++ room_check (length out) (length (cancelled_file f most))) good ∙ reaches (allow_check most ++ room_check (length out) (length (cancelled_file f most))) (refused (refusal ALLOW)) (inl (h, refl)))

    -- "then 13"
    pub room_behind_allow : most ≤ most_allowed → length out < length (cancelled_file f most) → (cancelled_says a ≡ said_of (refusal ROOM)) × (after ≡ out)
    room_behind_allow h k =
        answers (refusal ROOM) (then_passed (file_checks 0 f) (allow_check most ++ room_check (length out) (length (cancelled_file f most))) good
        ∙ reaches (allow_check most ++ room_check (length out) (length (cancelled_file f most))) (refused (refusal ROOM)) (inr (h, inl (k, refl))))
