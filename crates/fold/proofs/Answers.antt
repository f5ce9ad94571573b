-- The operation's three ways out.
use Rattle.std.proofs.Common.{◌≡◌, ℕ, suc, ◌+◌, ◌*◌, ◌^◌, ◌<◌, ◌≤◌, List, [], ◌∷◌, ◌++◌, length, get_or, drop, sym, refl, ap, ◌∙◌, ap₂, zero-add, arith}
use Rattle.numbers.specs.Sums.{sum}
use Rattle.numbers.proofs.Lists.{length-list}
use Rattle.numbers.proofs.Sums.{sum_of-ext}
use Rattle.refusal.specs.declared.Refusal.{Refusal}
use Rattle.refusal.specs.Names.{refusal, ROOM}
use Rattle.refusal.specs.Checks.{passed, refused, outcome}
use Rattle.refusal.specs.Contract.{values}
use Rattle.refusal.proofs.Rooms.{earlier_refused, room_refused, room_enough}
use Rattle.circuit.specs.Bytes.{put_at, Bytes}
use Rattle.circuit.specs.Gates.{bytes_of}
use Rattle.circuit.specs.File.{version_of, wires_of, gates_of, file_checks, file_of, header_bytes}
use Rattle.running.specs.Run.{free_turn, scores, cnots, score, inverters}
use Rattle.circuit.proofs.Callers.{good_file}
use Rattle.circuit.proofs.Files.{length-file}
use Rattle.circuit.proofs.Writing.{put_fits, put_put}
use Rattle.std.specs.Prelude.{Ok, Err}
use Rattle.fold.specs.declared.Folded.{Folded}
use Rattle.running.specs.Masks.{most_wires}
use Rattle.running.specs.Working.{most_groups, totals_of}
use Rattle.running.proofs.Groups.{total_at_lem}
use Rattle.fold.specs.Fold.{folded, folded_file, folded_says, Folds}
use Rattle.fold.specs.Working.{staying, kept_in, score_in}
use Rattle.fold.proofs.Positions.{total_at}
use Rattle.fold.proofs.Scores.{score_of_totals, length-folded}
use Rattle.fold.proofs.Files.{few_gates}
use Rattle.fold.proofs.Callers.{fold_values}

module _ (f before : List ℕ) where
  pub file_fails : (r : Refusal) → outcome (file_checks 0 f) ≡ refused r → Folds f before (Err r) before
  file_fails r e = earlier_refused folded_says (file_checks 0 f) (length (folded_file f)) (fold_values f) (folded_file f) before (Err r) r refl e

  module _ (e : outcome (file_checks 0 f) ≡ passed) where
    pub room_fails : length before < length (folded_file f) → (r : Refusal) → r ≡ refusal ROOM → Folds f before (Err r) before
    room_fails h r p = room_refused folded_says (file_checks 0 f) (length (folded_file f)) (fold_values f) (folded_file f) before e h (Err r) r refl p

    pub answered : length (folded_file f) ≤ length before → (a : Folded) → a.length ≡ length (folded_file f) → a.before ≡ score (gates_of f) → a.after ≡ score (folded (wires_of f) (gates_of f))
        → (after : List ℕ) → after ≡ folded_file f ++ drop (length (folded_file f)) before → Folds f before (Ok a) after
    answered h a p q s after t =
        room_enough folded_says (file_checks 0 f) (length (folded_file f)) (fold_values f) (folded_file f) before e h (Ok a) after (λ i. values (p i ∷ q i ∷ s i ∷ [])) t

length-totals : (f : List ℕ) → length (totals_of f) ≡ most_groups
unfolding totals_of
length-totals f = length-list most_groups (total_at (wires_of f) (gates_of f))

-- what is known once the totals are tallied: how long the folded file will be, and what it scores
pub record Room (f : List ℕ) (moves stay scored : ℕ) : Type 0 where
  pub after : scored ≡ score (folded (wires_of f) (gates_of f))
  pub kept : moves + stay ≡ length (folded (wires_of f) (gates_of f))
  pub few : moves + stay ≤ 2048
  pub whole : 8 + 4 * (moves + stay) ≡ length (folded_file f)

module _ (f : List ℕ) (bytes : Bytes f) (e : outcome (file_checks 0 f) ≡ passed) (ts : List ℕ) (t : ts ≡ totals_of f) where
  -- a sum over the row is one over the groups
  of_totals : (h : ℕ → ℕ) → sum (length ts) (λ n. h (get_or ts n 0)) ≡ sum (2 ^ suc most_wires) (λ n. h (total_at (wires_of f) (gates_of f) n))
  of_totals h =
      ap (λ (l : List ℕ). sum (length l) (λ n. h (get_or l n 0))) t ∙ ap (λ (k : ℕ). sum k (λ n. h (get_or (totals_of f) n 0))) (length-totals f)
      ∙ sum_of-ext 0 ◌+◌ most_groups (λ n. h (get_or (totals_of f) n 0)) (λ n. h (total_at (wires_of f) (gates_of f) n)) (λ n l. ap h (total_at_lem f (good_file 0 f e).few n))

  pub room : (moves stay scored : ℕ) → moves ≡ cnots (gates_of f) + inverters (gates_of f) → stay ≡ kept_in ts → scored ≡ score_in ts → Room f moves stay scored
  room moves stay scored p q r =
      let few = (good_file 0 f e).few in
      let gs = folded (wires_of f) (gates_of f) in
      let k : moves + stay ≡ length gs = ap₂ ◌+◌ p (q ∙ of_totals staying) ∙ sym (length-folded (wires_of f) (gates_of f) most_wires few) in
      record {
        after = r ∙ of_totals (scores free_turn) ∙ sym (score_of_totals (wires_of f) (gates_of f) free_turn most_wires few);
        kept = k;
        few = omega (arith, few_gates 0 f bytes e);
        whole = ap (λ (n : ℕ). 8 + 4 * n) k ∙ sym (length-file (version_of f) (wires_of f) gs);
      }

-- the header, then the gates behind it, are the folded file
module _ (f before : List ℕ) (fits : length (folded_file f) ≤ length before) where
  pub room_behind : 8 + length (bytes_of (folded (wires_of f) (gates_of f))) ≤ length before
  unfolding file_of
  room_behind = omega arith

  pub file_written : (version kept : ℕ) (half after : List ℕ) → version ≡ version_of f → kept ≡ length (folded (wires_of f) (gates_of f)) → half ≡ put_at (header_bytes version (wires_of f) kept) 0 before
      → after ≡ put_at (bytes_of (folded (wires_of f) (gates_of f))) 8 half → after ≡ folded_file f ++ drop (length (folded_file f)) before
  unfolding file_of
  file_written version kept half after v e p q =
      let gs = folded (wires_of f) (gates_of f) in
      q ∙ ap (put_at (bytes_of gs) 8) (p ∙ ap₂ (λ (u n : ℕ). put_at (header_bytes u (wires_of f) n) 0 before) v e)
      ∙ put_put (header_bytes (version_of f) (wires_of f) (length gs)) (bytes_of gs) 0 before (rw (zero-add (length (folded_file f))) fits)
      ∙ put_fits (folded_file f) 0 before (rw (zero-add (length (folded_file f))) fits) ∙ ap (λ (n : ℕ). folded_file f ++ drop n before) (zero-add (length (folded_file f)))
