-- What is written piece by piece at a place: what is left of it.
use Prim.Native.Nat.{ℕ, ◌+◌, ◌<◌, ◌≤◌}
use native.Mathlib.Nat.{add-zero}
use native.Mathlib.Omega.{arith}
use mathlib.Core.Path.{◌≡◌, refl, sym, ap, ap₂, subst, ◌∙◌}
use mathlib.Core.List.{List, [], ◌∷◌, ◌++◌}
use lib.ListN.{length, set, length-append}
use Rattle.circuit.specs.Working.{Wrote}
use Rattle.circuit.specs.Bytes.{put_at}
use Rattle.circuit.proofs.Writing.{put_put, put_sets, length-put}

-- `rest` is left of a text that goes to `start`, and it goes to `at`
pub record Left (text : List ℕ) (start : ℕ) (before rest : List ℕ) (at : ℕ) (now : List ℕ) : Type 0 where
  pub long : length now ≡ length before
  pub fits : at + length rest ≤ length now
  pub ends : at + length rest ≡ start + length text
  pub done : put_at rest at now ≡ put_at text start before

pub all_left : {text rest : List ℕ} (at : ℕ) (out : List ℕ) → text ≡ rest → at + length text ≤ length out → Left text at out rest at out
all_left {text} at out e h = subst (λ (r : List ℕ). Left text at out r at out) e (record { long = refl; fits = h; ends = refl; done = refl })

module _ {text : List ℕ} {start : ℕ} {before : List ℕ} {at : ℕ} {now : List ℕ} (t rest : List ℕ) (l : Left text start before (t ++ rest) at now) where
  pub room : at + length t ≤ length now
  room = omega (arith, l.fits, length-append t rest)

  pub less_left : {behind : ℕ} {after : List ℕ} → Wrote t at now behind after → Left text start before rest behind after
  less_left {behind} {after} w =
      let k = length-append t rest in
      let same : length after ≡ length now = ap length w.written ∙ length-put t at now room in
      record {
        long = same ∙ l.long;
        fits = omega (arith, l.fits, w.ends);
        ends = omega (arith, l.ends, w.ends);
        done = ap₂ (λ (n : ℕ) (o : List ℕ). put_at rest n o) w.ends w.written ∙ put_put t rest at now l.fits ∙ l.done;
      }

module _ {text : List ℕ} {start : ℕ} {before : List ℕ} {at : ℕ} {now : List ℕ} where
  pub all_written : {t : List ℕ} {behind : ℕ} {after : List ℕ} → Left text start before t at now → Wrote t at now behind after → Wrote text start before behind after
  all_written l w = record { ends = w.ends ∙ l.ends; written = w.written ∙ l.done }

  pub none_left : {rest : List ℕ} → rest ≡ [] → Left text start before rest at now → Wrote text start before at now
  none_left e l =
      let m : Left text start before [] at now = subst (λ (r : List ℕ). Left text start before r at now) e l in
      record { ends = sym (add-zero at) ∙ m.ends; written = sym (put_sets [] at now m.fits) ∙ m.done }

-- the same text, said otherwise
pub wrote_same : {t u : List ℕ} {at : ℕ} {before : List ℕ} {behind : ℕ} {after : List ℕ} → t ≡ u → Wrote t at before behind after → Wrote u at before behind after
wrote_same {at = at} {before} {behind} {after} e w = subst (λ (r : List ℕ). Wrote r at before behind after) e w

pub room_same : {t u : List ℕ} (at : ℕ) (out : List ℕ) → t ≡ u → at + length u ≤ length out → at + length t ≤ length out
room_same at out e h = rw e h

-- nothing is written
pub wrote_nothing : (at : ℕ) (out : List ℕ) → at ≤ length out → Wrote [] at out at out
wrote_nothing at out h = record { ends = sym (add-zero at); written = sym (put_sets [] at out (omega arith)) }

-- one byte
pub wrote_one : (b at : ℕ) (out : List ℕ) → at < length out → Wrote (b ∷ []) at out (at + 1) (set out at b)
wrote_one b at out h = record { ends = refl; written = sym (put_sets (b ∷ []) at out (omega arith)) }
