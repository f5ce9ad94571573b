-- Sums over the phase gates that a walk meets: term by term, and exchanged with another sum.
use Rattle.std.proofs.Common.{◌≡◌, ℕ, suc, ◌+◌, ◌*◌, ◌^◌, ◌<◌, List, [], ◌∷◌, get_or, refl, ◌∙◌, ap₂, mul-zero, mul-add}
use Rattle.numbers.specs.Sums.{sum}
use Rattle.numbers.specs.Working.{◌≈◌}
use Rattle.numbers.proofs.Sums.{ℕ-adds, interchange, sum_of-ext, sum_of-plus}
use Rattle.numbers.proofs.Subsets.{sum_zero}
use Rattle.numbers.proofs.Turns.{≈_refl, ≈-add}
use Rattle.circuit.specs.declared.Gate.{Gate}
use Rattle.circuit.specs.declared.Gate.TheVariants.{Cnot, Phase, Inverter}
use Rattle.running.specs.Working.{numbers_after, Met, Unmet, At, met, met_by, sum_numbers}
use Rattle.running.proofs.Masks.{NumbersBelow, after_below}

-- the same angle where each term is, at numbers of w wires
pub sum_numbers-≈ : (w : ℕ) (f h : ℕ → ℕ → ℕ) → ((m a : ℕ) → m < 2 ^ suc w → f m a ≈ h m a) → (gs : List Gate) (ms : List ℕ) → NumbersBelow w ms → sum_numbers f gs ms ≈ sum_numbers h gs ms
unfolding sum_numbers
sum_numbers-≈ w f h e [] ms b = ≈_refl {a = 0}
sum_numbers-≈ w f h e (g ∷ gs) ms b = ≈-add (one g) (sum_numbers-≈ w f h e gs (numbers_after g ms) (after_below w g ms b))
  where
    one : (g : Gate) → met_by f (met g ms) ≈ met_by h (met g ms)
    one (Cnot c t) = ≈_refl {a = 0}
    one (Phase i a) = e (get_or ms i 0) a (b i)
    one (Inverter i) = ≈_refl {a = 0}

-- the sum of two terms is the two sums
pub sum_numbers-plus : (f h : ℕ → ℕ → ℕ) (gs : List Gate) (ms : List ℕ) → sum_numbers (λ m a. f m a + h m a) gs ms ≡ sum_numbers f gs ms + sum_numbers h gs ms
unfolding sum_numbers
sum_numbers-plus f h [] ms = refl
sum_numbers-plus f h (g ∷ gs) ms = ap₂ ◌+◌ (one (met g ms)) (sum_numbers-plus f h gs (numbers_after g ms)) ∙ interchange 0 ◌+◌ ℕ-adds (met_by f (met g ms)) (met_by h (met g ms)) (sum_numbers f gs (numbers_after g ms)) (sum_numbers h gs (numbers_after g ms))
  where
    one : (r : Met) → met_by (λ m a. f m a + h m a) r ≡ met_by f r + met_by h r
    one Unmet = refl
    one (At m a) = refl

-- a sum of such sums is one sum over the gates
pub sum_numbers-swap : (n : ℕ) (k : ℕ → ℕ) (f : ℕ → ℕ → ℕ → ℕ) (gs : List Gate) (ms : List ℕ) → sum n (λ s. k s * sum_numbers (f s) gs ms) ≡ sum_numbers (λ m a. sum n (λ s. k s * f s m a)) gs ms
unfolding sum_numbers
sum_numbers-swap n k f [] ms = sum_zero n (λ s. k s * 0) (λ s h. mul-zero (k s))
sum_numbers-swap n k f (g ∷ gs) ms =
    sum_of-ext 0 ◌+◌ n (λ s. k s * (met_by (f s) (met g ms) + sum_numbers (f s) gs (numbers_after g ms))) (λ s. k s * met_by (f s) (met g ms) + k s * sum_numbers (f s) gs (numbers_after g ms))
    (λ s h. mul-add (k s) (met_by (f s) (met g ms)) (sum_numbers (f s) gs (numbers_after g ms)))
    ∙ sum_of-plus 0 ◌+◌ ℕ-adds n (λ s. k s * met_by (f s) (met g ms)) (λ s. k s * sum_numbers (f s) gs (numbers_after g ms))
    ∙ ap₂ ◌+◌ (one (met g ms)) (sum_numbers-swap n k f gs (numbers_after g ms))
  where
    one : (r : Met) → sum n (λ s. k s * met_by (f s) r) ≡ met_by (λ m a. sum n (λ s. k s * f s m a)) r
    one Unmet = sum_zero n (λ s. k s * 0) (λ s h. mul-zero (k s))
    one (At m a) = refl
