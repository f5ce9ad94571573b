-- The weights of the sets, by how many wires they have, and a sum weighed by them.
use Rattle.std.proofs.Common.{◌≡◌, ℕ, zero, suc, ◌*◌, ◌%◌, ◌<◌, List, [], ◌∷◌, refl, ap, ◌∙◌, arith}
use lib.Count.{ones, ones-le}
use Rattle.numbers.specs.Sums.{list}
use Rattle.numbers.proofs.Lists.{get_or-list}
use Rattle.numbers.proofs.Turns.{≈-scale, ≈-mod}
use Rattle.running.specs.Masks.{most_wires, most_masks}
use Rattle.coefficients.specs.Working.{entry, weight_of, weight_at, weighed_at}

-- a set of up to ten wires
pub few_ones : (s : ℕ) → s < most_masks → ones s < 11
few_ones s h = omega (arith, ones-le most_wires s h)

abbrev table : List ℕ
table = 0 ∷ 1 ∷ 65534 ∷ 4 ∷ 65528 ∷ 16 ∷ 65504 ∷ 64 ∷ 65408 ∷ 256 ∷ 65024 ∷ []

all_weights : table ≡ list 11 (λ k. weight_of k % 65536)
all_weights = refl

pub weight_at_lem : (s : ℕ) → s < most_masks → entry table (ones s) ≡ weight_at s
weight_at_lem s h = ap (λ (l : List ℕ). entry l (ones s)) all_weights ∙ get_or-list 11 (λ k. weight_of k % 65536) (ones s) 0 (few_ones s h)

pub weighs : (constant s x weight value : ℕ) → (s ≡ 0 → ⊥) → weight ≡ weight_at s → value ≡ weight * x % 65536 → value ≡ weighed_at constant s x
weighs constant zero x weight value h e q = absurd (h refl)
weighs constant (suc s) x weight value h e q = q ∙ ap (λ (n : ℕ). n * x % 65536) e ∙ (≈-scale x (≈-mod (weight_of (ones (suc s))))).alike
