-- One gate of each walk, as the code does it.
use Rattle.std.proofs.Common.{◌≡◌, ℕ, ◌+◌, ◌*◌, ◌%◌, ◌^◌, ◌<◌, [], ◌∷◌, ap, ◌∙◌, subst, ap₂, mod-eq_of_lt, arith}
use lib.Bits.{bit_xor}
use Rattle.numbers.specs.Bits.{bit}
use Rattle.circuit.specs.declared.Gate.{Gate}
use Rattle.circuit.specs.declared.Gate.TheVariants.{Cnot}
use Rattle.circuit.specs.Working.{Sound}
use Rattle.running.specs.Run.{stepped, added, cnots, score, inverters}
use Rattle.running.specs.Working.{run_step, count_step}
use Rattle.running.proofs.Runs.{weight_below}
use Rattle.running.proofs.Walks.{three}

module _ (g : Gate) (s b : ℕ) (sound : Sound 10 g) where
  pub cnot_steps : (c t : ℕ) → g ≡ Cnot c t → b ≡ bit s c → bit_xor s (b * 2 ^ t % 65536) ≡ stepped g s
  cnot_steps c t e p =
      let k = subst (Sound 10) e sound in
      let small : b * 2 ^ t < 65536 = weight_below b t 16 (omega arith) (omega (arith, k.1)) in
      rw e (ap (bit_xor s) (mod-eq_of_lt small ∙ ap (◌* 2 ^ t) p))

pub run_stepped : (g : Gate) (s p turn s' p' : ℕ) → turn ≡ added g s → s' ≡ stepped g s → p' ≡ (p + turn) % 2 ^ 16 → (s', p') ≡ run_step g (s, p)
run_stepped g s p turn s' p' t e q = ap₂ (λ (m n : ℕ). (m, n)) e (q ∙ ap (λ (n : ℕ). (p + n) % 65536) t)

pub count_stepped : (g : Gate) (c s i x y z : ℕ) → x ≡ cnots (g ∷ []) → y ≡ score (g ∷ []) → z ≡ inverters (g ∷ []) → (c + x, s + y, i + z) ≡ count_step g (c, s, i)
count_stepped g c s i x y z p q r = three (ap (c +◌) p) (ap (s +◌) q) (ap (i +◌) r)
