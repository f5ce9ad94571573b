-- What a caller of `read` knows when it answers and when it refuses; what a file that passes is; and that no two answers say the same.
use Prim.Native.Nat.{ℕ, ◌+◌, ◌*◌, ◌^◌, ◌≤◌}
use native.Mathlib.Omega.{arith}
use mathlib.Core.Path.{◌≡◌, ap, subst, ◌∙◌}
use mathlib.Core.List.{List, [], ◌∷◌}
use lib.ListN.{length}
use lib.Pow.{pow_mono}
use Rattle.refusal.specs.declared.Refusal.{Refusal}
use Rattle.refusal.specs.Checks.{passed, refused, outcome, AllFail}
use Rattle.refusal.proofs.Passed.{passed_fail, fail_passed}
use Rattle.refusal.proofs.Contracts.{Distinct, answers_distinct, answers_values, answers_refusal}
use Rattle.circuit.specs.declared.Header.{Header}
use Rattle.std.specs.Prelude.{Result, Ok, Err}
use Rattle.circuit.specs.File.{mark_of, version_of, wires_of, count_of, bad_of, file_checks, reading_says, ReadsSide}

-- a file that passes every check
pub record GoodFile (f : List ℕ) : Type 0 where
  pub long : 8 ≤ length f
  pub mark : mark_of f ≡ 0x504847
  pub versioned : 1 ≤ version_of f
  pub known : version_of f ≤ 2
  pub some : 1 ≤ wires_of f
  pub few : wires_of f ≤ 10
  pub count : count_of f ≤ 2048
  pub whole : length f ≡ 8 + 4 * count_of f
  pub gates : count_of f ≤ bad_of f

pub good_file : (s : ℕ) (f : List ℕ) → outcome (file_checks s f) ≡ passed → GoodFile f
good_file s f e =
    let h = passed_fail (file_checks s f) e in
    let r = h.1.1.1.1 in
    record {
      long = h.0;
      mark = h.1.0;
      versioned = omega (arith, h.1.1.0);
      known = h.1.1.1.0;
      some = omega (arith, r.0);
      few = r.1.0;
      count = r.1.1.0;
      whole = r.1.1.1.0;
      gates = r.1.1.1.1.0;
    }

pub file_passes : (s : ℕ) (f : List ℕ) → GoodFile f → outcome (file_checks s f) ≡ passed
file_passes s f h =
    fail_passed (file_checks s f) (h.long, (h.mark, (omega (arith, h.versioned), (h.known, (omega (arith, h.some), (h.few, (h.count, (h.whole, (h.gates, tt)))))))))

-- a circuit that was read from a file is of a good one
pub good_circuit : {f : List ℕ} → AllFail (file_checks 0 f) → GoodFile f
good_circuit {f} h = good_file 0 f (fail_passed (file_checks 0 f) h)

pub circuit_passes : {f g : List ℕ} → g ≡ f → AllFail (file_checks 0 g) → outcome (file_checks 0 f) ≡ passed
circuit_passes {f} {g} e h = subst (λ l. outcome (file_checks 0 l) ≡ passed) e (fail_passed (file_checks 0 g) h)

-- passing at one side is passing at any
pub passes_anywhere : (s t : ℕ) (f : List ℕ) → outcome (file_checks s f) ≡ passed → outcome (file_checks t f) ≡ passed
passes_anywhere s t f e = file_passes t f (good_file s f e)

-- a good file's states, sets and masks are fewer than 1,024
pub few_states : (s : ℕ) (f : List ℕ) → outcome (file_checks s f) ≡ passed → 2 ^ wires_of f ≤ 1024
few_states s f e = pow_mono {i = wires_of f} {j = 10} (good_file s f e).few

-- what follows when it answers
pub record Answered (s : ℕ) (f : List ℕ) (w g : ℕ) : Type 0 where
  pub passes : outcome (file_checks s f) ≡ passed
  pub file : GoodFile f
  pub wires : w ≡ wires_of f
  pub count : g ≡ count_of f

pub circuit_answers : (s : ℕ) {f g : List ℕ} → g ≡ f → AllFail (file_checks 0 g) → (w n : ℕ) → w ≡ wires_of g → n ≡ count_of g → Answered s f w n
circuit_answers s {f} {g} e h w n p q =
    let passes = passes_anywhere 0 s f (circuit_passes e h) in
    record { passes = passes; file = good_file s f passes; wires = p ∙ ap wires_of e; count = q ∙ ap count_of e }

module _ (s : ℕ) (f : List ℕ) (r : Result Header Refusal) (says : ReadsSide s f r) where
  pub read_answers : (h : Header) → r ≡ Ok h → Answered s f h.wires h.gates
  read_answers h e =
      let v = answers_values reading_says (outcome (file_checks s f)) (wires_of f ∷ count_of f ∷ []) r says (h.wires ∷ h.gates ∷ []) (ap reading_says e) in
      record { passes = v.0; file = good_file s f v.0; wires = cc v.1; count = cc v.1 }

  -- and when it refuses
  pub read_refuses : (x : Refusal) → r ≡ Err x → outcome (file_checks s f) ≡ refused x
  read_refuses x e = answers_refusal reading_says (outcome (file_checks s f)) (wires_of f ∷ count_of f ∷ []) r says x (ap reading_says e)

pub reading_distinct : Distinct reading_says
reading_distinct = answers_distinct (λ (h : Header). h.wires ∷ h.gates ∷ []) one_header
  where
    one_header : (h k : Header) → h.wires ∷ h.gates ∷ [] ≡ k.wires ∷ k.gates ∷ [] → h ≡ k
    one_header h k e = let w : h.wires ≡ k.wires = cc in let g : h.gates ≡ k.gates = cc in λ i. record { wires = w i; gates = g i }
