-- The third demand: of any two well-formed circuits, and of a circuit and a table, `compare_either` and `judge_either`
-- of the file Verdicts; here, of the circuits that are built and folded.
use Prim.Native.Nat.{ℕ, zero, suc, ◌+◌, ◌*◌, ◌/◌, ◌%◌, ◌^◌, ◌<◌, ◌≤◌}
use native.Mathlib.Nat.{mod-eq_of_lt, div-add-mod', mod-lt, add_comm, add-mul-mod_self_right, add-mul-div_right, div-eq_of_lt}
use native.Mathlib.Omega.{arith}
use mathlib.Core.Path.{◌≡◌, refl, sym, ap, subst, subst₂, ◌∙◌}
use mathlib.Core.Logic.{inl, inr}
use mathlib.Core.List.{List}
use lib.ListN.{length}
use lib.Pow.{pow_pos, pow-add, shr_lt}
use Rattle.std.specs.Prelude.{Result, Ok}
use Rattle.numbers.specs.Bits.{bit}
use Rattle.refusal.specs.declared.Refusal.{Refusal}
use Rattle.refusal.specs.Checks.{passed, outcome}
use Rattle.table.specs.Table.{table_checks, value_at}
use Rattle.table.proofs.Callers.{good_variables}
use Rattle.running.specs.Run.{end_from, phase_from}
use Rattle.circuit.specs.File.{wires_of, gates_of, file_checks}
use Rattle.circuit.specs.Bytes.{Bytes}
use Rattle.circuit.proofs.Callers.{passes_anywhere}
use Rattle.circuit.proofs.FileBytes.{file_bytes}
use Rattle.build.specs.Construction.{construction, built_file}
use Rattle.build.proofs.Files.{built_passes, built_wires, built_gates, few_gates}
use Rattle.build.proofs.Oracle.{construction_run}
use Rattle.build.proofs.Circuits.{sound_construction}
use Rattle.fold.specs.Fold.{folded_file}
use Rattle.fold.proofs.Files.{same_wires, folded_passes, file_end, file_phase, file_twice}
use Rattle.verdict.specs.declared.Verdict.{Verdict}
use Rattle.verdict.specs.declared.Verdict.TheVariants.{Same, Different}
use Rattle.verdict.specs.Verdicts.{circuit, ideal, Agree}
use Rattle.verdict.specs.Judging.{Compares, Judges}
use Rattle.verdict.proofs.Callers.{compare_passes, judge_passes}
use Rattle.promises.specs.Demands.{ThirdDemand, foldings}
use Rattle.promises.proofs.Verdicts.{compare_all_same, judge_same, judge_all_same, judge_either}
use Rattle.promises.proofs.Tables.{tables_same}

-- ---- a folded circuit and its original

-- a file that does on the same wires what f does
pub record Like (f g : List ℕ) : Type 0 where
  pub passes : (side : ℕ) → outcome (file_checks side g) ≡ passed
  pub wires : wires_of g ≡ wires_of f
  pub runs : (x : ℕ) → Agree (circuit (gates_of g)) (circuit (gates_of f)) x

-- two of them are the same
pub alike_are_same : (f g h : List ℕ) → Like f g → Like f h → (work : List ℕ) → 2 ^ wires_of f ≤ length work → (c : Result Verdict Refusal) (after : List ℕ) → Compares g h work c after → c ≡ Ok Same
alike_are_same f g h p q work room c after m =
    compare_all_same g h work c after m
    (compare_passes g h work (p.passes 0) (q.passes 1) (p.wires ∙ sym q.wires) (subst (λ (w : ℕ). 2 ^ w ≤ length work) (sym p.wires) room))
    (λ x l. record { ends = (p.runs x).ends ∙ sym (q.runs x).ends; phases = (p.runs x).phases ∙ sym (q.runs x).phases })

pub like_then : (f g h : List ℕ) → Like f g → Like g h → Like f h
like_then f g h p q =
    record { passes = q.passes; wires = q.wires ∙ p.wires; runs = λ x. record { ends = (q.runs x).ends ∙ (p.runs x).ends; phases = (q.runs x).phases ∙ (p.runs x).phases } }

pub like_itself : (f : List ℕ) → outcome (file_checks 0 f) ≡ passed → Like f f
like_itself f good = record { passes = λ side. passes_anywhere 0 side f good; wires = refl; runs = λ x. record { ends = refl; phases = refl } }

module _ (f : List ℕ) (b : Bytes f) (good : outcome (file_checks 0 f) ≡ passed) where
  pub like_folded : Like f (folded_file f)
  like_folded = record { passes = folded_passes 0 f b good; wires = same_wires f; runs = λ x. record { ends = file_end 0 f b good x; phases = file_phase 0 f b good x } }

  -- from the first folding on nothing changes
  folded_once : (k : ℕ) → foldings (suc k) f ≡ folded_file f
  folded_once zero = refl
  folded_once (suc k) = ap folded_file (folded_once k) ∙ file_twice 0 f b good

  like_foldings : (k : ℕ) → Like f (foldings k f)
  like_foldings zero = like_itself f good
  like_foldings (suc k) = rw (folded_once k) like_folded

  -- however often each side is folded
  pub foldings_are_same : (j k : ℕ) (work : List ℕ) → 2 ^ wires_of f ≤ length work → (c : Result Verdict Refusal) (after : List ℕ) → Compares (foldings j f) (foldings k f) work c after → c ≡ Ok Same
  foldings_are_same j k = alike_are_same f (foldings j f) (foldings k f) (like_foldings j) (like_foldings k)

  -- "A folded circuit is always the same as its original."
  pub folded_is_same : (work : List ℕ) → 2 ^ wires_of f ≤ length work → (c : Result Verdict Refusal) (after : List ℕ) → Compares f (folded_file f) work c after → c ≡ Ok Same
  folded_is_same = foldings_are_same 0 1

  -- the folded circuit first
  pub original_is_same : (work : List ℕ) → 2 ^ wires_of f ≤ length work → (c : Result Verdict Refusal) (after : List ℕ) → Compares (folded_file f) f work c after → c ≡ Ok Same
  original_is_same = foldings_are_same 1 0

  -- two foldings of it
  pub two_foldings_are_same : (work : List ℕ) → 2 ^ wires_of f ≤ length work → (c : Result Verdict Refusal) (after : List ℕ) → Compares (folded_file f) (folded_file f) work c after → c ≡ Ok Same
  two_foldings_are_same = foldings_are_same 1 1

-- ---- the oracle of its table

-- a state of n + 1 wires is x + y 2^n
pub split_state : (n s : ℕ) → s < 2 ^ (n + 1) → s ≡ s % 2 ^ n + bit s n * 2 ^ n
split_state n s h =
    let q : s / 2 ^ n < 2 = shr_lt {n = s} 1 n (subst (λ (m : ℕ). s < 2 ^ m) (add_comm n 1) h) in
    sym (div-add-mod' s (2 ^ n)) ∙ add_comm (s / 2 ^ n * 2 ^ n) (s % 2 ^ n) ∙ ap (λ (y : ℕ). s % 2 ^ n + y * 2 ^ n) (let e : s / 2 ^ n ≡ s / 2 ^ n % 2 = omega arith in e)

half_turns : (a b : ℕ) → a < 2 → b < 2 → 32768 * a * b % 65536 ≡ 32768 * (a * b)
half_turns zero b h k = omega arith
half_turns (suc zero) b h k = omega arith
half_turns (suc (suc a)) b h k = absurd (omega arith)

-- the construction for f does what f's ideal does, for every n at which a quarter turn can be split into 2^n angles
pub construction_agrees : (n : ℕ) (f : ℕ → ℕ) → n ≤ 14 → ((x : ℕ) → f x < 2) → (s : ℕ) → s < 2 ^ (n + 1) → Agree (circuit (construction n f)) (ideal n f) s
construction_agrees n f few value s h =
    let x = s % 2 ^ n in
    let y = bit s n in
    let r = construction_run n f x y few (mod-lt s (pow_pos n)) (omega arith) (value x) in
    let e = split_state n s h in
    record { ends = ap (end_from (construction n f)) e ∙ r.0 ∙ sym e; phases = ap (phase_from (construction n f)) e ∙ r.1 ∙ half_turns (f x) y (value x) (omega arith) }

module _ (n : ℕ) (t : List ℕ) (good : outcome (table_checks n t) ≡ passed) where
  some : 0 < n
  some = (good_variables n t good).0

  few : n ≤ 8
  few = (good_variables n t good).1

  pub built_agrees : (s : ℕ) → s < 2 ^ (n + 1) → Agree (circuit (gates_of (built_file n t))) (ideal n (value_at t)) s
  built_agrees s h =
      subst (λ gs. Agree (circuit gs) (ideal n (value_at t)) s) (sym (built_gates n t some few)) (construction_agrees n (value_at t) (omega (arith, few)) (λ x. omega arith) s h)

  -- "For every table of 1 to 8 variables the built circuit .. is judged to be that table's oracle"
  pub built_is_oracle : (work : List ℕ) → 2 ^ (n + 1) ≤ length work → (c : Result Verdict Refusal) (after : List ℕ) → Judges n t (built_file n t) work c after → c ≡ Ok Same
  built_is_oracle work room c after m =
      let w = built_wires n t some few in
      judge_all_same n t (built_file n t) work c after m
      (judge_passes n t (built_file n t) work good (built_passes n t some few 0) w (subst (λ (k : ℕ). 2 ^ k ≤ length work) (sym w) room))
      (λ s h. built_agrees s (subst (λ (k : ℕ). s < 2 ^ k) w h))

  pub built_bytes : Bytes (built_file n t)
  built_bytes = file_bytes 1 (n + 1) (construction n (value_at t)) (omega arith) (omega (arith, few)) (omega (arith, few_gates n t some few)) (sound_construction n (value_at t))

  abbrev folded : List ℕ
  folded = folded_file (built_file n t)

  -- ".. plain or folded"
  pub folded_is_oracle : (work : List ℕ) → 2 ^ (n + 1) ≤ length work → (c : Result Verdict Refusal) (after : List ℕ) → Judges n t folded work c after → c ≡ Ok Same
  folded_is_oracle work room c after m =
      let w = same_wires (built_file n t) ∙ built_wires n t some few in
      let p = built_passes n t some few 0 in
      judge_all_same n t folded work c after m
      (judge_passes n t folded work good (folded_passes 0 (built_file n t) built_bytes p 0) w (subst (λ (k : ℕ). 2 ^ k ≤ length work) (sym w) room))
      (λ s h.
      let a = built_agrees s (subst (λ (k : ℕ). s < 2 ^ k) w h) in
      record { ends = file_end 0 (built_file n t) built_bytes p s ∙ a.ends; phases = file_phase 0 (built_file n t) built_bytes p s ∙ a.phases })

  module _ (u : List ℕ) (good' : outcome (table_checks n u) ≡ passed) (bt : Bytes t) (bu : Bytes u) (apart : t ≡ u → ⊥) where
    -- a file that does what the built one does is no other table's oracle
    only : (f : List ℕ) → wires_of f ≡ n + 1 → ((s : ℕ) → s < 2 ^ (n + 1) → phase_from (gates_of f) s ≡ phase_from (gates_of (built_file n t)) s)
        → (work : List ℕ) (c : Result Verdict Refusal) (after : List ℕ) → Judges n u f work c after → c ≡ Ok Same → ⊥
    only f w same work c after m e =
        apart (tables_same n t u bt bu good good'
        (λ x h.
        let s : ℕ = x + 1 * 2 ^ n in
        let l : s < 2 ^ (n + 1) = omega (arith, pow-add 2 n 1) in
        let j = judge_same n u f work c after m e s (subst (λ (k : ℕ). s < 2 ^ k) (sym w) l) in
        let i = built_agrees s l in
        let low : s % 2 ^ n ≡ x = add-mul-mod_self_right x 1 (2 ^ n) ∙ mod-eq_of_lt h in
        let high : bit s n ≡ 1 = ap (◌% 2) (add-mul-div_right x 1 (pow_pos n) ∙ ap (◌+ 1) (div-eq_of_lt h)) in
        let q : 32768 * (value_at t (s % 2 ^ n) * bit s n) ≡ 32768 * (value_at u (s % 2 ^ n) * bit s n) = sym i.phases ∙ sym (same s l) ∙ j.phases in
        let r : 32768 * (value_at t x * 1) ≡ 32768 * (value_at u x * 1) = subst₂ (λ (a b : ℕ). 32768 * (value_at t a * b) ≡ 32768 * (value_at u a * b)) low high q in
        omega arith))

    -- "and the oracle of no other table of as many variables"
    pub built_is_no_other : (work : List ℕ) (c : Result Verdict Refusal) (after : List ℕ) → Judges n u (built_file n t) work c after → c ≡ Ok Same → ⊥
    built_is_no_other = only (built_file n t) (built_wires n t some few) (λ s h. refl)

    pub folded_is_no_other : (work : List ℕ) (c : Result Verdict Refusal) (after : List ℕ) → Judges n u folded work c after → c ≡ Ok Same → ⊥
    folded_is_no_other = only folded (same_wires (built_file n t) ∙ built_wires n t some few) (λ s h. file_phase 0 (built_file n t) built_bytes (built_passes n t some few 0) s)

    -- so with room enough it is judged Different
    abbrev IsDifferent : Result Verdict Refusal → Type 0
    IsDifferent c = (s : ℕ) × (e : ℕ) × (h : ℕ) × (q : ℕ) × (c ≡ Ok (Different s e h q))

    different : (f : List ℕ) → outcome (file_checks 0 f) ≡ passed → wires_of f ≡ n + 1 → (work : List ℕ) → 2 ^ (n + 1) ≤ length work → (c : Result Verdict Refusal) (after : List ℕ)
        → Judges n u f work c after → (c ≡ Ok Same → ⊥) → IsDifferent c
    different f p w work room c after m no_other = by (judge_either n u f work c after m good' p w (subst (λ (k : ℕ). 2 ^ k ≤ length work) (sym w) room))
      where
        by : ThirdDemand (wires_of f) (circuit (gates_of f)) (ideal n (value_at u)) c → IsDifferent c
        by (inl e) = absurd (no_other e.same)
        by (inr d) = (d.state, d.first, d.second, d.phase, d.different)

    pub built_is_different : (work : List ℕ) → 2 ^ (n + 1) ≤ length work → (c : Result Verdict Refusal) (after : List ℕ) → Judges n u (built_file n t) work c after → IsDifferent c
    built_is_different work room c after m = different (built_file n t) (built_passes n t some few 0) (built_wires n t some few) work room c after m (built_is_no_other work c after m)

    pub folded_is_different : (work : List ℕ) → 2 ^ (n + 1) ≤ length work → (c : Result Verdict Refusal) (after : List ℕ) → Judges n u folded work c after → IsDifferent c
    folded_is_different work room c after m =
        different folded (folded_passes 0 (built_file n t) built_bytes (built_passes n t some few 0) 0) (same_wires (built_file n t) ∙ built_wires n t some few) work room c after m (folded_is_no_other work c after m)
