-- No command is refused for want of room: what it lends suffices for every input that passes the other checks.
use Prim.Native.Nat.{ℕ, ◌+◌, ◌^◌}
use native.Mathlib.Omega.{arith}
use mathlib.Core.Path.{◌≡◌, sym, ap, ◌∙◌}
use mathlib.Core.Bool.{Bool}
use mathlib.Core.List.{List, [], ◌∷◌, ◌++◌, append_assoc}
use Rattle.refusal.specs.Names.{refusal, UNLIKE}
use Rattle.refusal.specs.Checks.{Check, check, other, outcome, room_check}
use Rattle.refusal.proofs.Outcomes.{parts_pass}
use Rattle.refusal.proofs.Rooms.{room_suffices}
use Rattle.table.specs.Table.{table_checks}
use Rattle.circuit.specs.File.{wires_of, gates_of, file_checks}
use Rattle.circuit.specs.Bytes.{Bytes}
use Rattle.circuit.proofs.Callers.{few_states}
use Rattle.spectrum.specs.Spectrum.{spectrum_checks}
use Rattle.spectrum.proofs.Callers.{spectrum_room as spectrum-suffices}
use Rattle.build.specs.Construction.{build_checks}
use Rattle.build.proofs.Callers.{build_room as build-suffices}
use Rattle.fold.specs.Fold.{fold_checks}
use Rattle.fold.proofs.Files.{fold_room as fold-suffices}
use Rattle.listing.specs.Listing.{loose_check, list_checks}
use Rattle.listing.proofs.Callers.{list_room as list-suffices}
use Rattle.verdict.specs.Judging.{compare_checks, judge_checks}

module _ (n : ℕ) (t : List ℕ) where
  pub spectrum_room : outcome (spectrum_checks n t 256) ≡ outcome (table_checks n t)
  spectrum_room = spectrum-suffices n t 256 (omega arith)

  pub build_room : outcome (build_checks n t 4096) ≡ outcome (table_checks n t)
  build_room = build-suffices n t 4096 (omega arith)

module _ (f : List ℕ) (bytes : Bytes f) where
  pub fold_room : outcome (fold_checks f 8201) ≡ outcome (file_checks 0 f)
  fold_room = fold-suffices f bytes 8201 (omega arith)

  pub list_room : (wrapped : Bool) → outcome (list_checks wrapped f 65600) ≡ outcome (file_checks 0 f ++ loose_check wrapped (wires_of f) (gates_of f))
  list_room wrapped = list-suffices wrapped f bytes 65600 (omega arith)

-- the work slice
abbrev unlike : ℕ → ℕ → List Check
unlike w v = check (other w v) (refusal UNLIKE) ∷ []

pub compare_room : (f g : List ℕ) → outcome (compare_checks f g 1024) ≡ outcome (file_checks 0 f ++ (file_checks 1 g ++ unlike (wires_of f) (wires_of g)))
compare_room f g =
    let first = file_checks 0 f in
    let rest = file_checks 1 g ++ unlike (wires_of f) (wires_of g) in
    sym (ap outcome (append_assoc first rest (room_check 1024 (2 ^ wires_of f))))
    ∙ room_suffices (first ++ rest) 1024 (2 ^ wires_of f) (λ e. few_states 0 f (parts_pass first rest e).0)

pub judge_room : (n : ℕ) (t f : List ℕ) → outcome (judge_checks n t f 1024) ≡ outcome (table_checks n t ++ (file_checks 0 f ++ unlike (wires_of f) (n + 1)))
judge_room n t f =
    let table = table_checks n t in
    let rest = file_checks 0 f ++ unlike (wires_of f) (n + 1) in
    sym (ap outcome (append_assoc table rest (room_check 1024 (2 ^ wires_of f))))
    ∙ room_suffices (table ++ rest) 1024 (2 ^ wires_of f)
    (λ e. few_states 0 f (parts_pass (file_checks 0 f) (unlike (wires_of f) (n + 1)) (parts_pass table rest e).1).0)
