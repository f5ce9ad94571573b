-- The 34 bytes that the listing program reads decide: it prints for them what it would print for the whole input.
use Prim.Native.Nat.{ℕ}
use native.Mathlib.Omega.{arith}
use mathlib.Core.Path.{◌≡◌, refl, ap₂, subst, ◌∙◌}
use mathlib.Core.List.{List, [], ◌∷◌}
use lib.ListN.{length, take}
use lib.Seq.{get_or-take}
use Rattle.refusal.specs.Names.{number_of}
use Rattle.refusal.specs.Checks.{Outcome, settle, room_check}
use Rattle.refusal.proofs.Cuts.{carried, meets_whole}
use Rattle.table.specs.Table.{table_checks}
use Rattle.table.proofs.Cuts.{table_cut, table_whole}
use Rattle.std.specs.Prelude.{Result}
use Rattle.refusal.specs.declared.Refusal.{Refusal}
use Rattle.listing.specs.Listing.{listed_says, refused_line}
use Rattle.oracle_listing.specs.Oracle.{variables_of, table_of, oracle_text, ListsOracle, printed, printout}

-- n and the table of what is read
variables_cut : (input : List ℕ) → variables_of (take 34 input) ≡ variables_of input
variables_cut input = get_or-take 34 input 0 0 (omega arith)

table_behind : (input : List ℕ) → table_of (take 34 input) ≡ take 33 (table_of input)
table_behind [] = refl
table_behind (n ∷ t) = refl

-- what speaks of n and the table speaks of 33 bytes of the table
read : (P : ℕ → List ℕ → Type 0) (input : List ℕ) → P (variables_of (take 34 input)) (table_of (take 34 input)) → P (variables_of input) (take 33 (table_of input))
read P input p = subst (λ (t : List ℕ). P (variables_of input) t) (table_behind input) (subst (λ (n : ℕ). P n (table_of (take 34 input))) (variables_cut input) p)

module _ (n : ℕ) (t : List ℕ) where
  listed_whole : (out : List ℕ) (a : Result ℕ Refusal) (left : List ℕ) → ListsOracle n (take 33 t) out a left → ListsOracle n t out a left
  listed_whole out a left =
      meets_whole (table_checks n) (take 33 t) t (table_cut n t) (table_whole n t) [] (λ u. room_check (length out) (length (oracle_text n u))) listed_says (λ u. length (oracle_text n u) ∷ []) a (oracle_text n) out left

  printed_whole : printed n (take 33 t) ≡ printed n t
  printed_whole =
      carried (table_checks n) (take 33 t) t (table_cut n t) (table_whole n t)
      (λ (o : Outcome) u. printed n (take 33 t) ≡ settle o (λ r. refused_line (number_of r.cause)) (oracle_text n u)) (λ r e. e) refl

module _ (input : List ℕ) where
  pub oracle_whole : (out : List ℕ) (a : Result ℕ Refusal) (left : List ℕ) → ListsOracle (variables_of (take 34 input)) (table_of (take 34 input)) out a left → ListsOracle (variables_of input) (table_of input) out a left
  oracle_whole out a left m = listed_whole (variables_of input) (table_of input) out a left (read (λ n t. ListsOracle n t out a left) input m)

  pub printout_whole : printout (take 34 input) ≡ printout input
  printout_whole = ap₂ printed (variables_cut input) (table_behind input) ∙ printed_whole (variables_of input) (table_of input)
