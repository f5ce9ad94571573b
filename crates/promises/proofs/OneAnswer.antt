-- 01, "How far every promise reaches": "it is proved that no second answer would satisfy it". For each public operation, by the one law of crate refusal.
use Prim.Native.Nat.{ℕ}
use mathlib.Core.Path.{◌≡◌, sym, ◌∙◌}
use mathlib.Core.Bool.{Bool}
use mathlib.Core.List.{List}
use lib.IntN.{ℤ}
use Rattle.refusal.proofs.Contracts.{one_said, one_answer}
use Rattle.table.specs.Table.{Checks}
use Rattle.table.proofs.Callers.{checked_distinct}
use Rattle.spectrum.specs.Spectrum.{transformed_says, Transforms}
use Rattle.spectrum.proofs.Callers.{transformed_distinct}
use Rattle.circuit.specs.Gates.{Decoded, decoded}
use Rattle.circuit.specs.File.{ReadsSide, Reads}
use Rattle.circuit.proofs.Callers.{reading_distinct}
use Rattle.running.specs.Run.{Runs, Counts}
use Rattle.running.proofs.Callers.{ran_distinct, counted_distinct}
use Rattle.build.specs.Construction.{built_says, Builds}
use Rattle.build.proofs.Callers.{built_distinct}
use Rattle.fold.specs.Fold.{folded_says, Folds}
use Rattle.fold.proofs.Callers.{folded_distinct}
use Rattle.cancel.specs.Cancel.{cancelled_says, Cancels}
use Rattle.cancel.proofs.Callers.{cancelled_distinct}
use Rattle.verdict.specs.Judging.{compared_says, Compares, Judges}
use Rattle.verdict.proofs.Callers.{compared_distinct}
use Rattle.listing.specs.Listing.{listed_says, Lists, Writes}
use Rattle.listing.proofs.Callers.{listed_distinct}
use Rattle.oracle_listing.specs.Oracle.{ListsOracle, printout, Prints}
use Rattle.promises.specs.Demands.{NoSecond, NoSecondAnswer}

pub one_check : (n : ℕ) (t : List ℕ) → NoSecondAnswer (Checks n t)
one_check n t a b = one_said checked_distinct a b

pub one_spectrum : (n : ℕ) (t : List ℕ) (out : List ℤ) → NoSecond (Transforms n t out)
one_spectrum n t out = one_answer transformed_says _ _ _ out transformed_distinct

pub one_decoding : (v w p k x y z : ℕ) → NoSecondAnswer (λ (a : Decoded). a ≡ decoded v w p k x y z)
one_decoding v w p k x y z a b e d = e ∙ sym d

pub one_side_reading : (s : ℕ) (f : List ℕ) → NoSecondAnswer (ReadsSide s f)
one_side_reading s f a b = one_said reading_distinct a b

pub one_reading : (f : List ℕ) → NoSecondAnswer (Reads f)
one_reading = one_side_reading 0

pub one_run : (f : List ℕ) (start : ℕ) → NoSecondAnswer (Runs f start)
one_run f start a b = one_said ran_distinct a b

pub one_count : (f : List ℕ) → NoSecondAnswer (Counts f)
one_count f a b = one_said counted_distinct a b

pub one_build : (n : ℕ) (t out : List ℕ) → NoSecond (Builds n t out)
one_build n t out = one_answer built_says _ _ _ out built_distinct

pub one_fold : (f out : List ℕ) → NoSecond (Folds f out)
one_fold f out = one_answer folded_says _ _ _ out folded_distinct

pub one_cancel : (f : List ℕ) (most : ℕ) (out : List ℕ) → NoSecond (Cancels f most out)
one_cancel f most out = one_answer cancelled_says _ _ _ out cancelled_distinct

pub one_comparison : (f g work : List ℕ) → NoSecond (Compares f g work)
one_comparison f g work = one_answer compared_says _ _ _ work compared_distinct

pub one_judgement : (n : ℕ) (t f work : List ℕ) → NoSecond (Judges n t f work)
one_judgement n t f work = one_answer compared_says _ _ _ work compared_distinct

pub one_listing : (wrapped : Bool) (f out : List ℕ) → NoSecond (Lists wrapped f out)
one_listing wrapped f out = one_answer listed_says _ _ _ out listed_distinct

pub one_oracle : (n : ℕ) (t out : List ℕ) → NoSecond (ListsOracle n t out)
one_oracle n t out = one_answer listed_says _ _ _ out listed_distinct

pub one_writing : (text out : List ℕ) → NoSecond (Writes text out)
one_writing text out = one_answer listed_says _ _ _ out listed_distinct

pub one_printout : (input out : List ℕ) → NoSecond (Prints input out)
one_printout input = one_writing (printout input)
