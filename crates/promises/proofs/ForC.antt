-- 01, "no second answer would satisfy it", for each function of phg.h: no second row of six numbers, nor any second content of the lent slice.
use Prim.Native.Nat.{ℕ}
use mathlib.Core.Path.{◌≡◌, sym, ◌∙◌}
use mathlib.Core.Bool.{Bool}
use mathlib.Core.List.{List}
use lib.IntN.{ℤ}
use Rattle.table.specs.Table.{value_at, checked_says, Checks}
use Rattle.spectrum.specs.Spectrum.{transformed_says, Transforms}
use Rattle.circuit.specs.Gates.{decoded}
use Rattle.circuit.specs.File.{reading_says, Reads}
use Rattle.running.specs.Run.{ran_says, Runs, counted_says, Counts}
use Rattle.build.specs.Construction.{built_says, Builds}
use Rattle.fold.specs.Fold.{folded_says, Folds}
use Rattle.cancel.specs.Cancel.{cancelled_says, Cancels}
use Rattle.verdict.specs.Judging.{compared_says, Compares, Judges}
use Rattle.listing.specs.Listing.{listed_says, Lists}
use Rattle.oracle_listing.specs.Oracle.{ListsOracle}
use Rattle.c_interface.specs.Numbers.{Tells, TellsAnswer, decoded_numbers}
use Rattle.c_interface.proofs.Unique.{tells_one, tells_answer_one}
use Rattle.promises.specs.Demands.{NoSecond, NoSecondAnswer}
use Rattle.promises.proofs.OneAnswer.{one_check, one_spectrum, one_reading, one_run, one_count, one_build, one_fold, one_cancel, one_comparison, one_judgement, one_listing, one_oracle}

pub one_phg_check : (n : ℕ) (t : List ℕ) → NoSecondAnswer (TellsAnswer (Checks n t) checked_says)
one_phg_check n t = tells_answer_one (Checks n t) checked_says (one_check n t)

pub one_phg_value : (t : List ℕ) (x : ℕ) → NoSecondAnswer (λ (r : ℕ). r ≡ value_at t x)
one_phg_value t x r s e d = e ∙ sym d

pub one_phg_spectrum : (n : ℕ) (t : List ℕ) (out : List ℤ) → NoSecond (Tells (Transforms n t out) transformed_says)
one_phg_spectrum n t out = tells_one (Transforms n t out) transformed_says (one_spectrum n t out)

pub one_phg_decode : (v w p k x y z : ℕ) → NoSecondAnswer (λ (ns : List ℕ). ns ≡ decoded_numbers (decoded v w p k x y z))
one_phg_decode v w p k x y z ns ms e d = e ∙ sym d

pub one_phg_read : (f : List ℕ) → NoSecondAnswer (TellsAnswer (Reads f) reading_says)
one_phg_read f = tells_answer_one (Reads f) reading_says (one_reading f)

pub one_phg_run : (f : List ℕ) (start : ℕ) → NoSecondAnswer (TellsAnswer (Runs f start) ran_says)
one_phg_run f start = tells_answer_one (Runs f start) ran_says (one_run f start)

pub one_phg_count : (f : List ℕ) → NoSecondAnswer (TellsAnswer (Counts f) counted_says)
one_phg_count f = tells_answer_one (Counts f) counted_says (one_count f)

pub one_phg_build : (n : ℕ) (t out : List ℕ) → NoSecond (Tells (Builds n t out) built_says)
one_phg_build n t out = tells_one (Builds n t out) built_says (one_build n t out)

pub one_phg_fold : (f out : List ℕ) → NoSecond (Tells (Folds f out) folded_says)
one_phg_fold f out = tells_one (Folds f out) folded_says (one_fold f out)

pub one_phg_cancel : (f : List ℕ) (most : ℕ) (out : List ℕ) → NoSecond (Tells (Cancels f most out) cancelled_says)
one_phg_cancel f most out = tells_one (Cancels f most out) cancelled_says (one_cancel f most out)

pub one_phg_compare : (f g work : List ℕ) → NoSecond (Tells (Compares f g work) compared_says)
one_phg_compare f g work = tells_one (Compares f g work) compared_says (one_comparison f g work)

pub one_phg_judge : (n : ℕ) (t f work : List ℕ) → NoSecond (Tells (Judges n t f work) compared_says)
one_phg_judge n t f work = tells_one (Judges n t f work) compared_says (one_judgement n t f work)

pub one_phg_list : (wrapped : Bool) (f out : List ℕ) → NoSecond (Tells (Lists wrapped f out) listed_says)
one_phg_list wrapped f out = tells_one (Lists wrapped f out) listed_says (one_listing wrapped f out)

pub one_phg_list_oracle : (n : ℕ) (t out : List ℕ) → NoSecond (Tells (ListsOracle n t out) listed_says)
one_phg_list_oracle n t out = tells_one (ListsOracle n t out) listed_says (one_oracle n t out)
