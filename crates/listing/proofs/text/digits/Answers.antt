use native.Mathlib.Omega.{arith}
use mathlib.Core.Path.{sym}
use Rattle.listing.proofs.Decimals.{one_digit, digits_exactly}
use Rattle.listing.proofs.text.digits.Goals as goal

pub returns-in-0-to-9 : goal.returns-in-0-to-9
returns-in-0-to-9 c = (sym (one_digit _ (omega arith)), omega arith)

pub returns-in-10-to-99 : goal.returns-in-10-to-99
returns-in-10-to-99 c = (digits_exactly 1 _ (omega arith) (omega arith), omega arith)

pub returns-in-100-to-999 : goal.returns-in-100-to-999
returns-in-100-to-999 c = (digits_exactly 2 _ (omega arith) (omega arith), omega arith)

pub returns-in-1000-to-9999 : goal.returns-in-1000-to-9999
returns-in-1000-to-9999 c = (digits_exactly 3 _ (omega arith) (omega arith), omega arith)

pub returns-in_default : goal.returns-in_default
returns-in_default c = (digits_exactly 4 _ (omega arith) (omega arith), omega arith)
