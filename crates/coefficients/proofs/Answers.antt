-- The ways out of an operation that sums up a side.
use Rattle.std.proofs.Common.{◌≡◌, ℕ, List, refl}
use Rattle.refusal.specs.declared.Refusal.{Refusal}
use Rattle.refusal.specs.Checks.{Outcome, passed, refused}
use Rattle.refusal.specs.Contract.{Said, values, said_of}
use Rattle.circuit.specs.Bytes.{put_at}
use Rattle.coefficients.specs.Summaries.{SumsUp}

module _ {Answer : Type 0} (said : Answer → Said) (o : Outcome) (vs cs es row ends : List ℕ) (answer : Answer) where
  pub sums_refused : (r : Refusal) → said answer ≡ said_of r → o ≡ refused r → SumsUp said o vs cs es row ends answer row ends
  sums_refused r e p = rw p (record { says = e; row = refl; ends = refl })

  pub sums_passed : (row₁ ends₁ : List ℕ) → said answer ≡ values vs → o ≡ passed → row₁ ≡ put_at cs 0 row → ends₁ ≡ put_at es 0 ends → SumsUp said o vs cs es row ends answer row₁ ends₁
  sums_passed row₁ ends₁ e p q r = rw p (record { says = e; row = q; ends = r })
