use mathlib.Core.Path.{refl}
use Rattle.listing.proofs.Fractions.{lowest_terms}
use Rattle.listing.proofs.lines.halvings.Goals as goal

pub returns : goal.returns
returns c = lowest_terms c.args.angle _ refl
