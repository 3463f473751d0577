-- Laws of the ring in the form of their statements.
use Rattle.std.specs.Prelude.{[], ◌∷◌}
use Rattle.std.proofs.Common.{refl}
use Rattle.frac_laws.specs.RingLaws.{DifferenceIsSum}
use Rattle.frac_laws.proofs.FractionTerms.{ring, terms}

pub difference : DifferenceIsSum
difference x y = ring (x ∷ y ∷ []) (hlevel terms) refl
