-- The closed statements hold: they compute.
use Rattle.std.specs.Prelude.{pos, negsuc, List, [], ◌∷◌, refl}
use Rattle.std.proofs.Common.{sym}
use mathlib.Core.Quot.{sound}
use Rattle.frac_base.specs.Pair.{Pair}
use Rattle.frac_laws.specs.Fraction.{◌+ℚ◌, ◌*ℚ◌, ◌-ℚ◌, opposite, is_not_negative}
use Rattle.frac_laws.specs.ClosedChecks.{ThirdTaylorValue, LongQuotientsAreOrdered, ProductOfTenTerms}
use Rattle.frac_laws.proofs.Reduced.{reduced, pair_over, values_of-list_product}

pub third_taylor_value : ThirdTaylorValue
unfolding ◌+ℚ◌ ◌*ℚ◌
third_taylor_value = sound refl

pub long_quotients : LongQuotientsAreOrdered
unfolding ◌+ℚ◌ ◌-ℚ◌ opposite is_not_negative
long_quotients = record { lt = refl }

harmonic_pairs : List Pair
harmonic_pairs = pair_over (pos 1) 1 ∷ pair_over (pos 1) 2 ∷ pair_over (pos 1) 3 ∷ pair_over (pos 1) 4 ∷
    pair_over (pos 1) 5 ∷ pair_over (pos 1) 6 ∷ pair_over (pos 1) 7 ∷ pair_over (pos 1) 8 ∷
    pair_over (pos 1) 9 ∷ pair_over (pos 1) 10 ∷ []

alternating_pairs : List Pair
alternating_pairs = pair_over (pos 1) 1 ∷ pair_over (negsuc 0) 2 ∷ pair_over (pos 1) 3 ∷ pair_over
    (negsuc 0) 4 ∷
    pair_over (pos 1) 5 ∷ pair_over (negsuc 0) 6 ∷ pair_over (pos 1) 7 ∷ pair_over (negsuc 0) 8 ∷
    pair_over (pos 1) 9 ∷ pair_over (negsuc 0) 10 ∷ []

pub product_of_ten : ProductOfTenTerms
unfolding reduced harmonic_pairs alternating_pairs
product_of_ten = sym (values_of-list_product harmonic_pairs alternating_pairs)
