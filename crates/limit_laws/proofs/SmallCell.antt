-- The runs of the small cell and their defects, computed.
use Rattle.std.specs.Prelude.{◌≡◌, List, [], ◌∷◌, refl}
use mathlib.Core.Path.{ap₂}
use mathlib.Core.Quot.{sound}
use Rattle.frac_laws.specs.Fraction.{Fraction, opposite, ◌+ℚ◌, ◌*ℚ◌}
use Rattle.limit_laws.specs.SmallCell.{ReservesOfSmallCell, SecondMomentsOfSmallCell, ProbabilitiesOfSmallCell}
use Rattle.limit_laws.specs.SmallCell.{ReserveDefects, SecondMomentDefects, ProbabilityDefects}

-- lists of one, and of one more number
none : ◌≡◌ {A = List Fraction} [] []
none = refl

next : {x y : Fraction} {xs ys : List Fraction} → x ≡ y → xs ≡ ys → x ∷ xs ≡ y ∷ ys
next e f = ap₂ ◌∷◌ e f

pub reserves_of_small_cell : ReservesOfSmallCell
unfolding ◌+ℚ◌ ◌*ℚ◌ opposite
reserves_of_small_cell = record {
  of_first = next (sound refl) (next (sound refl) (next (sound refl) none));
  of_second = next (sound refl) (next (sound refl) (next (sound refl) none));
}

pub second_moments_of_small_cell : SecondMomentsOfSmallCell
unfolding ◌+ℚ◌ ◌*ℚ◌ opposite
second_moments_of_small_cell = record {
  of_first = next (sound refl) (next (sound refl) (next (sound refl) none));
  of_second = next (sound refl) (next (sound refl) (next (sound refl) none));
}

pub probabilities_of_small_cell : ProbabilitiesOfSmallCell
unfolding ◌+ℚ◌ ◌*ℚ◌ opposite
probabilities_of_small_cell = record {
  of_first = next (sound refl) (next (sound refl) (next (sound refl) none));
  of_second = next (sound refl) (next (sound refl) (next (sound refl) none));
}

pub reserve_defects : ReserveDefects
unfolding ◌+ℚ◌ ◌*ℚ◌ opposite
reserve_defects = record {
  of_first = next (sound refl) (next (sound refl) (next (sound refl) (next (sound refl) (next (sound refl) none))));
  of_second = next (sound refl) (next (sound refl) (next (sound refl) (next (sound refl) (next (sound refl) none))));
}

pub second_moment_defects : SecondMomentDefects
unfolding ◌+ℚ◌ ◌*ℚ◌ opposite
second_moment_defects = record {
  of_first = next (sound refl) (next (sound refl) (next (sound refl) (next (sound refl) (next (sound refl)
      (next (sound refl) (next (sound refl) none))))));
  of_second = next (sound refl) (next (sound refl) (next (sound refl) (next (sound refl) (next (sound refl)
      (next (sound refl) (next (sound refl) none))))));
}

pub probability_defects : ProbabilityDefects
unfolding ◌+ℚ◌ ◌*ℚ◌ opposite
probability_defects = record {
  of_first = next (sound refl) (next (sound refl) (next (sound refl) (next (sound refl) (next (sound refl) none))));
  of_second = next (sound refl) (next (sound refl) (next (sound refl) (next (sound refl) (next (sound refl) none))));
}
