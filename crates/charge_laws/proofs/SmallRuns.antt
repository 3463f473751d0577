-- The runs of the small product of premiums at dates, computed month by month: each month begins with numbers in lowest
-- terms.
use Rattle.std.specs.Prelude.{◌≡◌, pos, [], ◌∷◌, refl}
use mathlib.Core.Quot.{sound}
use Rattle.frac_laws.specs.Fraction.{whole, over, opposite, ◌+ℚ◌, ◌*ℚ◌}
use Rattle.frac_laws.specs.Lists.{Vector}
use Rattle.model_specs.specs.Payments.{Plan, payment_plan, pattern_plan}
use Rattle.charge_laws.specs.ChargeInstances.{small_product, charged_product, reserves_before, ChargedLumpsAre}
use Rattle.charge_laws.specs.ChargeInstances.{FileReservesAre, PatternReservesAre, ChargedReservesAre}
use Rattle.charge_laws.proofs.TwoMonths.{two, two_months, with_lumps, month_before}

-- the payments of both products, and the pattern
abbrev own : Plan
own = payment_plan small_product

abbrev premium : Plan
premium = pattern_plan small_product

abbrev left : Plan
left = payment_plan charged_product

pub charged_lumps_are : ChargedLumpsAre
charged_lumps_are = refl

-- the reserves of the product with the lumps of date 2, at date 1, with its lumps, and at issue
abbrev file_lumped_2 : Vector
file_lumped_2 = whole (pos 100) ∷ whole (pos 40) ∷ []

abbrev file_at_1 : Vector
file_at_1 = over (pos 599369) 5760 ∷ over (pos 114721) 2880 ∷ []

abbrev file_lumped_1 : Vector
file_lumped_1 = over (pos 772169) 5760 ∷ over (pos 114721) 2880 ∷ []

abbrev file_at_0 : Vector
file_at_0 = over (pos 18272869549) 132710400 ∷ over (pos 13160907841) 331776000 ∷ []

file_lumps_2 : with_lumps small_product own 2 (reserves_before small_product own 0) ≡ file_lumped_2
unfolding ◌+ℚ◌
file_lumps_2 = two (sound refl) (sound refl)

file_month_1 : month_before small_product own 1 file_lumped_2 ≡ file_at_1
unfolding ◌+ℚ◌ ◌*ℚ◌ opposite
file_month_1 = two (sound refl) (sound refl)

file_lumps_1 : with_lumps small_product own 1 file_at_1 ≡ file_lumped_1
unfolding ◌+ℚ◌
file_lumps_1 = two (sound refl) (sound refl)

file_month_0 : month_before small_product own 0 file_lumped_1 ≡ file_at_0
unfolding ◌+ℚ◌ ◌*ℚ◌ opposite
file_month_0 = two (sound refl) (sound refl)

pub file_reserves_are : FileReservesAre
file_reserves_are = two_months small_product own _ _ _ _ file_lumps_2 file_month_1 file_lumps_1
    file_month_0

-- the reserves of its pattern with the lumps of date 2, at date 1, with its lumps, and at issue
abbrev pattern_lumped_2 : Vector
pattern_lumped_2 = whole (pos 0) ∷ whole (pos 0) ∷ []

abbrev pattern_at_1 : Vector
pattern_at_1 = whole (pos 0) ∷ whole (pos 0) ∷ []

abbrev pattern_lumped_1 : Vector
pattern_lumped_1 = whole (pos 1) ∷ whole (pos 0) ∷ []

abbrev pattern_at_0 : Vector
pattern_at_0 = over (pos 12641) 12800 ∷ whole (pos 0) ∷ []

pattern_lumps_2 : with_lumps small_product premium 2 (reserves_before small_product premium 0) ≡ pattern_lumped_2
unfolding ◌+ℚ◌
pattern_lumps_2 = two (sound refl) (sound refl)

pattern_month_1 : month_before small_product premium 1 pattern_lumped_2 ≡ pattern_at_1
unfolding ◌+ℚ◌ ◌*ℚ◌ opposite
pattern_month_1 = two (sound refl) (sound refl)

pattern_lumps_1 : with_lumps small_product premium 1 pattern_at_1 ≡ pattern_lumped_1
unfolding ◌+ℚ◌
pattern_lumps_1 = two (sound refl) (sound refl)

pattern_month_0 : month_before small_product premium 0 pattern_lumped_1 ≡ pattern_at_0
unfolding ◌+ℚ◌ ◌*ℚ◌ opposite
pattern_month_0 = two (sound refl) (sound refl)

pub pattern_reserves_are : PatternReservesAre
pattern_reserves_are = two_months small_product premium _ _ _ _ pattern_lumps_2 pattern_month_1 pattern_lumps_1
    pattern_month_0

-- the reserves of the charged product with the lumps of date 2, at date 1, with its lumps, and at issue
abbrev charged_lumped_2 : Vector
charged_lumped_2 = whole (pos 100) ∷ whole (pos 40) ∷ []

abbrev charged_at_1 : Vector
charged_at_1 = over (pos 599369) 5760 ∷ over (pos 114721) 2880 ∷ []

abbrev charged_lumped_1 : Vector
charged_lumped_1 = over (pos 731849) 5760 ∷ over (pos 114721) 2880 ∷ []

abbrev charged_at_0 : Vector
charged_at_0 = over (pos 17355436333) 132710400 ∷ over (pos 13160907841) 331776000 ∷ []

charged_lumps_2 : with_lumps charged_product left 2 (reserves_before charged_product left 0) ≡ charged_lumped_2
unfolding ◌+ℚ◌
charged_lumps_2 = two (sound refl) (sound refl)

charged_month_1 : month_before charged_product left 1 charged_lumped_2 ≡ charged_at_1
unfolding ◌+ℚ◌ ◌*ℚ◌ opposite
charged_month_1 = two (sound refl) (sound refl)

charged_lumps_1 : with_lumps charged_product left 1 charged_at_1 ≡ charged_lumped_1
unfolding ◌+ℚ◌
charged_lumps_1 = two (sound refl) (sound refl)

charged_month_0 : month_before charged_product left 0 charged_lumped_1 ≡ charged_at_0
unfolding ◌+ℚ◌ ◌*ℚ◌ opposite
charged_month_0 = two (sound refl) (sound refl)

pub charged_reserves_are : ChargedReservesAre
charged_reserves_are = two_months charged_product left _ _ _ _ charged_lumps_2 charged_month_1 charged_lumps_1
    charged_month_0
