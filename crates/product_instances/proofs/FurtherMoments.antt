-- Both moments of the product, computed cell by cell.
use Rattle.std.specs.Prelude.{◌≡◌, ℕ, refl}
use Rattle.std.proofs.Common.{ap, ◌∙◌}
use mathlib.Core.Path.{ap₂}
use mathlib.Core.Quot.{sound}
use Rattle.frac_laws.specs.Fraction.{opposite, ◌+ℚ◌, ◌*ℚ◌}
use Rattle.frac_laws.specs.Lists.{Vector}
use Rattle.cell_laws.specs.Systems.{taylor_value}
use Rattle.cell_laws.specs.Pairs.{CoupledPair, second_taylor_value}
use Rattle.model_specs.specs.Systems.{norberg_pair}
use Rattle.model_specs.specs.Runs.{Moments, before_lumps}
use Rattle.product_instances.specs.Further.{further, further_plan, cell_back}
use Rattle.product_instances.specs.Further.{moments_before}
use Rattle.product_instances.specs.Further.{FurtherMomentsAt2, FurtherMomentsAt1}
use Rattle.product_instances.proofs.FurtherNumbers.{start_2, middle_2, end_2}
use Rattle.product_instances.proofs.FurtherNumbers.{start_1, middle_1, end_1}
use Rattle.product_instances.proofs.FurtherNumbers.{second_start_2, second_middle_2, second_end_2}
use Rattle.product_instances.proofs.FurtherNumbers.{second_start_1, second_middle_1, second_end_1}
use Rattle.product_instances.proofs.FurtherReserves.{three, lumps_2, lumps_1, back_2_1, back_2_0, back_1_1, back_1_0}

-- first and second moments beside each other
abbrev both : Vector → Vector → Moments
both v z = record { first = v; second = z }

-- the pair of a cell, and both moments over it
abbrev pair_cell : ℕ → ℕ → CoupledPair
pair_cell month cell = norberg_pair (cell_back month cell)

abbrev over_cell : ℕ → ℕ → Moments → Moments
over_cell month cell v = record {
  first = taylor_value (pair_cell month cell).first v.first 2;
  second = second_taylor_value (pair_cell month cell) v.first v.second 2;
}

-- each date
dates_2 : before_lumps further further_plan 3 (moments_before 0) ≡ both start_2 second_start_2
unfolding ◌+ℚ◌ ◌*ℚ◌
dates_2 = ap₂ both lumps_2 (three (sound refl) (sound refl) (sound refl))

dates_1 : before_lumps further further_plan 2 (both end_2 second_end_2) ≡ both start_1 second_start_1
unfolding ◌+ℚ◌ ◌*ℚ◌
dates_1 = ap₂ both lumps_1 (three (sound refl) (sound refl) (sound refl))

-- each cell
second_2_1 : second_taylor_value (pair_cell 2 1) start_2 second_start_2 2 ≡ second_middle_2
unfolding ◌+ℚ◌ ◌*ℚ◌ opposite
second_2_1 = three (sound refl) (sound refl) (sound refl)

cell_2_1 : over_cell 2 1 (both start_2 second_start_2) ≡ both middle_2 second_middle_2
cell_2_1 = ap₂ both back_2_1 second_2_1

second_2_0 : second_taylor_value (pair_cell 2 0) middle_2 second_middle_2 2 ≡ second_end_2
unfolding ◌+ℚ◌ ◌*ℚ◌ opposite
second_2_0 = three (sound refl) (sound refl) (sound refl)

cell_2_0 : over_cell 2 0 (both middle_2 second_middle_2) ≡ both end_2 second_end_2
cell_2_0 = ap₂ both back_2_0 second_2_0

second_1_1 : second_taylor_value (pair_cell 1 1) start_1 second_start_1 2 ≡ second_middle_1
unfolding ◌+ℚ◌ ◌*ℚ◌ opposite
second_1_1 = three (sound refl) (sound refl) (sound refl)

cell_1_1 : over_cell 1 1 (both start_1 second_start_1) ≡ both middle_1 second_middle_1
cell_1_1 = ap₂ both back_1_1 second_1_1

second_1_0 : second_taylor_value (pair_cell 1 0) middle_1 second_middle_1 2 ≡ second_end_1
unfolding ◌+ℚ◌ ◌*ℚ◌ opposite
second_1_0 = three (sound refl) (sound refl) (sound refl)

cell_1_0 : over_cell 1 0 (both middle_1 second_middle_1) ≡ both end_1 second_end_1
cell_1_0 = ap₂ both back_1_0 second_1_0

at_2 : moments_before 1 ≡ both end_2 second_end_2
at_2 = ap (λ v. over_cell 2 0 (over_cell 2 1 v)) dates_2 ∙ ap (over_cell 2 0) cell_2_1 ∙ cell_2_0

at_1 : moments_before 2 ≡ both end_1 second_end_1
at_1 = ap (λ v. over_cell 1 0 (over_cell 1 1 (before_lumps further further_plan 2 v))) at_2
    ∙ ap (λ v. over_cell 1 0 (over_cell 1 1 v)) dates_1 ∙ ap (over_cell 1 0) cell_1_1 ∙ cell_1_0

pub moments_at_2 : FurtherMomentsAt2
moments_at_2 = ap (λ (v : Moments). v.second) at_2

pub moments_at_1 : FurtherMomentsAt1
moments_at_1 = ap (λ (v : Moments). v.second) at_1
