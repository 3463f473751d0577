-- The recurrences of a system and of a pair, as facts of their coefficients.
use Rattle.std.specs.Prelude.{suc, ◌-◌}
use Rattle.std.proofs.Common.{ap, ◌∙◌}
use Rattle.frac_laws.specs.Fraction.{◌+ℚ◌}
use Rattle.frac_laws.specs.Sums.{sum_to}
use Rattle.frac_laws.specs.Lists.{number_at, vector_at, matrix_at, image}
use Rattle.frac_laws.proofs.Vectors.{number_at-add_lists}
use Rattle.cell_laws.specs.Systems.{sum_of_images, coefficients}
use Rattle.cell_laws.specs.Pairs.{received, second_coefficient}
use Rattle.cell_laws.specs.Recurrence.{CoefficientsRecur, SecondCoefficientsRecur, TaylorValueSums}
use Rattle.cell_laws.specs.Recurrence.{SecondTaylorValueSums, NormsAreDriven, TaylorValuesStayWithin}
use Rattle.cell_laws.specs.Recurrence.{SecondTaylorValuesStayWithin}
use Rattle.cell_laws.proofs.Runs.{recurrence, images-run, total-run, norms_driven, norm_of_total-run}

pub coefficients_recur : CoefficientsRecur
coefficients_recur s y k i = recurrence s.matrices (vector_at s.free) y k i

pub second_coefficients_recur : SecondCoefficientsRecur
second_coefficients_recur p w z k i = recurrence p.second.matrices (received p w) z k i
    ∙ ap
    (λ t. sum_to (suc k) (λ m. number_at (image (matrix_at p.second.matrices m)
    (second_coefficient p w z (k - m))) i) +ℚ t)
    (number_at-add_lists (sum_of_images p.coupling (coefficients p.first w k))
    (vector_at p.second.free k) i
    ∙ ap (λ t. t +ℚ number_at (vector_at p.second.free k) i)
    (images-run p.first.matrices (vector_at p.first.free) w p.coupling k i))

pub taylor_value_sums : TaylorValueSums
taylor_value_sums s y n i = total-run s.matrices (vector_at s.free) y n i

pub second_taylor_value_sums : SecondTaylorValueSums
second_taylor_value_sums p w z n i = total-run p.second.matrices (received p w) z n i

pub norms_are_driven : NormsAreDriven
norms_are_driven norm s y n = norms_driven s.matrices (vector_at s.free) y norm n

pub taylor_values_stay_within : TaylorValuesStayWithin
taylor_values_stay_within norm s y n = norm_of_total-run s.matrices (vector_at s.free) y norm n

pub second_taylor_values_stay_within : SecondTaylorValuesStayWithin
second_taylor_values_stay_within norm p w z n = norm_of_total-run p.second.matrices (received p w) z norm n
