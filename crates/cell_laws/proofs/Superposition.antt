-- The difference of two runs of a system or of a pair is the homogeneous run of the difference.
use Rattle.std.specs.Prelude.{◌≡◌, ℕ, negsuc, [], ◌∷◌}
use Rattle.std.proofs.Common.{refl, ap, sym, ◌∙◌}
use Rattle.frac_laws.specs.Fraction.{Fraction, whole, ◌+ℚ◌, ◌-ℚ◌}
use Rattle.frac_laws.specs.Lists.{Vector, number_at, vector_at, scale_list, subtract_lists}
use Rattle.frac_laws.proofs.FractionTerms.{ring, terms}
use Rattle.frac_laws.proofs.Vectors.{number_at-add_lists, number_at-scale_list}
use Rattle.cell_laws.specs.Pairs.{CoupledPair, received, homogeneous_pair}
use Rattle.cell_laws.specs.Recurrence.{CoefficientsSuperpose, TaylorValuesSuperpose}
use Rattle.cell_laws.specs.Recurrence.{SecondTaylorValuesSuperpose}
use Rattle.cell_laws.proofs.Combinations.{Combines, sum_combines, coefficients_combine, received_combines}
use Rattle.cell_laws.proofs.Combinations.{totals_combine}

abbrev minus_one : Fraction
minus_one = whole (negsuc 0)

-- u - v is u + (-1) v
difference_combines : (u v : Vector) → Combines minus_one u v (subtract_lists u v)
difference_combines u v = record {
  numbers = λ i. number_at-add_lists u (scale_list minus_one v) i
      ∙ ap (λ t. number_at u i +ℚ t) (number_at-scale_list minus_one v i);
}

same_cancels : (u : Vector) → Combines minus_one u u []
same_cancels u = record { numbers = λ i. ring (number_at u i ∷ []) (hlevel terms) refl }

as_difference : {x y z : Vector} → Combines minus_one x y z → (i : ℕ)
    → number_at x i -ℚ number_at y i ≡ number_at z i
as_difference {x} {y} h i =
    ring (number_at x i ∷ number_at y i ∷ []) (hlevel terms) refl ∙ sym (h.numbers i)

pub coefficients_superpose : CoefficientsSuperpose
coefficients_superpose s y x k = as_difference
    (coefficients_combine minus_one s.matrices (vector_at s.free) (vector_at s.free) (vector_at []) y x
    (subtract_lists y x) (λ k. same_cancels (vector_at s.free k)) (difference_combines y x) k)

pub taylor_values_superpose : TaylorValuesSuperpose
taylor_values_superpose s y x n = as_difference
    (totals_combine minus_one s.matrices (vector_at s.free) (vector_at s.free) (vector_at []) y x
    (subtract_lists y x) (λ k. same_cancels (vector_at s.free k)) (difference_combines y x) n)

-- what the second half receives
pub received_superposes : (p : CoupledPair) (w v : Vector) (k : ℕ)
    → Combines minus_one (received p w k) (received p v k)
    (received (homogeneous_pair p) (subtract_lists w v) k)
received_superposes p w v k = sum_combines minus_one
    (received_combines minus_one p.first.matrices (vector_at p.first.free) (vector_at p.first.free)
    (vector_at []) w v (subtract_lists w v) (λ k. same_cancels (vector_at p.first.free k))
    (difference_combines w v) p.coupling k)
    (same_cancels (vector_at p.second.free k))

pub second_taylor_values_superpose : SecondTaylorValuesSuperpose
second_taylor_values_superpose p w z v x n = as_difference
    (totals_combine minus_one p.second.matrices (received p w) (received p v)
    (received (homogeneous_pair p) (subtract_lists w v)) z x (subtract_lists z x)
    (received_superposes p w v) (difference_combines z x) n)
