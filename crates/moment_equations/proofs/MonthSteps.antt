-- From the cells of a month to the month.
use Rattle.std.specs.Prelude.{◌≡◌, ℕ, suc, ◌-◌, ℤ, List}
use Rattle.std.proofs.Common.{ap}
use Rattle.frac_laws.specs.Fraction.{Fraction, ◌*ℚ◌}
use Rattle.frac_laws.specs.Lists.{scale_list}
use Rattle.frac_laws.specs.Norms.{Sup}
use Rattle.frac_laws.proofs.Order.{le_trans, le_of_equal}
use Rattle.cell_laws.specs.ErrorLaws.{distance}
use Rattle.model_specs.specs.Product.{Product}
use Rattle.model_specs.specs.Payments.{Plan, payment_plan}
use Rattle.model_specs.specs.Runs.{Moments, moments_before_term}
use Rattle.model_specs.specs.Systems.{norberg_pair}
use Rattle.moment_laws.specs.SecondMomentLaws.{moments_after_cells}
use Rattle.moment_laws.proofs.SecondMoments.{moments_go}
use Rattle.product_cells.specs.EachCell.{backward_cell, plan_scaling}
use Rattle.moment_equations.specs.NearMoments.{AreNear, AreNearIn, StaysNear, EnclosesMonth, first_half, second_half}

module _ (product : Product) (n months : ℕ) (mid : List ℤ) where
  abbrev plan : Plan
  plan = payment_plan product

  abbrev h : Fraction
  h = plan_scaling product plan

  goes : moments_before_term product plan n (suc months) ≡ moments_after_cells product plan n months 32
  goes = moments_go (λ cell. norberg_pair (backward_cell product plan (product.months - suc months) cell)) n 32
      (moments_after_cells product plan n months 0)

  pub month_done : AreNearIn product n months 32 mid → AreNear product n (suc months) mid
  month_done near = record {
    first = le_trans (le_of_equal (ap (λ (v : Moments). distance Sup (scale_list h v.first)
        (first_half product mid)) goes)) near.first;
    second = le_trans (le_of_equal (ap (λ (v : Moments). distance Sup (scale_list (h *ℚ h) v.second)
        (second_half product mid)) goes)) near.second;
  }

-- lumps and cells together
pub encloses_month : (product : Product) (months degree : ℕ) (old mid new : List ℤ)
    → ((n : ℕ) → AreNear product n months old → AreNearIn product n months 0 mid)
    → StaysNear product months degree 32 mid new → EnclosesMonth product months degree old new
encloses_month product months degree old mid new lumped stays n from near =
    month_done product n months new (stays n from (lumped n near))
