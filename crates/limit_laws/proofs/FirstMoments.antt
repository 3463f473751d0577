-- The first moments of the run of both moments are those of the Thiele run, inside the months too.
use Rattle.std.specs.Prelude.{◌≡◌, ℕ, zero, suc, ◌-◌}
use Rattle.std.proofs.Common.{ap}
use Rattle.frac_laws.specs.Lists.{add_lists}
use Rattle.cell_laws.specs.Systems.{taylor_value}
use Rattle.model_specs.specs.Product.{Product}
use Rattle.model_specs.specs.Payments.{Plan}
use Rattle.model_specs.specs.Systems.{thiele_system}
use Rattle.model_specs.specs.Runs.{lump_vector}
use Rattle.model_laws.proofs.Moments.{first_moments_agree}
use Rattle.product_cells.specs.EachCell.{backward_cell}
use Rattle.moment_laws.specs.CellRuns.{first_after_cells}
use Rattle.moment_laws.specs.SecondMomentLaws.{moments_after_cells}
use Rattle.sweep_laws.specs.ScaledSteps.{next_cell}

pub first_moments_inside : (product : Product) (plan : Plan) (n months done : ℕ)
    → (moments_after_cells product plan n months done).first ≡ first_after_cells product plan n months done
first_moments_inside product plan n months zero =
    ap (λ v. add_lists v (lump_vector product plan (suc (product.months - suc months))))
    (first_moments_agree product plan n months)
first_moments_inside product plan n months (suc done) =
    let month = product.months - suc months in
    ap (λ v. taylor_value (thiele_system (backward_cell product plan month (next_cell done))) v n)
    (first_moments_inside product plan n months done)
