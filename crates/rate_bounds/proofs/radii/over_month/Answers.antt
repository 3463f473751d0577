use Rattle.std.proofs.Common.{◌∙◌, ◌^◌}
use Rattle.rate_bounds.proofs.RadiusSteps.{radius_step_is, radius_cells_fit, wider}
use Rattle.rate_bounds.proofs.radii.over_month.Goals as goal

pub grow_cells-requires-clause-fits : goal.grow_cells-requires-clause-fits
grow_cells-requires-clause-fits c =
    λ k within. wider _ (radius_cells_fit c.args.product.now c.args.month c.args.w 32 c.kappa_at.result (2 ^ 40)
    c.kappa_at.ensures.value c.requires.fits k within)

pub returns : goal.returns
returns c =
    c.grow_cells.ensures ∙ radius_step_is c.args.product.now c.args.month c.args.w 32 c.kappa_at.result
    c.kappa_at.ensures.value
