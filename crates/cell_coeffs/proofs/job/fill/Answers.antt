use Rattle.std.proofs.Common.{◌∙◌}
use Rattle.model_specs.specs.Cells.{Backward, cells_of_32}
use Rattle.payment_plan.specs.Payments.{plan_of}
use Rattle.product_model.specs.Views.{payments_of}
use Rattle.cell_bounds.specs.ScaledSystems.{scaling}
use Rattle.cell_coeffs.specs.Jobs.{which_of}
use Rattle.cell_coeffs.specs.Rows.{cell_at}
use Rattle.cell_coeffs.proofs.AdmissibleCells.{admissible_cell}
use Rattle.cell_coeffs.proofs.FlatCells.{flat_cell, stored_constant}
use Rattle.cell_coeffs.proofs.RowSteps.{first_places}
use Rattle.cell_coeffs.proofs.StandingCells.{stands_for_thiele}
use Rattle.cell_coeffs.proofs.job.fill.Goals as goal

pub fill_first-requires-clause-small : goal.fill_first-requires-clause-small
fill_first-requires-clause-small c =
    rw c.plan_of_job.ensures (admissible_cell (which_of c.args.job) c.args.p.now c.args.g c.args.month c.args.cell
    c.requires.admissible c.requires.scale c.requires.month c.requires.cell)

pub fill_first-requires-clause-made : goal.fill_first-requires-clause-made
fill_first-requires-clause-made c = first_places c.args.p.now c.args.out.now c.requires.made

pub returns-clause-stands : goal.returns-clause-stands
returns-clause-stands c =
    let small = admissible_cell (which_of c.args.job) c.args.p.now c.args.g c.args.month c.args.cell
    c.requires.admissible c.requires.scale c.requires.month c.requires.cell in
    let rows = rw c.plan_of_job.ensures at c.fill_first.ensures.stands in
    stands_for_thiele (cell_at c.args.p.now (which_of c.args.job) c.args.month c.args.cell) (scaling c.args.g)
    c.fill_first.new.out rows small.interest_none small.intensity_none
    (c.fill_first.ensures.places.dim ∙ c.requires.made.dim_is)

pub returns-clause-constant : goal.returns-clause-constant
returns-clause-constant c =
    λ constant.
    let which = which_of c.args.job in
    let rows = rw c.plan_of_job.ensures at c.fill_first.ensures.stands in
    stored_constant (cell_at c.args.p.now which c.args.month c.args.cell)
    (flat_cell c.args.p.now (plan_of which (payments_of c.args.p.now)) c.args.month constant (cells_of_32 Backward)
    c.args.cell) (scaling c.args.g) c.fill_first.new.out rows
    (c.fill_first.ensures.places.dim ∙ c.requires.made.dim_is)
