use Rattle.grid_law.proofs.MonthGrids.{months_held}
use Rattle.grid_law.proofs.grid_reserves.month_reserves.Goals as goal

pub returns-clause-months : goal.returns-clause-months
returns-clause-months g c =
    let law = c.month_grid_is_near.ensures in
    let answered = c.in_ok-table.ensures in
    months_held c.args.adm.now c.args.every c.in_ok-table.table law.unit law.term c.product-product.ensures.admissible
    answered.reserves.degree answered.around
