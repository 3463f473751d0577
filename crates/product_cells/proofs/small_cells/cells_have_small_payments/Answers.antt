use Rattle.product_cells.proofs.ProductCells.{cells_have_small_payments}
use Rattle.product_cells.proofs.ProductCells.{scales_leave_room}
use Rattle.product_cells.proofs.small_cells.cells_have_small_payments.Goals as goal

pub returns-clause-payments : goal.returns-clause-payments
returns-clause-payments c = cells_have_small_payments

pub returns-clause-room : goal.returns-clause-room
returns-clause-room c = scales_leave_room
