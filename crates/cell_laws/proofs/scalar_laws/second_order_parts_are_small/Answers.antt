use Rattle.cell_laws.proofs.Totals.{second_order_parts_are_small}
use Rattle.cell_laws.proofs.scalar_laws.second_order_parts_are_small.Goals as goal

pub returns : goal.returns
returns c = second_order_parts_are_small
