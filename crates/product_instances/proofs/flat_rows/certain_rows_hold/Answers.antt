use Rattle.product_instances.proofs.FlatRows.{certain_rows_hold}
use Rattle.product_instances.proofs.flat_rows.certain_rows_hold.Goals as goal

pub returns : goal.returns
returns c = certain_rows_hold
