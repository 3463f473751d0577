use Rattle.product_instances.proofs.FlatRows.{value_of_the_start}
use Rattle.product_instances.proofs.flat_rows.value_is_of_the_start.Goals as goal

pub returns : goal.returns
returns c = value_of_the_start
