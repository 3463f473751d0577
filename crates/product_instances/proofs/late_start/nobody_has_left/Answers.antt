use Rattle.product_instances.proofs.LateStart.{nobody_has_left}
use Rattle.product_instances.proofs.late_start.nobody_has_left.Goals as goal

pub returns : goal.returns
returns c = nobody_has_left
