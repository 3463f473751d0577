use Rattle.total_merge.proofs.OtherOrders.{order_matters_not}
use Rattle.total_merge.proofs.laws.order_matters_not.Goals as goal

pub returns : goal.returns
returns c = order_matters_not
