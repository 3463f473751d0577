use Rattle.std.proofs.Common.{sym}
use Rattle.product_model.proofs.PartsAgree.{payments_of_parts}
use Rattle.product_model.proofs.product.Product.plan.Goals as goal

pub returns-clause-payments : goal.returns-clause-payments
returns-clause-payments c = rw (← c.self.view_is) (sym (payments_of_parts _ c.self.invariant.fit))
