use Rattle.std.proofs.Common.{inr}
use Rattle.embed_example.proofs.yearly.admitted_product.Goals as goal

pub returns-in-Err-Rule-admit : goal.returns-in-Err-Rule-admit
returns-in-Err-Rule-admit c = inr (
  c.in-Ok.product,
  c.in-Ok.ensures.ok,
  c.admit.ensures.rule c.in-Err-Rule-admit.found (cc (c.in-Err-Rule-admit.is, c.in-Err-Rule-admit.field-0-is)),
)
