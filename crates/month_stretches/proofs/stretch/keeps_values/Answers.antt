use Rattle.std.proofs.Common.{◌≡◌, sym, ◌∙◌, suc, rules}
use Rattle.std.specs.Prelude.{◌&&◌}
use mathlib.Core.Path.{ap₂}
use Rattle.payment_plan.specs.Payments.{plan_of}
use Rattle.product_model.specs.Views.{payments_of}
use Rattle.month_stretches.specs.Parts.{interest_in, is_same}
use Rattle.month_stretches.proofs.InParts.{keeps_in_parts}
use Rattle.month_stretches.proofs.stretch.keeps_values.Goals as goal

pub returns : goal.returns
returns c =
    let first : c.is_same.result
    ≡ is_same (interest_in c.args.product.now c.args.month, interest_in c.args.product.now (suc c.args.month)) =
    search rules in
    ap₂ ◌&&◌ (ap₂ ◌&&◌ (ap₂ ◌&&◌ first c.rates_are_same.ensures)
    c.sojourns_are_same.ensures) c.sums_are_same.ensures
    ∙ sym (keeps_in_parts c.args.product.now (plan_of c.args.which (payments_of c.args.product.now)) c.args.month
    (suc c.args.month))
