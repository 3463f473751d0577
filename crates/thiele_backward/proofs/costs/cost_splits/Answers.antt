use Rattle.rate_bounds.specs.MonthPay.{plan_named}
use Rattle.thiele_backward.proofs.costs.cost_splits.Goals as goal

pub returns-clause-split : goal.returns-clause-split
returns-clause-split c = c.costs_split.ensures.split c.args.adm.now (plan_named c.args.which c.args.adm.now)

pub returns-clause-few : goal.returns-clause-few
returns-clause-few c =
    (c.costs_split.ensures.small c.args.adm.now (plan_named c.args.which c.args.adm.now)
    c.product-product.ensures.admissible.well_formed.names.at_most_twelve).whole
