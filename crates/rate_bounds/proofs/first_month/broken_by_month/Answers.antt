use Rattle.rate_bounds.specs.Breaks.{obeys}
use Rattle.rate_bounds.proofs.FirstMonths.{breaks_15, breaks_16, breaks_17}
use Rattle.rate_bounds.proofs.first_month.broken_by_month.Goals as goal

pub returns-in-Some : goal.returns-in-Some
unfolding obeys
returns-in-Some c = breaks_15 c.args.product.now _ c.in-Some.ensures

pub returns-in-Some-first_breaking : goal.returns-in-Some-first_breaking
unfolding obeys
returns-in-Some-first_breaking c =
    breaks_16 c.args.product.now _ c.in_default.ensures c.in-Some-first_breaking.ensures

pub returns-in-Some-first_breaking-2 : goal.returns-in-Some-first_breaking-2
unfolding obeys
returns-in-Some-first_breaking-2 c =
    breaks_17 c.args.product.now _ c.in_default.ensures c.in_default-first_breaking.ensures
    c.in-Some-first_breaking-2.ensures

pub returns : goal.returns
unfolding obeys
returns c =
    breaks_17 c.args.product.now _ c.in_default.ensures c.in_default-first_breaking.ensures
    c.in_default-first_breaking-2.ensures
