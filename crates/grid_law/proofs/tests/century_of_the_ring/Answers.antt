use Rattle.std.proofs.Common.{◌+◌, ◌∙◌, ap, arith}
use Rattle.model_specs.specs.Payments.{payment_plan}
use Rattle.model_specs.specs.Product.{Product}
use Rattle.model_specs.specs.Stretches.{cost}
use Rattle.grid_law.proofs.tests.century_of_the_ring.Goals as goal

pub month_reserves-requires-clause-count : goal.month_reserves-requires-clause-count
month_reserves-requires-clause-count g c =
    omega (arith, c.requires.count, ap (λ (p : Product). p.months) c.requires.ring)

pub returns : goal.returns
returns g c =
    c.in_ok-table.ensures.count
    ∙ ap (λ (p : Product). c.args.steps.now + cost p (payment_plan p)) c.requires.ring
    ∙ ap (λ k. c.args.steps.now + k) c.century_ledgers.ensures.costs.0
