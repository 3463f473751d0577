use Rattle.std.proofs.Common.{◌+◌, ◌∙◌, ap, arith}
use Rattle.model_specs.specs.Payments.{payment_plan}
use Rattle.model_specs.specs.Product.{Product}
use Rattle.model_specs.specs.Stretches.{cost}
use Rattle.grid_law.proofs.tests.ten_years_of_a_rising_rate.Goals as goal

pub month_reserves-requires-clause-count : goal.month_reserves-requires-clause-count
month_reserves-requires-clause-count g c =
    omega (arith, c.requires.count, ap (λ (p : Product). p.months) c.requires.rising)

pub returns : goal.returns
returns g c =
    c.in_ok-table.ensures.count
    ∙ ap (λ (p : Product). c.args.steps.now + cost p (payment_plan p)) c.requires.rising
    ∙ ap (λ k. c.args.steps.now + k) c.century_ledgers.ensures.costs.1
