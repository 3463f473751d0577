use Rattle.std.proofs.Common.{◌+◌, ◌-◌, ◌*◌, arith, ◌∙◌}
use Rattle.model_specs.specs.Ledgers.{bound1024}
use Rattle.rate_bounds.specs.MonthPay.{plan_named}
use Rattle.rate_bounds.proofs.BoundSteps.{bound_goes, bound_is_small, bound_step_fits, bound_is_whole, whole_fits}
use Rattle.rate_bounds.proofs.plan_bound.bound1024.Goals as goal

pub month_back-bound-requires-clause-fits : goal.month_back-bound-requires-clause-fits
month_back-bound-requires-clause-fits c =
    let months = c.months-months.ensures.value in
    bound_step_fits c.bound_never_falls.ensures.greatest c.args.product.now (plan_named c.args.which c.args.product.now)
    c.loop-back.back (c.months-months.result - 1 - c.loop-back.back) c.loop-back.bound (omega arith) (omega arith)
    c.loop-back.invariant
    (bound_is_small c.plan_bound_stays_small.ensures.payments c.pattern_bound_stays_small.ensures c.args.which
    c.args.product.now c.months-months.ensures.lawful c.requires.rules)

pub loop-back-preserved : goal.loop-back-preserved
loop-back-preserved c =
    let months = c.months-months.ensures.value in
    c.month_back-bound.ensures
    ∙ bound_goes c.args.product.now (plan_named c.args.which c.args.product.now) c.loop-back.back
    (c.months-months.result - 1 - c.loop-back.back) c.loop-back.bound (omega arith) (omega arith) c.loop-back.invariant

pub overflow_add-result : goal.overflow_add-result
overflow_add-result c =
    whole_fits (c.loop-back.bound + 1024 * c.from.result) (bound1024 c.args.product.now (plan_named c.args.which
    c.args.product.now))
    (bound_is_whole c.args.product.now (plan_named c.args.which c.args.product.now) c.loop-back.back c.loop-back.bound
    c.from.result (omega arith) c.loop-back.invariant (c.from.ensures ∙ c.greatest_lump.ensures))
    (bound_is_small c.plan_bound_stays_small.ensures.payments c.pattern_bound_stays_small.ensures c.args.which
    c.args.product.now c.months-months.ensures.lawful c.requires.rules)

pub returns-clause-value : goal.returns-clause-value
returns-clause-value c =
    bound_is_whole c.args.product.now (plan_named c.args.which c.args.product.now) c.loop-back.back c.loop-back.bound
    c.from.result (omega arith) c.loop-back.invariant (c.from.ensures ∙ c.greatest_lump.ensures)
