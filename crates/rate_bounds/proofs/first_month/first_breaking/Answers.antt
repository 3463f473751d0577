use Rattle.std.proofs.Common.{◌≡◌, true, arith, below_more, sym, ◌∙◌, pos, ap}
use Rattle.std.specs.Int.{w128}
use Rattle.std.proofs.lemmas.Int.{to_z_pos}
use Rattle.rate_bounds.specs.Breaks.{obeys}
use Rattle.rate_bounds.proofs.FirstMonths.{first_is_found, none_is_found}
use Rattle.rate_bounds.proofs.first_month.first_breaking.Goals as goal

pub loop-month-preserved : goal.loop-month-preserved
loop-month-preserved c =
    let unit = to_z_pos w128 c.month_unit-unit.result (omega (arith, c.month_unit-unit.ensures.most))
    ∙ ap pos c.month_unit-unit.ensures.value in
    below_more (λ k. obeys c.args.rule c.args.product.now k ≡ true) c.loop-month.month c.loop-month.invariant
    (sym
    (c.obeys.ensures c.args.product.now c.loop-month.month (c.requires.each c.loop-month.month _ (omega arith)) unit)
    ∙ c.if-not-obeys.false)

pub returns-then-not-obeys : goal.returns-then-not-obeys
returns-then-not-obeys c =
    let unit = to_z_pos w128 c.month_unit-unit.result (omega (arith, c.month_unit-unit.ensures.most))
    ∙ ap pos c.month_unit-unit.ensures.value in
    first_is_found (obeys c.args.rule c.args.product.now) c.args.product.now.months c.loop-month.month c.obeys.result
    (omega arith)
    (c.obeys.ensures c.args.product.now c.loop-month.month (c.requires.each c.loop-month.month _ (omega arith)) unit)
    c.if-not-obeys.true c.loop-month.invariant

pub returns : goal.returns
returns c =
    none_is_found (obeys c.args.rule c.args.product.now) c.args.product.now.months c.loop-month.month (omega arith)
    c.loop-month.invariant
