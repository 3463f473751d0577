use Rattle.std.proofs.Common.{arith, ◌∙◌}
use Rattle.model_specs.specs.Ledgers.{radius_forward}
use Rattle.rate_bounds.proofs.CellSteps.{one_date_more, all_dates}
use Rattle.rate_bounds.proofs.RadiusSteps.{radius_goes_forward, radius_forward_fits}
use Rattle.rate_bounds.proofs.radii.radii_forward.Goals as goal

pub over_month-w-requires-clause-fits : goal.over_month-w-requires-clause-fits
over_month-w-requires-clause-fits c =
    let months = c.months-months.ensures.value in
    radius_forward_fits c.radii_stay_small.ensures.inside c.args.product.now c.loop-month.month c.loop-month.w
    c.months-months.ensures.lawful c.requires.rules (omega arith) c.loop-month.invariant.next

pub loop-month-preserved : goal.loop-month-preserved
loop-month-preserved c = record {
  dates = one_date_more (radius_forward c.args.product.now) c.loop-month.month c.loop-month.w c.loop-month.radii.items _
      c.loop-month.invariant.dates c.loop-month.invariant.next c.in_ok-push.ensures.items;
  next = c.over_month-w.ensures
      ∙ radius_goes_forward c.args.product.now c.loop-month.month c.loop-month.w c.loop-month.invariant.next;
}

pub returns : goal.returns
returns c =
    let months = c.months-months.ensures.value in
    all_dates (radius_forward c.args.product.now) c.args.product.now.months c.loop-month.month c.loop-month.w
    c.loop-month.radii.items _ (omega arith)
    c.loop-month.invariant.dates c.loop-month.invariant.next c.in_ok-push-2.ensures.items
