use Rattle.std.proofs.Common.{◌-◌, arith, ◌∙◌}
use Rattle.model_specs.specs.Ledgers.{radius_before_term}
use Rattle.rate_bounds.proofs.CellSteps.{one_date_more, all_dates}
use Rattle.rate_bounds.proofs.RadiusSteps.{radius_goes_back, radius_back_fits}
use Rattle.rate_bounds.proofs.radii.radii_back.Goals as goal

pub over_month-w-requires-clause-fits : goal.over_month-w-requires-clause-fits
over_month-w-requires-clause-fits c =
    let months = c.months-months.ensures.value in
    radius_back_fits c.radii_stay_small.ensures.inside c.args.product.now c.loop-back.back
    (c.months-months.result - 1 - c.loop-back.back) c.loop-back.w c.months-months.ensures.lawful c.requires.rules
    (omega arith) (omega arith) c.loop-back.invariant.next

pub loop-back-preserved : goal.loop-back-preserved
loop-back-preserved c =
    let months = c.months-months.ensures.value in
    record {
      dates = one_date_more (radius_before_term c.args.product.now) c.loop-back.back c.loop-back.w
          c.loop-back.radii.items _
          c.loop-back.invariant.dates c.loop-back.invariant.next c.in_ok-push.ensures.items;
      next = c.over_month-w.ensures
          ∙ radius_goes_back c.args.product.now c.loop-back.back (c.months-months.result - 1 - c.loop-back.back)
          c.loop-back.w
          (omega arith) (omega arith) c.loop-back.invariant.next;
    }

pub returns : goal.returns
returns c =
    let months = c.months-months.ensures.value in
    all_dates (radius_before_term c.args.product.now) c.args.product.now.months c.loop-back.back c.loop-back.w
    c.loop-back.radii.items _ (omega arith)
    c.loop-back.invariant.dates c.loop-back.invariant.next c.in_ok-push-2.ensures.items
