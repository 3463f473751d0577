use Rattle.std.proofs.Common.{◌≤◌, ◌+◌, ◌-◌, ◌^◌, get_or, arith, ap, sym, subst, ◌∙◌}
use Rattle.std.proofs.Math.Nat.{pow-le-pow_right}
use Rattle.model_specs.specs.Payments.{payment_plan}
use Rattle.model_specs.specs.Ledgers.{second_before_term}
use Rattle.ledger_laws.specs.SecondLaws.{HasSmallSecond}
use Rattle.rate_bounds.proofs.CellSteps.{one_date_more, all_dates}
use Rattle.rate_bounds.proofs.RadiusSteps.{radius_back_fits, radius_there, dates_there}
use Rattle.rate_bounds.proofs.SecondSteps.{second_goes_back, second_fits}
use Rattle.rate_bounds.proofs.second_radii.second_radii.Goals as goal

pub bounds-radii-back : goal.bounds-radii-back
bounds-radii-back c =
    let months = c.months-months.ensures.value in
    omega (arith, dates_there c.args.product.now c.args.radii.now c.requires.radii)

pub month_back-second-requires-clause-largest : goal.month_back-second-requires-clause-largest
month_back-second-requires-clause-largest c =
    let most : 2 ^ c.args.scale ≤ 2 ^ 56 = pow-le-pow_right {n = 2} (omega arith) c.requires.most in
    omega (arith, most, c.pow-largest.ensures)

pub month_back-second-requires-clause-first : goal.month_back-second-requires-clause-first
month_back-second-requires-clause-first c =
    let months = c.months-months.ensures.value in
    radius_back_fits c.radii_stay_small.ensures.inside c.args.product.now c.loop-back.back
    (c.months-months.result - 1 - c.loop-back.back) (get_or c.args.radii.now c.loop-back.back 0)
    c.months-months.ensures.lawful c.requires.rules (omega arith) (omega arith)
    (radius_there c.args.product.now c.args.radii.now c.loop-back.back c.requires.radii (omega arith))

pub month_back-second-requires-clause-fits : goal.month_back-second-requires-clause-fits
month_back-second-requires-clause-fits c =
    let months = c.months-months.ensures.value in
    let small = c.second_stays_small.ensures c.args.product.now c.months-months.ensures.lawful c.requires.rules in
    second_fits c.args.product.now c.pow-largest.result c.loop-back.back (c.months-months.result - 1 - c.loop-back.back)
    (get_or c.args.radii.now c.loop-back.back 0) c.loop-back.second
    (subst (HasSmallSecond c.args.product.now) (sym (c.pow-largest.ensures ∙ ap (λ g. 2 ^ g) c.requires.scale)) small)
    (omega arith) (omega arith)
    (radius_there c.args.product.now c.args.radii.now c.loop-back.back c.requires.radii (omega arith))
    (c.loop-back.invariant.next
    ∙ ap (λ G. second_before_term c.args.product.now (payment_plan c.args.product.now) G c.loop-back.back) (sym
    c.pow-largest.ensures))

pub loop-back-preserved : goal.loop-back-preserved
loop-back-preserved c =
    let months = c.months-months.ensures.value in
    record {
      dates = one_date_more (second_before_term c.args.product.now (payment_plan c.args.product.now) (2 ^ c.args.scale))
          c.loop-back.back c.loop-back.second c.loop-back.seconds.items _
          c.loop-back.invariant.dates c.loop-back.invariant.next c.in_ok-push.ensures.items;
      next = c.month_back-second.ensures
          ∙ second_goes_back c.args.product.now (payment_plan c.args.product.now) c.pow-largest.result c.loop-back.back
          (c.months-months.result - 1 - c.loop-back.back) (get_or c.args.radii.now c.loop-back.back 0)
          c.loop-back.second
          (omega arith) (omega arith)
          (radius_there c.args.product.now c.args.radii.now c.loop-back.back c.requires.radii (omega arith))
          (c.loop-back.invariant.next
          ∙ ap (λ G. second_before_term c.args.product.now (payment_plan c.args.product.now) G c.loop-back.back)
          (sym c.pow-largest.ensures))
          ∙ ap (λ G. second_before_term c.args.product.now (payment_plan c.args.product.now) G (c.loop-back.back + 1))
          c.pow-largest.ensures;
    }

pub returns : goal.returns
returns c =
    let months = c.months-months.ensures.value in
    all_dates (second_before_term c.args.product.now (payment_plan c.args.product.now) (2 ^ c.args.scale))
    c.args.product.now.months
    c.loop-back.back c.loop-back.second c.loop-back.seconds.items _ (omega arith)
    c.loop-back.invariant.dates c.loop-back.invariant.next c.in_ok-push-2.ensures.items
