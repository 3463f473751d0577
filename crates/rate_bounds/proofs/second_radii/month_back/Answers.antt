use Rattle.std.proofs.Common.{◌≤◌, ◌+◌, ◌^◌, arith, ◌∙◌}
use Rattle.model_specs.specs.Payments.{payment_plan}
use Rattle.rate_bounds.specs.LedgerSteps.{radius_step}
use Rattle.rate_bounds.proofs.RadiusSteps.{radius_cells_fit, no_cells}
use Rattle.rate_bounds.proofs.SecondSteps.{second_step_is, second_cells_fit}
use Rattle.rate_bounds.proofs.second_radii.month_back.Goals as goal

pub date_adds-adds-requires-clause-radius : goal.date_adds-adds-requires-clause-radius
date_adds-adds-requires-clause-radius c =
    let start : radius_step c.args.product.now c.args.month c.args.w 0 ≤ 2 ^ 40 = c.requires.first 0 (omega arith) in
    omega (arith, start, no_cells c.args.product.now c.args.month c.args.w)

pub overflow_add-second : goal.overflow_add-second
overflow_add-second c =
    let fits : c.args.second + c.date_adds-adds.result ≤ 2 ^ 80 =
    second_cells_fit c.args.product.now (payment_plan c.args.product.now) c.args.largest c.args.month c.args.w
    c.args.second 32
    c.kappa_at-kappa40.result c.pay_at-pay.result c.date_adds-adds.result c.lumps_of.result.now
    (record {
      kappa_is = c.kappa_at-kappa40.ensures.value;
      pay_is = c.pay_at-pay.ensures.value;
      lumps_are = c.lumps_of.ensures;
      adds_is = c.date_adds-adds.ensures;
    })
    c.requires.fits 0 (omega arith) in
    omega (arith, fits)

pub second_grow_cells-requires-clause-fits : goal.second_grow_cells-requires-clause-fits
second_grow_cells-requires-clause-fits c = record {
  first = radius_cells_fit c.args.product.now c.args.month c.args.w 32 c.kappa_at-kappa40.result (2 ^ 40)
      c.kappa_at-kappa40.ensures.value c.requires.first;
  second = second_cells_fit c.args.product.now (payment_plan c.args.product.now) c.args.largest c.args.month c.args.w
      c.args.second 32
      c.kappa_at-kappa40.result c.pay_at-pay.result c.date_adds-adds.result c.lumps_of.result.now
      (record {
        kappa_is = c.kappa_at-kappa40.ensures.value;
        pay_is = c.pay_at-pay.ensures.value;
        lumps_are = c.lumps_of.ensures;
        adds_is = c.date_adds-adds.ensures;
      })
      c.requires.fits;
}

pub returns : goal.returns
returns c =
    c.second_grow_cells.ensures
    ∙ second_step_is c.args.product.now (payment_plan c.args.product.now) c.args.largest c.args.month c.args.w
    c.args.second 32
    c.kappa_at-kappa40.result c.pay_at-pay.result c.date_adds-adds.result c.lumps_of.result.now
    (record {
      kappa_is = c.kappa_at-kappa40.ensures.value;
      pay_is = c.pay_at-pay.ensures.value;
      lumps_are = c.lumps_of.ensures;
      adds_is = c.date_adds-adds.ensures;
    })
