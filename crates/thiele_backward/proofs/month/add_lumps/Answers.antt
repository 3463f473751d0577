use Rattle.std.proofs.Common.{◌∙◌, ap, suc, arith, length}
use Rattle.product_model.specs.Views.{payments_of}
use Rattle.rate_bounds.specs.MonthPay.{plan_named}
use Rattle.cell_coeffs.proofs.DateLumps.{lumps_of_states}
use Rattle.thiele_backward.proofs.LumpedNumbers.{lumps_are, lumps_few, lumps_within, lumped_near, start_most}
use Rattle.thiele_backward.proofs.LumpedNumbers.{some_lumped}
use Rattle.thiele_backward.proofs.month.add_lumps.Goals as goal

pub apply_first-requires-clause-few : goal.apply_first-requires-clause-few
apply_first-requires-clause-few c =
    let product = c.args.adm.now in
    let are = lumps_are c.args.which product c.args.month c.plan.result.now c.lumps_at-lumps.result.now
    (c.plan.ensures.payments ∙ ap payments_of c.product.ensures.product) c.lumps_at-lumps.ensures in
    lumps_few product (plan_named c.args.which product) (suc c.args.month) c.lumps_at-lumps.result.now
    c.product.ensures.admissible.well_formed are

pub apply_first-requires-clause-states : goal.apply_first-requires-clause-states
apply_first-requires-clause-states c =
    let product = c.args.adm.now in
    let are = lumps_are c.args.which product c.args.month c.plan.result.now c.lumps_at-lumps.result.now
    (c.plan.ensures.payments ∙ ap payments_of c.product.ensures.product) c.lumps_at-lumps.ensures in
    rw (c.requires.mid, are)
    (lumps_of_states (length product.states) (plan_named c.args.which product) (suc c.args.month))

pub apply_first-requires-clause-amounts : goal.apply_first-requires-clause-amounts
apply_first-requires-clause-amounts c =
    let product = c.args.adm.now in
    let are = lumps_are c.args.which product c.args.month c.plan.result.now c.lumps_at-lumps.result.now
    (c.plan.ensures.payments ∙ ap payments_of c.product.ensures.product) c.lumps_at-lumps.ensures in
    rw are (lumps_within product (plan_named c.args.which product) c.scale.result (suc c.args.month)
    c.scale.ensures.value (omega (arith, c.requires.month)))

pub apply_first-requires-clause-sizes : goal.apply_first-requires-clause-sizes
apply_first-requires-clause-sizes c =
    start_most c.args.adm.now (plan_named c.args.which c.args.adm.now) c.args.month c.args.mid.now
    c.product.ensures.admissible c.requires.month c.requires.some

pub returns-clause-lumped : goal.returns-clause-lumped
returns-clause-lumped c =
    let product = c.args.adm.now in
    let plan = plan_named c.args.which product in
    let are = lumps_are c.args.which product c.args.month c.plan.result.now c.lumps_at-lumps.result.now
    (c.plan.ensures.payments ∙ ap payments_of c.product.ensures.product) c.lumps_at-lumps.ensures in
    lumped_near product plan c.args.month c.scale.result c.scale.ensures.value c.scale.ensures.most c.args.mid.now
    c.apply_first.new.mid c.lumps_at-lumps.result.now are c.requires.mid
    (c.apply_first.auto.mid ∙ c.requires.mid) c.apply_first.ensures

pub returns-clause-some : goal.returns-clause-some
returns-clause-some c =
    some_lumped c.args.adm.now (plan_named c.args.which c.args.adm.now) c.args.month c.args.mid.now
    c.apply_first.new.mid (returns-clause-lumped c) c.requires.some
