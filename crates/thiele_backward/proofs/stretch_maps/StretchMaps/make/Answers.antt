use Rattle.std.proofs.Common.{◌≡◌, ◌+◌, ◌∙◌, refl, ap, sym, subst, rules, arith, add-one}
use Rattle.model_specs.specs.Product.{Product}
use Rattle.rate_bounds.specs.MonthPay.{plan_named}
use Rattle.cell_coeffs.proofs.RowSteps.{made_kept}
use Rattle.linear_system.proofs.Made.{same_places_then}
use Rattle.constant_months.specs.Costs.{map_steps}
use Rattle.thiele_backward.specs.StretchMaps.{EndWithMapBefore}
use Rattle.thiele_backward.proofs.StepCounts.{steps_grow, steps_next, on_err_is, rises_by, refused_in_month}
use Rattle.thiele_backward.proofs.StretchMaps.{have_none, have_more, ends_at_first}
use Rattle.thiele_backward.proofs.stretch_maps.StretchMaps.make.Goals as goal

pub loop-month-init : goal.loop-month-init
loop-month-init g c = record {
  have = have_none c.args.adm.now (plan_named c.args.which c.args.adm.now) _ _ (search rules);
  last = ends_at_first c.args.adm.now (plan_named c.args.which c.args.adm.now) _;
  made = c.requires.made;
  same = record { dim = refl; degree = refl; columns = λ row. refl };
  work = refl;
  count = omega arith;
}

pub place_for-requires-clause-count : goal.place_for-requires-clause-count
place_for-requires-clause-count g c =
    let steps = map_steps c.args.adm.now (plan_named c.args.which c.args.adm.now) in
    let months : c.months-month-end.result ≡ c.args.adm.now.months =
    c.months-month-end.ensures.value ∙ ap (λ (p : Product). p.months) c.product.ensures.product in
    omega (
      arith,
      c.loop-month.invariant.count,
      c.requires.count,
      steps_next steps c.loop-month.month,
      steps_grow steps (c.loop-month.month + 1) c.args.adm.now.months (omega (arith, c.loop-month-test.true, months)),
    )

pub loop-month-preserved : goal.loop-month-preserved
loop-month-preserved g c =
    let product = c.args.adm.now in
    let plan = plan_named c.args.which product in
    let before = c.loop-month.invariant in
    record {
      have = have_more product plan c.loop-month.month c.loop-month.maps.items c.place_for.new.maps.items
          c.loop-month.places.items c.push.new.self.items c.in_ok-place.place c.in_ok-push.ensures.items before.have
          c.place_for.ensures.kept c.in_ok-place.ensures.place;
      last = subst (λ m. EndWithMapBefore product plan m c.place_for.new.maps.items)
          (sym (add-one c.loop-month.month)) c.in_ok-place.ensures.last;
      made = made_kept product _ _ c.place_for.ensures.places before.made;
      same = same_places_then _ _ _ before.same c.place_for.ensures.places;
      work = c.place_for.ensures.work ∙ before.work;
      count = omega (
        arith,
        before.count,
        c.in_ok-place.ensures.count,
        steps_next (map_steps product plan) c.loop-month.month,
      );
    }

pub returns-in_err-place-clause-refused : goal.returns-in_err-place-clause-refused
returns-in_err-place-clause-refused g c =
    let months : c.months-month-end.result ≡ c.args.adm.now.months =
    c.months-month-end.ensures.value ∙ ap (λ (p : Product). p.months) c.product.ensures.product in
    on_err_is c.from_residual.result
    (refused_in_month (map_steps c.args.adm.now (plan_named c.args.which c.args.adm.now)) c.args.adm.now.months
    c.loop-month.month c.args.steps.now c.loop-month.steps c.place_for.new.steps
    (omega (arith, c.loop-month-test.true, months)) c.loop-month.invariant.count c.in_err-place.ensures.refused)

pub returns-in_err-push-clause-refused : goal.returns-in_err-push-clause-refused
returns-in_err-push-clause-refused g c =
    let steps = map_steps c.args.adm.now (plan_named c.args.which c.args.adm.now) in
    let months : c.months-month-end.result ≡ c.args.adm.now.months =
    c.months-month-end.ensures.value ∙ ap (λ (p : Product). p.months) c.product.ensures.product in
    on_err_is c.from_residual-in_err-push.result
    (refused_in_month steps c.args.adm.now.months c.loop-month.month c.args.steps.now c.loop-month.steps
    c.place_for.new.steps (omega (arith, c.loop-month-test.true, months)) c.loop-month.invariant.count
    (rises_by c.loop-month.steps (steps c.loop-month.month) c.place_for.new.steps c.in_ok-place.ensures.count))
