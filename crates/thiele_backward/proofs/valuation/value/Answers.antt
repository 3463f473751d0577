use Rattle.std.proofs.Common.{◌≡◌, ◌+◌, ◌<◌, ap, sym, subst, ◌∙◌, refl, arith}
use Rattle.named_numbers.specs.Numbers.{least_degree}
use Rattle.thiele_backward.specs.Costs.{cells_cost}
use Rattle.thiele_backward.specs.Sweeps.{BackwardSweep, at_term, month_earlier}
use Rattle.rate_bounds.specs.MonthPay.{plan_named}
use Rattle.thiele_backward.proofs.StepCounts.{CostIs, HasSteps, month_fits, month_counted, all_counted}
use Rattle.thiele_backward.proofs.StepCounts.{on_err_is, refused_early}
use Rattle.thiele_backward.proofs.SweptTerms.{IsSwept, swept_none, swept_more, valued_for}
use Rattle.thiele_backward.proofs.valuation.value.Goals as goal

pub loop-month-init : goal.loop-month-init
loop-month-init g c = record {
  swept = subst (λ s. IsSwept c.args.adm.now c.args.which 0 least_degree s) (sym c.in_ok-sweep.ensures.begun)
      (swept_none c.args.adm.now c.args.which);
  count = ap (λ k. c.prepare.new.steps + cells_cost c.args.adm.now (plan_named c.args.which c.args.adm.now) k)
      (ap (λ (s : BackwardSweep). s.months_left) c.in_ok-sweep.ensures.begun);
}

pub month_back-row-requires-clause-count : goal.month_back-row-requires-clause-count
month_back-row-requires-clause-count g c =
    let swept = c.loop-month.invariant.swept in
    let term : c.months-month-end.result ≡ c.args.adm.now.months =
    c.months-month-end.ensures.value ∙ ap (λ p. p.months) c.product.ensures.product in
    let left : 0 < c.loop-month.sweep.months_left = omega (arith, swept.left, c.loop-month-test.true, term) in
    month_fits c.args.adm.now c.args.which
    (record { split = c.cost_splits.ensures.split; few = c.cost_splits.ensures.few }) c.loop-month._month
    c.loop-month.degree c.loop-month.sweep swept c.args.steps.now c.prepare.new.steps c.in_ok-sweep.ensures.count
    c.requires c.loop-month.steps c.loop-month.invariant.count left

pub loop-month-preserved : goal.loop-month-preserved
loop-month-preserved g c =
    let swept = c.loop-month.invariant.swept in
    let term : c.months-month-end.result ≡ c.args.adm.now.months =
    c.months-month-end.ensures.value ∙ ap (λ p. p.months) c.product.ensures.product in
    let left : 0 < c.loop-month.sweep.months_left = omega (arith, swept.left, c.loop-month-test.true, term) in
    let cost_is : CostIs c.args.adm.now (plan_named c.args.which c.args.adm.now) =
    record { split = c.cost_splits.ensures.split; few = c.cost_splits.ensures.few } in
    let row = c.month_back-row.result in
    let more = swept_more c.args.adm.now c.args.which c.loop-month._month c.loop-month.degree row.degree
    c.loop-month.sweep swept left c.month_back-row.ensures.least c.month_back-row.ensures.highest
    c.month_back-row.ensures.constant in
    record {
      swept = subst (λ s. IsSwept c.args.adm.now c.args.which (c.loop-month._month + 1) c.max-degree.result s)
          (sym c.month_back-row.ensures.earlier)
          (subst (λ d. IsSwept c.args.adm.now c.args.which (c.loop-month._month + 1) d
          (month_earlier c.loop-month.sweep row.degree)) (sym c.max-degree.ensures) more);
      count = subst (λ left. HasSteps c.args.adm.now c.args.which cost_is c.loop-month._month c.loop-month.degree
          c.loop-month.sweep swept c.args.steps.now c.prepare.new.steps c.in_ok-sweep.ensures.count c.requires
          c.month_back-row.new.steps left)
          (sym (ap (λ (s : BackwardSweep). s.months_left) c.month_back-row.ensures.earlier))
          (month_counted c.args.adm.now c.args.which cost_is c.loop-month._month c.loop-month.degree c.loop-month.sweep
          swept c.args.steps.now c.prepare.new.steps c.in_ok-sweep.ensures.count c.requires c.loop-month.steps
          c.month_back-row.new.steps c.loop-month.invariant.count left c.month_back-row.ensures.count);
    }

pub returns-clause-value : goal.returns-clause-value
returns-clause-value g c =
    let term : c.months-month-end.result ≡ c.args.adm.now.months =
    c.months-month-end.ensures.value ∙ ap (λ p. p.months) c.product.ensures.product in
    let done : c.loop-month._month ≡ c.args.adm.now.months =
    omega (arith, c.loop-month-test.false, c.loop-month.auto, term) in
    let swept = subst (λ n. IsSwept c.args.adm.now c.args.which n c.loop-month.degree c.loop-month.sweep) done
    c.loop-month.invariant.swept in
    let start : c.start.result ≡ c.args.adm.now.start =
    c.start.ensures.value ∙ ap (λ p. p.start) c.product-2.ensures.product in
    let begun = swept.begun ∙ ap at_term (sym swept.product_is) in
    valued_for c.args.adm.now c.args.which c.loop-month.degree _ c.start.result c.loop-month.sweep _ swept refl start
    c.enclosure_before.ensures.width c.enclosure_before.ensures.small (c.enclosure_before.ensures.reserves begun)

pub returns-clause-count : goal.returns-clause-count
returns-clause-count g c =
    let term : c.months-month-end.result ≡ c.args.adm.now.months =
    c.months-month-end.ensures.value ∙ ap (λ p. p.months) c.product.ensures.product in
    all_counted c.args.adm.now c.args.which
    (record { split = c.cost_splits.ensures.split; few = c.cost_splits.ensures.few }) c.loop-month._month
    c.loop-month.degree c.loop-month.sweep c.loop-month.invariant.swept c.args.steps.now c.prepare.new.steps
    c.in_ok-sweep.ensures.count c.requires c.loop-month.steps c.loop-month.invariant.count
    (omega (arith, c.loop-month.invariant.swept.left, c.loop-month-test.false, term))

pub returns-clause-count_at_most : goal.returns-clause-count_at_most
returns-clause-count_at_most g c = omega (arith, returns-clause-count g c, c.cost_splits.ensures.few)

pub returns-in_err-sweep-clause-refused : goal.returns-in_err-sweep-clause-refused
returns-in_err-sweep-clause-refused g c =
    on_err_is c.from_residual.result
    (refused_early c.args.adm.now (plan_named c.args.which c.args.adm.now) c.args.steps.now c.prepare.new.steps
    (record { split = c.cost_splits.ensures.split; few = c.cost_splits.ensures.few }) c.in_err-sweep.ensures.refused)

pub returns-in_err-sweep-clause-count_at_most : goal.returns-in_err-sweep-clause-count_at_most
returns-in_err-sweep-clause-count_at_most g c = omega (
  arith,
  c.cost_splits.ensures.split,
  c.cost_splits.ensures.few,
  c.in_err-sweep.ensures.refused.most,
)

pub prepare-requires : goal.prepare-requires
prepare-requires g c =
    omega (arith, c.cost_splits.ensures.split, c.cost_splits.ensures.few, c.requires)
