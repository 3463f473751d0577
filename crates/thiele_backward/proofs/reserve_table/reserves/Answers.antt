use Rattle.std.proofs.Common.{◌≡◌, ◌+◌, ◌*◌, ◌/◌, ◌<◌, length, ap, sym, subst, ◌∙◌, refl, rules, arith}
use Rattle.std.proofs.lemmas.List.{with_items_is}
use Rattle.named_numbers.specs.Numbers.{least_degree}
use Rattle.payment_plan.specs.declared.pattern.Which.TheVariants.{Benefits}
use Rattle.model_specs.specs.Payments.{payment_plan}
use Rattle.thiele_backward.specs.Costs.{cells_cost}
use Rattle.thiele_backward.specs.Dates.{KeepsRowsFrom}
use Rattle.thiele_backward.specs.Sweeps.{BackwardSweep, month_earlier}
use Rattle.thiele_backward.proofs.StepCounts.{CostIs, HasSteps, month_fits, month_counted, all_counted}
use Rattle.thiele_backward.proofs.StepCounts.{on_err_is, refused_early}
use Rattle.thiele_backward.proofs.SweptTerms.{IsSwept, swept_none, swept_more}
use Rattle.thiele_backward.proofs.WrittenDates.{HasDatesFrom, dates_at_term, dates_more, room_for, table_for}
use Rattle.thiele_backward.proofs.WrittenDates.{entry_for}
use Rattle.thiele_backward.proofs.reserve_table.reserves.Goals as goal

pub loop-month-init : goal.loop-month-init
loop-month-init g c =
    let swept = subst (λ s. IsSwept c.args.adm.now Benefits 0 least_degree s) (sym c.in_ok-sweep.ensures.begun)
    (swept_none c.args.adm.now Benefits) in
    let written = with_items_is c.in_ok-cells.cells c.keep_date.new.cells
    (c.keep_date.auto.cells ∙ c.deref_mut.ensures.len) in
    let months : c.months-months.result ≡ c.args.adm.now.months =
    c.months-months.ensures.value ∙ ap (λ p. p.months) c.product-2.ensures.product in
    let states : c.states-states.result ≡ length c.args.adm.now.states = search rules in
    let room : length c.keep_date.new.cells
    ≡ (c.args.adm.now.months / c.args.every + 1) * length c.args.adm.now.states =
    c.keep_date.auto.cells ∙ c.deref_mut.ensures.len ∙ c.in_ok-cells.ensures.len
    ∙ ap (λ n. (n / c.args.every + 1) * c.states-states.result) months
    ∙ ap (λ n. (c.args.adm.now.months / c.args.every + 1) * n) states in
    record {
      swept = swept;
      count = ap (λ k. c.prepare.new.steps + cells_cost c.args.adm.now (payment_plan c.args.adm.now) k)
          (ap (λ (s : BackwardSweep). s.months_left) c.in_ok-sweep.ensures.begun);
      dates = subst
          (λ cells. HasDatesFrom c.args.adm.now c.args.every c.in_ok-sweep.sweep.months_left least_degree cells)
          (sym written) (dates_at_term c.args.adm.now c.args.every least_degree c.in_ok-sweep.sweep
          c.keep_date.new.cells swept.product_is swept.degree_is (omega (arith, swept.left)) room
          c.keep_date.ensures.written);
    }

pub keep_date-requires-in-loop-month-clause-room : goal.keep_date-requires-in-loop-month-clause-room
keep_date-requires-in-loop-month-clause-room g c =
    let h = c.loop-month.invariant in
    let left = ap (λ (s : BackwardSweep). s.months_left) c.month_back-row.ensures.earlier in
    let states : c.states-states.result ≡ length c.args.adm.now.states = search rules in
    let long : length c.deref_mut-in-loop-month.result.now ≡ length c.loop-month.cells.items =
    ap length c.deref_mut-in-loop-month.ensures.value in
    room_for c.month_back-row.new.self.months_left c.args.adm.now.months c.args.every c.states-states.result
    (length c.args.adm.now.states) _ c.requires.every states (omega (arith, left, h.swept.left)) (long ∙ h.dates.room)

pub month_back-row-requires-clause-count : goal.month_back-row-requires-clause-count
month_back-row-requires-clause-count g c =
    let h = c.loop-month.invariant in
    let months : c.months-months.result ≡ c.args.adm.now.months =
    c.months-months.ensures.value ∙ ap (λ product. product.months) c.product-2.ensures.product in
    let left : 0 < c.loop-month.sweep.months_left = omega (arith, h.swept.left, c.loop-month-test.true, months) in
    month_fits c.args.adm.now Benefits
    (record { split = c.cost_splits.ensures.split; few = c.cost_splits.ensures.few }) c.loop-month._month
    c.loop-month.degree c.loop-month.sweep h.swept c.args.steps.now c.prepare.new.steps c.in_ok-sweep.ensures.count
    c.requires.count c.loop-month.steps h.count left

pub loop-month-preserved : goal.loop-month-preserved
loop-month-preserved g c =
    let p = c.args.adm.now in
    let cost_is : CostIs c.args.adm.now (payment_plan c.args.adm.now) =
    record { split = c.cost_splits.ensures.split; few = c.cost_splits.ensures.few } in
    let h = c.loop-month.invariant in
    let row = c.month_back-row.result in
    let s = c.month_back-row.new.self in
    let months : c.months-months.result ≡ c.args.adm.now.months =
    c.months-months.ensures.value ∙ ap (λ product. product.months) c.product-2.ensures.product in
    let states : c.states-states.result ≡ length c.args.adm.now.states = search rules in
    let left : 0 < c.loop-month.sweep.months_left = omega (arith, h.swept.left, c.loop-month-test.true, months) in
    let more = swept_more p Benefits c.loop-month._month c.loop-month.degree row.degree c.loop-month.sweep h.swept left
    c.month_back-row.ensures.least c.month_back-row.ensures.highest c.month_back-row.ensures.constant in
    let swept = subst (λ z. IsSwept c.args.adm.now Benefits (c.loop-month._month + 1) c.max-degree.result z)
    (sym c.month_back-row.ensures.earlier)
    (subst (λ d. IsSwept c.args.adm.now Benefits (c.loop-month._month + 1) d
    (month_earlier c.loop-month.sweep c.month_back-row.result.degree)) (sym c.max-degree.ensures) more) in
    let new = c.keep_date-in-loop-month.new.cells in
    let read = c.deref_mut-in-loop-month.ensures in
    let written = with_items_is c.loop-month.cells c.keep_date-in-loop-month.new.cells
    (c.keep_date-in-loop-month.auto.cells ∙ read.len) in
    let earlier : c.loop-month.sweep.months_left ≡ c.month_back-row.new.self.months_left + 1 =
    omega (arith, left, ap (λ (z : BackwardSweep). z.months_left) c.month_back-row.ensures.earlier) in
    let dates = subst (λ n. HasDatesFrom c.args.adm.now c.args.every n c.loop-month.degree c.loop-month.cells.items)
    earlier h.dates in
    let kept = subst (λ n. KeepsRowsFrom (c.month_back-row.new.self.months_left / c.args.every + 1) n
    c.loop-month.cells.items c.keep_date-in-loop-month.new.cells) states
    (subst (λ old. KeepsRowsFrom (c.month_back-row.new.self.months_left / c.args.every + 1) c.states-states.result old
    c.keep_date-in-loop-month.new.cells) read.value c.keep_date-in-loop-month.ensures.kept) in
    record {
      swept = swept;
      count = subst (λ k. HasSteps c.args.adm.now Benefits cost_is c.loop-month._month c.loop-month.degree
          c.loop-month.sweep h.swept c.args.steps.now c.prepare.new.steps c.in_ok-sweep.ensures.count c.requires.count
          c.month_back-row.new.steps k)
          (sym (ap (λ (z : BackwardSweep). z.months_left) c.month_back-row.ensures.earlier))
          (month_counted c.args.adm.now Benefits cost_is c.loop-month._month c.loop-month.degree c.loop-month.sweep
          h.swept c.args.steps.now c.prepare.new.steps c.in_ok-sweep.ensures.count c.requires.count c.loop-month.steps
          c.month_back-row.new.steps h.count left c.month_back-row.ensures.count);
      dates = subst
          (λ cells. HasDatesFrom c.args.adm.now c.args.every c.month_back-row.new.self.months_left
          c.max-degree.result cells) (sym written)
          (dates_more p c.args.every c.loop-month.degree c.max-degree.result s c.loop-month.cells.items new
          c.requires.every (omega (arith, c.max-degree.ensures)) swept.product_is swept.degree_is
          (c.keep_date-in-loop-month.auto.cells ∙ ap length read.value) dates kept
          c.keep_date-in-loop-month.ensures.written);
    }

pub returns-clause-reserves : goal.returns-clause-reserves
returns-clause-reserves g c =
    let h = c.loop-month.invariant in
    let months : c.months-months.result ≡ c.args.adm.now.months =
    c.months-months.ensures.value ∙ ap (λ product. product.months) c.product-2.ensures.product in
    let states : c.states-states.result ≡ length c.args.adm.now.states = search rules in
    let done : c.loop-month.sweep.months_left ≡ 0 =
    omega (arith, h.swept.left, c.loop-month-test.false, months) in
    table_for c.args.adm.now c.args.every c.loop-month.degree _ c.requires.every h.swept.answered refl refl states
    (subst (λ n. HasDatesFrom c.args.adm.now c.args.every n c.loop-month.degree c.loop-month.cells.items) done h.dates)

pub returns-clause-around : goal.returns-clause-around
returns-clause-around g c row state last inside =
    let h = c.loop-month.invariant in
    let months : c.months-months.result ≡ c.args.adm.now.months =
    c.months-months.ensures.value ∙ ap (λ product. product.months) c.product-2.ensures.product in
    let states : c.states-states.result ≡ length c.args.adm.now.states = search rules in
    let done : c.loop-month.sweep.months_left ≡ 0 =
    omega (arith, h.swept.left, c.loop-month-test.false, months) in
    (entry_for c.args.adm.now c.args.every c.loop-month.degree (record {
      degree = c.loop-month.degree;
      every = c.args.every;
      states = c.states-states.result;
      cells = c.loop-month.cells;
    }) row state refl states
    (subst (λ n. HasDatesFrom c.args.adm.now c.args.every n c.loop-month.degree c.loop-month.cells.items) done h.dates)
    last inside).around

pub returns-clause-count : goal.returns-clause-count
returns-clause-count g c =
    let h = c.loop-month.invariant in
    let months : c.months-months.result ≡ c.args.adm.now.months =
    c.months-months.ensures.value ∙ ap (λ product. product.months) c.product-2.ensures.product in
    all_counted c.args.adm.now Benefits
    (record { split = c.cost_splits.ensures.split; few = c.cost_splits.ensures.few }) c.loop-month._month
    c.loop-month.degree c.loop-month.sweep h.swept c.args.steps.now c.prepare.new.steps c.in_ok-sweep.ensures.count
    c.requires.count c.loop-month.steps h.count (omega (arith, h.swept.left, c.loop-month-test.false, months))

pub returns-clause-count_at_most : goal.returns-clause-count_at_most
returns-clause-count_at_most g c = omega (arith, returns-clause-count g c, c.cost_splits.ensures.few)

pub returns-in_err-sweep-clause-refused : goal.returns-in_err-sweep-clause-refused
returns-in_err-sweep-clause-refused g c =
    on_err_is c.from_residual.result
    (refused_early c.args.adm.now (payment_plan c.args.adm.now) c.args.steps.now c.prepare.new.steps
    (record { split = c.cost_splits.ensures.split; few = c.cost_splits.ensures.few }) c.in_err-sweep.ensures.refused)

pub returns-in_err-sweep-clause-count_at_most : goal.returns-in_err-sweep-clause-count_at_most
returns-in_err-sweep-clause-count_at_most g c = omega (
  arith,
  c.cost_splits.ensures.split,
  c.cost_splits.ensures.few,
  c.in_err-sweep.ensures.refused.most,
)

pub prepare-requires : goal.prepare-requires
prepare-requires g c =
    omega (arith, c.cost_splits.ensures.split, c.cost_splits.ensures.few, c.requires.count)
