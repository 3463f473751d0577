use Rattle.std.proofs.Common.{◌≡◌, ℕ, ◌+◌, ◌*◌, ◌/◌, ◌<◌, length, ap, sym, subst, ◌∙◌, refl, rules, arith}
use Rattle.std.proofs.lemmas.List.{with_items_is}
use Rattle.model_specs.specs.Payments.{payment_plan}
use Rattle.model_specs.specs.Product.{Product}
use Rattle.model_specs.specs.Stretches.{is_constant_month}
use Rattle.std.specs.Prelude.{IsTrue}
use Rattle.thiele_backward.specs.Results.{AreConstantMonths}
use Rattle.thiele_backward.proofs.WrittenDates.{room_for}
use Rattle.kolmogorov_forward.specs.Dates.{KeepsRowsBelow}
use Rattle.kolmogorov_forward.specs.Sweeps.{ForwardSweep}
use Rattle.kolmogorov_forward.proofs.WrittenDates.{HasDatesTo, dates_at_issue, dates_more, table_for, begins_in_start}
use Rattle.kolmogorov_forward.proofs.occupancy_table.occupancy.Goals as goal

-- a month of a product in which nothing varies
constant_here : (product : Product) (s : ForwardSweep) → s.product ≡ product → s.date < product.months
    → AreConstantMonths product (payment_plan product)
    → IsTrue (is_constant_month s.product (payment_plan s.product) s.date)
constant_here product s is left all =
    subst (λ p. IsTrue (is_constant_month p (payment_plan p) s.date)) (sym is) (all s.date left)

pub keep_date-requires-clause-room : goal.keep_date-requires-clause-room
keep_date-requires-clause-room g c =
    let date = ap (λ (s : ForwardSweep). s.date) c.in_ok-sweep.ensures in
    let months : c.months-months.result ≡ c.args.adm.now.months =
    c.months-months.ensures.value ∙ ap (λ p. p.months) c.product-2.ensures.product in
    let states : c.states-states.result ≡ length c.args.adm.now.states = search rules in
    let long : length c.deref_mut.result.now
    ≡ (c.args.adm.now.months / c.args.every + 1) * length c.args.adm.now.states =
    c.deref_mut.ensures.len ∙ c.in_ok-cells.ensures.len
    ∙ ap (λ n. (n / c.args.every + 1) * c.states-states.result) months
    ∙ ap (λ n. (c.args.adm.now.months / c.args.every + 1) * n) states in
    room_for c.in_ok-sweep.sweep.date c.args.adm.now.months c.args.every c.states-states.result
    (length c.args.adm.now.states) _ c.requires.every states (omega (arith, date)) long

pub loop-month-init : goal.loop-month-init
loop-month-init g c =
    let begun = c.in_ok-sweep.ensures in
    let product = ap (λ (s : ForwardSweep). s.product) begun in
    let degree = ap (λ (s : ForwardSweep). s.degree) begun in
    let date = ap (λ (s : ForwardSweep). s.date) begun in
    let written = with_items_is c.in_ok-cells.cells c.keep_date.new.cells
    (c.keep_date.auto.cells ∙ c.deref_mut.ensures.len) in
    let months : c.months-months.result ≡ c.args.adm.now.months =
    c.months-months.ensures.value ∙ ap (λ p. p.months) c.product-2.ensures.product in
    let states : c.states-states.result ≡ length c.args.adm.now.states = search rules in
    let room : length c.keep_date.new.cells
    ≡ (c.args.adm.now.months / c.args.every + 1) * length c.args.adm.now.states =
    c.keep_date.auto.cells ∙ c.deref_mut.ensures.len ∙ c.in_ok-cells.ensures.len
    ∙ ap (λ n. (n / c.args.every + 1) * c.states-states.result) months
    ∙ ap (λ n. (c.args.adm.now.months / c.args.every + 1) * n) states in
    record {
      product = product;
      date = date;
      degree = record { least = omega (arith, degree); highest = omega (arith, degree) };
      constant = λ all. degree;
      count = omega arith;
      dates = subst (λ cells. HasDatesTo c.args.adm.now c.args.every 0 c.in_ok-sweep.sweep.degree cells) (sym written)
          (dates_at_issue c.args.adm.now c.args.every c.in_ok-sweep.sweep.degree c.in_ok-sweep.sweep
          c.keep_date.new.cells product refl date room c.keep_date.ensures.written);
    }

pub month_forward-requires-clause-left : goal.month_forward-requires-clause-left
month_forward-requires-clause-left g c =
    let h = c.loop-month.invariant in
    let months : c.months-months.result ≡ c.args.adm.now.months =
    c.months-months.ensures.value ∙ ap (λ product. product.months) c.product-2.ensures.product in
    omega (arith, h.date, c.loop-month-test.true, months, ap (λ (p : Product). p.months) h.product)

pub keep_date-requires-in-loop-month-clause-room : goal.keep_date-requires-in-loop-month-clause-room
keep_date-requires-in-loop-month-clause-room g c =
    let h = c.loop-month.invariant in
    let date = ap (λ (s : ForwardSweep). s.date) c.month_forward.ensures.later in
    let months : c.months-months.result ≡ c.args.adm.now.months =
    c.months-months.ensures.value ∙ ap (λ product. product.months) c.product-2.ensures.product in
    let states : c.states-states.result ≡ length c.args.adm.now.states = search rules in
    let long : length c.deref_mut-in-loop-month.result.now ≡ length c.loop-month.cells.items =
    ap length c.deref_mut-in-loop-month.ensures.value in
    room_for c.month_forward.new.self.date c.args.adm.now.months c.args.every c.states-states.result
    (length c.args.adm.now.states) _ c.requires.every states
    (omega (arith, date, h.date, c.loop-month-test.true, months)) (long ∙ h.dates.room)

pub loop-month-preserved : goal.loop-month-preserved
loop-month-preserved g c =
    let p = c.args.adm.now in
    let h = c.loop-month.invariant in
    let s = c.month_forward.new.self in
    let later = c.month_forward.ensures.later in
    let months : c.months-months.result ≡ c.args.adm.now.months =
    c.months-months.ensures.value ∙ ap (λ product. product.months) c.product-2.ensures.product in
    let states : c.states-states.result ≡ length c.args.adm.now.states = search rules in
    let left : c.loop-month._month < c.args.adm.now.months = omega (arith, c.loop-month-test.true, months) in
    let product = ap (λ (z : ForwardSweep). z.product) later ∙ h.product in
    let next : c.month_forward.new.self.date ≡ c.loop-month._month + 1 =
    ap (λ (z : ForwardSweep). z.date) later ∙ ap (λ k. k + 1) h.date in
    let new = c.keep_date-in-loop-month.new.cells in
    let read = c.deref_mut-in-loop-month.ensures in
    let written = with_items_is c.loop-month.cells c.keep_date-in-loop-month.new.cells
    (c.keep_date-in-loop-month.auto.cells ∙ read.len) in
    let kept : (row : ℕ) → row * c.args.every < c.month_forward.new.self.date
    → KeepsRowsBelow (row + 1) (length c.args.adm.now.states) c.loop-month.cells.items
    c.keep_date-in-loop-month.new.cells =
    λ row before. subst (λ n. KeepsRowsBelow (row + 1) n c.loop-month.cells.items
    c.keep_date-in-loop-month.new.cells) states
    (subst (λ old. KeepsRowsBelow (row + 1) c.states-states.result old c.keep_date-in-loop-month.new.cells) read.value
    (c.keep_date-in-loop-month.ensures.kept row before)) in
    record {
      product = product;
      date = next;
      degree = record {
        least = omega (arith, h.degree.least, c.month_forward.ensures.least);
        highest = c.month_forward.ensures.highest;
      };
      constant = λ all. c.month_forward.ensures.constant
          (constant_here c.args.adm.now c.loop-month.sweep h.product (omega (arith, h.date, left)) all)
          ∙ h.constant all;
      count = omega (arith, c.month_forward.ensures.count, h.count);
      dates = subst (λ cells. HasDatesTo c.args.adm.now c.args.every (c.loop-month._month + 1)
          c.month_forward.new.self.degree cells) (sym written)
          (dates_more p c.args.every c.loop-month._month c.loop-month.sweep.degree s.degree s
          c.loop-month.cells.items new
          c.month_forward.ensures.least product refl next
          (c.keep_date-in-loop-month.auto.cells ∙ ap length read.value) h.dates kept
          c.keep_date-in-loop-month.ensures.written);
    }

pub returns-clause-occupancy : goal.returns-clause-occupancy
returns-clause-occupancy g c =
    let h = c.loop-month.invariant in
    let months : c.months-months.result ≡ c.args.adm.now.months =
    c.months-months.ensures.value ∙ ap (λ product. product.months) c.product-2.ensures.product in
    let states : c.states-states.result ≡ length c.args.adm.now.states = search rules in
    let done : c.loop-month._month ≡ c.args.adm.now.months =
    omega (arith, c.loop-month-test.false, c.loop-month.auto, months) in
    table_for c.args.adm.now c.args.every c.loop-month._month c.loop-month.sweep.degree _ h.degree c.degree.ensures refl
    states done h.dates

pub returns-clause-issue : goal.returns-clause-issue
returns-clause-issue g c =
    let states : c.states-states.result ≡ length c.args.adm.now.states = search rules in
    begins_in_start c.args.adm.now c.args.every c.loop-month._month c.loop-month.sweep.degree c.states-states.result
    c.loop-month.cells.items states c.loop-month.invariant.dates
