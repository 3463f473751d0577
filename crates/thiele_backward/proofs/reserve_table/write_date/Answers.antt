use Rattle.std.proofs.Common.{◌≡◌, ℕ, ◌+◌, ◌-◌, ◌*◌, ◌^◌, ◌<◌, ◌≤◌, min, pos, ◌+ℤ◌, length, refl, subst, arith}
use Rattle.model_specs.specs.Ledgers.{radius, scale}
use Rattle.model_specs.specs.Payments.{payment_plan}
use Rattle.model_specs.specs.Runs.{reserve}
use Rattle.fixed_interval.specs.Intervals.{LiesInside}
use Rattle.payment_plan.specs.declared.pattern.Which.{Which}
use Rattle.rate_bounds.specs.MonthPay.{plan_named}
use Rattle.payment_plan.specs.declared.pattern.Which.TheVariants.{Benefits}
use Rattle.thiele_backward.specs.Dates.{IsReserveAt}
use Rattle.thiele_backward.specs.Sweeps.{Beginning}
use Rattle.thiele_backward.proofs.WrittenDates.{ends_for, around_for, state_written, row_kept}
use Rattle.thiele_backward.proofs.reserve_table.write_date.Goals as goal

pub loop-state-preserved : goal.loop-state-preserved
loop-state-preserved c =
    let s = c.args.sweep.now in
    let state = c.loop-state.state in
    let few : c.loop-state.state < c.args.states = c.loop-state-test.true in
    let Holds : Which → Beginning → Type 0 = λ which begun. (n : ℕ) → c.args.sweep.now.degree ≤ n
    → LiesInside (min 1 (begun.months_left - c.args.sweep.now.months_left)
    * 2 ^ scale c.args.sweep.now.product (plan_named which c.args.sweep.now.product))
    (reserve c.args.sweep.now.product (plan_named which c.args.sweep.now.product) n
    c.args.sweep.now.months_left c.loop-state.state) c.enclosure.result in
    let Wide : Which → Type 0 = λ which. c.enclosure.result.hi ≡ c.enclosure.result.lo
    +ℤ pos (2 * radius c.args.sweep.now.product c.args.sweep.now.months_left
    * 2 ^ scale c.args.sweep.now.product (plan_named which c.args.sweep.now.product)) in
    let held = subst (λ begun. Holds Benefits begun) c.requires.reserves.begun
    (subst (λ which. Holds which c.args.sweep.now.begun) c.requires.reserves.which
    (c.enclosure.ensures.reserves c.requires.reserves.begun)) in
    let width = subst Wide c.requires.reserves.which c.enclosure.ensures.width in
    let ends = c.printed.ensures in
    let plan = payment_plan c.args.sweep.now.product in
    let spare = min 1 (s.product.months - s.months_left) * 2 ^ scale s.product plan in
    let right : IsReserveAt c.args.sweep.now.product c.args.sweep.now.degree c.args.sweep.now.months_left
    c.loop-state.state c.printed.result = record {
      holds = ends_for s.degree spare (radius s.product s.months_left) (scale s.product plan)
          (λ n. reserve s.product plan n s.months_left state) c.enclosure.result c.printed.result held width
          ends.ordered ends.small ends.encloses ends.narrow;
      around = around_for s.degree spare (λ n. reserve s.product plan n s.months_left state) c.enclosure.result
          c.printed.result held ends.encloses;
    } in
    let inside : c.args.row * c.args.states + c.loop-state.state < length c.loop-state.cells =
    omega (arith, c.requires.room, c.loop-state.auto.cells, few) in
    record {
      written = state_written s.product s.degree s.months_left c.args.row c.args.states state c.loop-state.cells _
          c.printed.result refl inside right c.loop-state.invariant.written;
      kept = row_kept c.args.row c.args.states state c.args.cells.now c.loop-state.cells _ c.printed.result refl few
          c.loop-state.invariant.kept;
    }
