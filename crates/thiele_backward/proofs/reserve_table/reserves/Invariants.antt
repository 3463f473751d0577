use Rattle.std.proofs.Common.{◌≡◌, ◌+◌}
use Rattle.model_specs.specs.Payments.{payment_plan}
use Rattle.payment_plan.specs.declared.pattern.Which.TheVariants.{Benefits}
use Rattle.thiele_backward.specs.Costs.{cells_cost}
use Rattle.thiele_backward.proofs.SweptTerms.{IsSwept}
use Rattle.thiele_backward.proofs.WrittenDates.{HasDatesFrom}
use Rattle.thiele_backward.proofs.reserve_table.reserves.Given as goal

abbrev pub invariant-loop-month : goal.invariant-loop-month
invariant-loop-month g l = record {
  swept : IsSwept l.adm Benefits l._month l.degree l.sweep;
  count : l.steps + cells_cost l.adm (payment_plan l.adm) l.sweep.months_left
      ≡ l.initial.steps + cells_cost l.adm (payment_plan l.adm) l.adm.months;
  dates : HasDatesFrom l.adm l.every l.sweep.months_left l.degree l.cells.items;
}
