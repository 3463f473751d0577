use Rattle.std.proofs.Common.{◌≡◌, ◌+◌, ◌*◌}
use Rattle.named_numbers.specs.Numbers.{cells_of_month, least_degree}
use Rattle.model_specs.specs.Payments.{payment_plan}
use Rattle.fixed_interval.specs.Tables.{IsAnsweredDegree}
use Rattle.thiele_backward.specs.Results.{AreConstantMonths}
use Rattle.kolmogorov_forward.proofs.WrittenDates.{HasDatesTo}
use Rattle.kolmogorov_forward.proofs.occupancy_table.occupancy.Given as goal

abbrev pub invariant-loop-month : goal.invariant-loop-month
invariant-loop-month g l = record {
  product : l.sweep.product ≡ l.adm;
  date : l.sweep.date ≡ l._month;
  degree : IsAnsweredDegree l.sweep.degree;
  constant : AreConstantMonths l.adm (payment_plan l.adm) → l.sweep.degree ≡ least_degree;
  count : l.steps ≡ l.initial.steps + cells_of_month * l._month;
  dates : HasDatesTo l.adm l.every l._month l.sweep.degree l.cells.items;
}
