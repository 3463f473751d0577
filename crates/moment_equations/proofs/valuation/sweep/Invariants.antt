use Rattle.std.proofs.Common.{◌≡◌, ◌+◌, ◌-◌, ◌*◌, ◌≤◌, length}
use Rattle.named_numbers.specs.Numbers.{cells_of_month, least_degree, highest_degree}
use Rattle.model_specs.specs.Payments.{payment_plan}
use Rattle.cell_coeffs.specs.PairRows.{IsMadeForMoments}
use Rattle.thiele_backward.specs.Results.{AreConstantMonths}
use Rattle.moment_equations.specs.Dates.{AreNearFrom, HaveDatesFrom}
use Rattle.moment_equations.proofs.valuation.sweep.Given as goal

abbrev pub invariant-loop-done : goal.invariant-loop-done
invariant-loop-done g l = record {
  near : AreNearFrom l.adm l.degree (l.adm.months - l.done) l.mid;
  dates : HaveDatesFrom l.adm l.every (l.adm.months - l.done) l.degree l.first l.second l.variance;
  least : least_degree ≤ l.degree;
  highest : l.degree ≤ highest_degree;
  constant : AreConstantMonths l.adm (payment_plan l.adm) → l.degree ≤ least_degree + 1;
  long : length l.mid ≡ length l.adm.states + length l.adm.states;
  work : l.work ≡ length l.adm.states + length l.adm.states;
  count : l.steps ≡ l.initial.steps + cells_of_month * l.done;
  made : IsMadeForMoments l.adm l.system;
}
