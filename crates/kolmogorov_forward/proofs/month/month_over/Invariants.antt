use Rattle.std.proofs.Common.{◌≡◌, ◌+◌, ◌≤◌, length}
use Rattle.std.specs.Prelude.{IsTrue}
use Rattle.named_numbers.specs.Numbers.{highest_degree}
use Rattle.linear_system.specs.Setting.{HaveSamePlaces}
use Rattle.model_specs.specs.Payments.{payment_plan}
use Rattle.model_specs.specs.Stretches.{is_constant_month}
use Rattle.cell_coeffs.specs.ForwardColumns.{IsMadeForward}
use Rattle.kolmogorov_forward.specs.MonthRuns.{AreNearIn}
use Rattle.kolmogorov_forward.proofs.month.month_over.Given as goal

abbrev pub invariant-loop-cell : goal.invariant-loop-cell
invariant-loop-cell g l = record {
  near : AreNearIn l.adm l.greatest l.month l.cell l.mid;
  least : l.fn.degree ≤ l.greatest;
  highest : l.greatest ≤ highest_degree;
  constant : IsTrue (is_constant_month l.adm (payment_plan l.adm) l.month) → l.greatest ≡ l.fn.degree;
  long : length l.mid ≡ length l.adm.states;
  work : l.work ≡ l.initial.work;
  count : l.steps ≡ l.initial.steps + l.cell;
  made : IsMadeForward l.adm l.system;
  places : HaveSamePlaces l.initial.system l.system;
}
