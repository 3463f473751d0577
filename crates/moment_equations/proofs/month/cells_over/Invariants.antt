use Rattle.std.proofs.Common.{◌≡◌, ◌+◌, ◌≤◌, length}
use Rattle.std.specs.Prelude.{IsTrue}
use Rattle.named_numbers.specs.Numbers.{least_degree, highest_degree}
use Rattle.linear_system.specs.Setting.{HaveSamePlaces}
use Rattle.model_specs.specs.Payments.{payment_plan}
use Rattle.model_specs.specs.Stretches.{is_constant_month}
use Rattle.cell_coeffs.specs.PairRows.{IsMadeForMoments}
use Rattle.moment_equations.specs.NearMoments.{months_behind, StaysNear}
use Rattle.moment_equations.proofs.month.cells_over.Given as goal

abbrev pub invariant-loop-done : goal.invariant-loop-done
invariant-loop-done g l = record {
  near : StaysNear l.adm (months_behind l.adm l.month) l.degree l.done l.initial.mid l.mid;
  least : least_degree ≤ l.degree;
  highest : l.degree ≤ highest_degree;
  constant : IsTrue (is_constant_month l.adm (payment_plan l.adm) l.month) → l.degree ≤ least_degree + 1;
  long : length l.mid ≡ length l.adm.states + length l.adm.states;
  work : l.work ≡ l.initial.work;
  count : l.steps ≡ l.initial.steps + l.done;
  made : IsMadeForMoments l.adm l.system;
  places : HaveSamePlaces l.initial.system l.system;
}
