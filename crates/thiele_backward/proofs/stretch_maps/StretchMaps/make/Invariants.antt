use Rattle.std.proofs.Common.{◌≡◌, ◌+◌}
use Rattle.linear_system.specs.Setting.{HaveSamePlaces}
use Rattle.rate_bounds.specs.MonthPay.{plan_named}
use Rattle.cell_coeffs.specs.Rows.{IsMadeForFirst}
use Rattle.constant_months.specs.Costs.{map_steps, steps_to}
use Rattle.thiele_backward.specs.StretchMaps.{HaveMaps, EndWithMapBefore}
use Rattle.thiele_backward.proofs.stretch_maps.StretchMaps.make.Given as goal

abbrev pub invariant-loop-month : goal.invariant-loop-month
invariant-loop-month g l = record {
  have : HaveMaps l.adm (plan_named l.which l.adm) l.month l.maps.items l.places.items;
  last : EndWithMapBefore l.adm (plan_named l.which l.adm) l.month l.maps.items;
  made : IsMadeForFirst l.adm l.system;
  same : HaveSamePlaces l.initial.system l.system;
  work : l.work ≡ l.initial.work;
  count : l.steps ≡ l.initial.steps + steps_to (map_steps l.adm (plan_named l.which l.adm)) l.month;
}
