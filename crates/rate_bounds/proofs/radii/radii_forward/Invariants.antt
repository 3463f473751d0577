use Rattle.std.proofs.Common.{◌≡◌}
use Rattle.whole_laws.specs.Whole.{list_of}
use Rattle.model_specs.specs.Ledgers.{radius_forward}
use Rattle.rate_bounds.proofs.radii.radii_forward.Given as goal

-- the radii of the dates so far, and the next one
abbrev pub invariant-loop-month : goal.invariant-loop-month
invariant-loop-month l = record {
  dates : l.radii.items ≡ list_of l.month (radius_forward l.product);
  next : l.w ≡ radius_forward l.product l.month;
}
