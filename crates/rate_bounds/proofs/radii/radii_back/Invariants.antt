use Rattle.std.proofs.Common.{◌≡◌}
use Rattle.whole_laws.specs.Whole.{list_of}
use Rattle.model_specs.specs.Ledgers.{radius_before_term}
use Rattle.rate_bounds.proofs.radii.radii_back.Given as goal

-- the radii of the dates so far, and the next one
abbrev pub invariant-loop-back : goal.invariant-loop-back
invariant-loop-back l = record {
  dates : l.radii.items ≡ list_of l.back (radius_before_term l.product);
  next : l.w ≡ radius_before_term l.product l.back;
}
