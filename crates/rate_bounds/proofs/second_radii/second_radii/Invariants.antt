use Rattle.std.proofs.Common.{◌≡◌, ◌^◌}
use Rattle.whole_laws.specs.Whole.{list_of}
use Rattle.model_specs.specs.Payments.{payment_plan}
use Rattle.model_specs.specs.Ledgers.{second_before_term}
use Rattle.rate_bounds.proofs.second_radii.second_radii.Given as goal

-- the second radii of the dates so far, and the next one
abbrev pub invariant-loop-back : goal.invariant-loop-back
invariant-loop-back l = record {
  dates : l.seconds.items ≡ list_of l.back (second_before_term l.product (payment_plan l.product) (2 ^ l.scale));
  next : l.second ≡ second_before_term l.product (payment_plan l.product) (2 ^ l.scale) l.back;
}
