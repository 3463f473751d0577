use Rattle.std.proofs.Common.{◌≡◌, ◌≤◌, ◌*◌, ◌^◌}
use Rattle.whole_laws.specs.Whole.{list_of, greatest_natural}
use Rattle.model_specs.specs.Payments.{payment_plan}
use Rattle.rate_bounds.specs.LedgerSteps.{sum_size_of}
use Rattle.rate_bounds.proofs.sums.greatest_sum_size.Given as goal

-- the greatest size of the sums so far
abbrev pub invariant-loop-transition : goal.invariant-loop-transition
invariant-loop-transition l = record {
  greatest : l.most ≡ greatest_natural (list_of l.transition (sum_size_of l.product (payment_plan l.product)));
  small : l.most ≤ 9 * 10 ^ 12;
}
