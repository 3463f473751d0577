use Rattle.std.proofs.Common.{rules}
use Rattle.rate_bounds.proofs.tests.exchange.Goals as goal

pub new-requires-5 : goal.new-requires-5
new-requires-5 c = record {
  name = search rules;
  states = search rules;
  some_denominator = search rules;
  largest_denominator = search rules;
  start = search rules;
  interest = search rules;
  rates = search rules;
  payments = search rules;
  state_count = search rules;
  rate_count = search rules;
  sum_count = search rules;
}
