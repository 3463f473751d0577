use Rattle.std.proofs.Common.{sym, ◌∙◌, arith, rules}
use Rattle.moment_equations.proofs.tests.life.Goals as goal

pub new-requires : goal.new-requires
new-requires c = record {
  name = c.in_ok-name.ensures;
  states = c.in_ok-graph.ensures.names;
  some_denominator = search rules;
  largest_denominator = search rules;
  start = omega (arith, c.in_ok-graph.ensures.states);
  interest = c.in_ok-interest.ensures;
  rates = c.in_ok-rates.ensures.months;
  payments = c.in_ok-plan.ensures.months;
  state_count = c.in_ok-plan.ensures.states ∙ sym c.in_ok-graph.ensures.states;
  rate_count = c.in_ok-rates.ensures.count ∙ sym c.in_ok-graph.ensures.transitions;
  sum_count = c.in_ok-plan.ensures.sums ∙ sym c.in_ok-graph.ensures.transitions;
}
