use Rattle.product_instances.proofs.RuleLimits.{two_exits, two_entries, least_interest, touching_rate, first_rule_first}
use Rattle.product_instances.proofs.rule_limits.rules_break_in_order.Goals as goal

pub returns-clause-exits : goal.returns-clause-exits
returns-clause-exits c = two_exits

pub returns-clause-entries : goal.returns-clause-entries
returns-clause-entries c = two_entries

pub returns-clause-interest : goal.returns-clause-interest
returns-clause-interest c = least_interest

pub returns-clause-touching : goal.returns-clause-touching
returns-clause-touching c = touching_rate

pub returns-clause-order : goal.returns-clause-order
returns-clause-order c = first_rule_first
