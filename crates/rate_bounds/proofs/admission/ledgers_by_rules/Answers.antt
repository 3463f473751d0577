use Rattle.std.proofs.Common.{ap, ◌∙◌}
use Rattle.std.specs.Prelude.{Some}
use Rattle.rule_breaks.specs.Breaks.{break_of}
use Rattle.rate_bounds.proofs.FirstBroken.{broken_in_a_month}
use Rattle.rate_bounds.proofs.admission.ledgers_by_rules.Goals as goal

pub returns-in-Some-clause-rule : goal.returns-in-Some-clause-rule
returns-in-Some-clause-rule c =
    λ broken same.
    broken_in_a_month c.args.product.now (break_of c.in-Some.broken) c.in-Some.ensures ∙ ap (λ b. Some (break_of b)) cc
