use Rattle.std.proofs.Common.{ap, sym, ◌∙◌}
use Rattle.std.specs.Prelude.{Some}
use Rattle.rule_breaks.specs.Breaks.{break_of}
use Rattle.rate_bounds.proofs.FirstBroken.{months_obey, broken_at_the_end, nothing_is_broken}
use Rattle.rate_bounds.proofs.admission.ledgers_by_rule_18.Goals as goal

pub bounds_of_months-requires-clause-rules : goal.bounds_of_months-requires-clause-rules
bounds_of_months-requires-clause-rules c = months_obey c.args.product.now (sym c.requires.rules)

pub bound1024-bound-requires-clause-rules : goal.bound1024-bound-requires-clause-rules
bound1024-bound-requires-clause-rules c = months_obey c.args.product.now (sym c.requires.rules)

pub ledgers_of-requires-clause-rules : goal.ledgers_of-requires-clause-rules
ledgers_of-requires-clause-rules c = months_obey c.args.product.now (sym c.requires.rules)

pub returns-then-bound-gt-MOST_BOUND-clause-rule : goal.returns-then-bound-gt-MOST_BOUND-clause-rule
returns-then-bound-gt-MOST_BOUND-clause-rule c =
    λ broken same.
    broken_at_the_end c.args.product.now c.bound1024-bound.result (sym c.requires.rules) c.bound1024-bound.ensures.value
    c.if-bound-gt-MOST_BOUND.true
    ∙ ap (λ b. Some (break_of b)) cc

pub returns-clause-ok : goal.returns-clause-ok
returns-clause-ok c = record {
  admissible = record {
    well_formed = c.bound1024-bound.ensures.lawful;
    valuation = nothing_is_broken c.args.product.now c.bound1024-bound.result
        (sym c.requires.rules) c.bound1024-bound.ensures.value
        c.if-bound-gt-MOST_BOUND.false;
  };
  ledgers = c.in_ok-ledgers_of.ensures;
}
