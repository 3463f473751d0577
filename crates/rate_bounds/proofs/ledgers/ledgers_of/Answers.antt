use Rattle.std.proofs.Common.{◌≡◌, ◌^◌, suc, ap, ◌∙◌}
use Rattle.frac_laws.specs.Ledger.{scale_of_bound}
use Rattle.whole_laws.specs.Whole.{list_of}
use Rattle.model_specs.specs.Payments.{payment_plan}
use Rattle.model_specs.specs.Ledgers.{scale, second_before_term}
use Rattle.rate_bounds.proofs.ledgers.ledgers_of.Goals as goal

pub returns : goal.returns
returns c =
    let scale_is : c.plan_scale.result ≡ scale c.args.product.now (payment_plan c.args.product.now) =
    c.plan_scale.ensures.value ∙ ap scale_of_bound c.requires.bound in
    record {
      months = c.requires.table;
      benefits_bound = c.requires.bound;
      benefits_scale = scale_is;
      pattern_bound = c.pattern_bound-pattern.ensures.bound;
      pattern_scale = c.pattern_bound-pattern.ensures.scale;
      backward = c.in_ok-radii.ensures;
      second = c.in_ok-seconds.ensures
          ∙ ap (λ g. list_of (suc c.args.product.now.months)
          (second_before_term c.args.product.now (payment_plan c.args.product.now) (2 ^ g))) scale_is;
      forward = c.in_ok-forwards.ensures;
    }
