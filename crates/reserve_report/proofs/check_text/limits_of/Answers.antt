use Rattle.std.proofs.Common.{ap, ◌∙◌}
use Rattle.model_specs.specs.Ledgers.{radius_forward}
use Rattle.reserve_report.proofs.SmallRadii.{below_39, below_41}
use Rattle.reserve_report.proofs.check_text.limits_of.Goals as goal

pub returns : goal.returns
returns c = record {
  scale_is = c.scale.ensures.value;
  bound_is = c.bound1024.ensures.value;
  radius_is = c.radius.ensures.value;
  forward_is = c.radius_forward.ensures.value
      ∙ ap (λ m. radius_forward c.args.admitted.now m)
      (c.months.ensures.value ∙ ap (λ p. p.months) c.product.ensures.product);
  second_is = c.radius_second.ensures.value;
  pattern_is = c.scale-2.ensures.value;
  most_scale = c.scale.ensures.most;
  most_pattern = c.scale-2.ensures.most;
  most_radius = below_39 c.radius.result c.radius.ensures.most;
  most_forward = below_39 c.radius_forward.result c.radius_forward.ensures.most;
  most_second = below_41 c.radius_second.result c.radius_second.ensures.most;
}
