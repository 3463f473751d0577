use Rattle.std.proofs.Common.{List, [], ◌∷◌, ap, ◌∙◌, arith}
use Rattle.model_specs.specs.Product.{Step, Sojourn}
use Rattle.payment_plan.specs.Records.{sums_of, sojourns_of, lumps_of, pattern_rule_of}
use Rattle.rate_bounds.proofs.ConstantPayments.{flat_parts_are_allowed}
use Rattle.rate_bounds.proofs.tests.flat_plan.Goals as goal

pub new-requires : goal.new-requires
new-requires c =
    let rate : List Step → List Sojourn = λ x. record { state = 0; steps = x } ∷ [] in
    flat_parts_are_allowed 12 384 (sums_of c.new-sums.result.items)
    (sojourns_of c.in_ok-sojourns.sojourns.items) (lumps_of c.new-lumps.result.items)
    (pattern_rule_of c.no_pattern-pattern.result) (ap sums_of c.new-sums.ensures.items)
    (ap sojourns_of c.in_ok-sojourns.ensures.items ∙ ap rate c.in_ok-steps.ensures)
    (ap lumps_of c.new-lumps.ensures.items) c.no_pattern-pattern.ensures (omega arith) (omega arith) (omega arith)
