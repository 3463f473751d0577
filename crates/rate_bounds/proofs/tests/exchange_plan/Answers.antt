use Rattle.std.proofs.Common.{List, [], ◌∷◌, ap, ◌∙◌, arith}
use mathlib.Core.Path.{ap₂}
use Rattle.model_specs.specs.Product.{Step, Sojourn}
use Rattle.payment_plan.specs.Records.{sums_of, sojourns_of, lumps_of, pattern_rule_of}
use Rattle.rate_bounds.proofs.ConstantPayments.{exchange_parts_are_allowed}
use Rattle.rate_bounds.proofs.tests.exchange_plan.Goals as goal

pub new-requires : goal.new-requires
new-requires c =
    let both : List Step → List Step → List (List Step) = λ x y. x ∷ y ∷ [] in
    let rates : List Step → List Step → List Sojourn = λ x y.
    record { state = 0; steps = x } ∷ record { state = 1; steps = y } ∷ [] in
    exchange_parts_are_allowed 1200 c.args.amount (sums_of c.in_ok-sums.sums.items)
    (sojourns_of c.in_ok-sojourns.sojourns.items) (lumps_of c.new-lumps.result.items)
    (pattern_rule_of c.no_pattern-pattern.result)
    (ap sums_of c.in_ok-sums.ensures.items ∙ ap₂ both c.in_ok-there.ensures c.in_ok-back.ensures)
    (ap sojourns_of c.in_ok-sojourns.ensures.items ∙ ap₂ rates c.in_ok-first.ensures c.in_ok-second.ensures)
    (ap lumps_of c.new-lumps.ensures.items) c.no_pattern-pattern.ensures (omega arith) (omega arith) c.requires
