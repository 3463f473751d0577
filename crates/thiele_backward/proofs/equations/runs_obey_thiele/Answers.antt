use Rattle.limit_laws.specs.Modulus.{ReservesConverge}
use Rattle.limit_laws.specs.Defect.{NearlySolvesThiele}
use Rattle.model_specs.specs.Product.{Product}
use Rattle.model_specs.specs.Payments.{Plan, payment_plan, pattern_plan}
use Rattle.payment_plan.specs.declared.pattern.Which.{Which}
use Rattle.payment_plan.specs.declared.pattern.Which.TheVariants.{Benefits, Pattern}
use Rattle.rate_bounds.specs.MonthPay.{plan_named}
use Rattle.thiele_backward.proofs.equations.runs_obey_thiele.Goals as goal

-- what holds of both plans holds of the named one
of_named : (Says : Plan → Type 0) (which : Which) (product : Product) → Says (payment_plan product)
    → Says (pattern_plan product) → Says (plan_named which product)
of_named Says Benefits product payments pattern = payments
of_named Says Pattern product payments pattern = pattern

pub returns-clause-modulus : goal.returns-clause-modulus
returns-clause-modulus c =
    let product = c.args.adm.now in
    let law = c.reserves_converge.ensures in
    let admissible = c.product-product.ensures.admissible in
    of_named (ReservesConverge product) c.args.which product (law.payments product admissible)
    (law.pattern product admissible)

pub returns-clause-defect : goal.returns-clause-defect
returns-clause-defect c =
    let product = c.args.adm.now in
    let law = c.defects_are_small.ensures in
    let admissible = c.product-product.ensures.admissible in
    of_named (NearlySolvesThiele product) c.args.which product (law.payments product admissible)
    (law.pattern product admissible)
