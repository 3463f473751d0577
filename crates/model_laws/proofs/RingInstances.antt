-- The scale of a ring of eight states over a century, computed by quarters of the term.
use Rattle.std.specs.Prelude.{◌≡◌, ◌+◌, pos, refl}
use Rattle.std.proofs.Common.{ap, ◌∙◌, lit<, lit≤}
use Rattle.frac_laws.specs.Ledger.{scale_of_bound}
use Rattle.model_specs.specs.Product.{Product}
use Rattle.model_specs.specs.Payments.{Plan, payment_plan}
use Rattle.model_specs.specs.Ledgers.{bound_before_term}
use Rattle.model_laws.specs.Examples.{ring_of_eight}
use Rattle.model_laws.specs.LedgerInstances.{RingScale}
use Rattle.model_laws.proofs.Scales.{scale_between}
use Rattle.model_laws.proofs.LongLedgers.{bound_after}

abbrev ring : Product
ring = ring_of_eight 1200 (pos 2000000)

abbrev ring_plan : Plan
ring_plan = payment_plan ring

first_quarter : bound_before_term ring ring_plan 300 ≡ 83791596
first_quarter = refl

second_quarter : bound_before_term ring ring_plan 600 ≡ 293101630
second_quarter = bound_after ring ring_plan 300 83791596 300 600 293101630 first_quarter refl refl

third_quarter : bound_before_term ring ring_plan 900 ≡ 815954556
third_quarter = bound_after ring ring_plan 600 293101630 300 900 815954556 second_quarter refl refl

last_quarter : bound_before_term ring ring_plan 1200 ≡ 2122032417
last_quarter = bound_after ring ring_plan 900 815954556 300 1200 2122032417 third_quarter refl refl

pub ring_scale : RingScale
ring_scale = ap (λ bound. scale_of_bound (bound + 0)) last_quarter ∙ scale_between 2122032417 20 (lit< tt) (lit≤ tt)
