-- The ledgers and costs of products over a century, computed.
use Rattle.std.specs.Prelude.{◌≡◌, refl}
use Rattle.std.proofs.Common.{ap, ◌∙◌, lit<, lit≤}
use Rattle.frac_laws.specs.Ledger.{scale_of_bound}
use Rattle.model_specs.specs.Payments.{payment_plan}
use Rattle.model_specs.specs.Ledgers.{bound1024, scale}
use Rattle.model_laws.specs.Examples.{century_lump, largest_annuity}
use Rattle.model_laws.specs.LedgerInstances.{CenturyScales, Costs}
use Rattle.model_laws.proofs.Scales.{scale_between}

annuity_bound : bound1024 largest_annuity (payment_plan largest_annuity) ≡ 204800000000025600
annuity_bound = refl

century_scale : scale century_lump (payment_plan century_lump) ≡ 16
century_scale = scale_between (bound1024 century_lump (payment_plan century_lump)) 15 (lit< tt) (lit≤ tt)

pub century_scales : CenturyScales
century_scales = (
  century_scale,
  annuity_bound,
  ap scale_of_bound annuity_bound ∙ scale_between 204800000000025600 47 (lit< tt) (lit≤ tt),
)

pub costs : Costs
costs = (refl, refl)
