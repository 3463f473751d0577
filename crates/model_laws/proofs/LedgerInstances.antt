-- The ledgers of the small products, computed.
use Rattle.std.specs.Prelude.{◌≡◌, ◌^◌, refl}
use Rattle.std.proofs.Common.{ap, ◌∙◌, lit<, lit≤}
use Rattle.frac_laws.specs.Ledger.{scale_of_bound}
use Rattle.model_specs.specs.Payments.{payment_plan}
use Rattle.model_specs.specs.Ledgers.{bound1024, scale, second_before_term}
use Rattle.model_laws.specs.Examples.{flat_annuity, discounted_lump}
use Rattle.model_laws.specs.LedgerInstances.{FlatLedgers, FlatPay, DiscountedLedgers, DiscountedGrowth}
use Rattle.model_laws.specs.LedgerInstances.{FallingNumerators, GrowingLoads, FallingRates}
use Rattle.model_laws.proofs.Scales.{scale_between}

flat_bound : bound1024 flat_annuity (payment_plan flat_annuity) ≡ 786432
flat_bound = refl

flat_scale : scale flat_annuity (payment_plan flat_annuity) ≡ 10
flat_scale = ap scale_of_bound flat_bound ∙ scale_between 786432 9 (lit< tt) (lit≤ tt)

pub flat_ledgers : FlatLedgers
flat_ledgers = record {
  bound_is = flat_bound;
  scale_is = flat_scale;
  radius_is = refl;
  second_radius_is = ap (λ g. second_before_term flat_annuity (payment_plan flat_annuity) (2 ^ g) 12) flat_scale;
}

pub flat_pay : FlatPay
flat_pay = refl

discounted_bound : bound1024 discounted_lump (payment_plan discounted_lump) ≡ 10240384
discounted_bound = refl

discounted_scale : scale discounted_lump (payment_plan discounted_lump) ≡ 14
discounted_scale = ap scale_of_bound discounted_bound ∙ scale_between 10240384 13 (lit< tt) (lit≤ tt)

pub discounted_ledgers : DiscountedLedgers
discounted_ledgers = record {
  bound_is = discounted_bound;
  scale_is = discounted_scale;
  radius_is = refl;
  second_radius_is =
      ap (λ g. second_before_term discounted_lump (payment_plan discounted_lump) (2 ^ g) 12) discounted_scale;
}

pub discounted_growth : DiscountedGrowth
discounted_growth = (refl, refl)

pub falling_numerators : FallingNumerators
falling_numerators = refl

pub growing_loads : GrowingLoads
growing_loads = (refl, refl)

pub falling_rates : FallingRates
falling_rates = (refl, refl)
