-- The moduli of the annuity, computed.
use Rattle.std.specs.Prelude.{◌^◌, refl}
use Rattle.std.proofs.Common.{ap, ◌∙◌}
use mathlib.Core.Quot.{sound}
use Rattle.model_specs.specs.Payments.{payment_plan}
use Rattle.model_specs.specs.Ledgers.{second_before_term}
use Rattle.model_laws.specs.Examples.{flat_annuity}
use Rattle.model_laws.proofs.LedgerInstances.{flat_ledgers}
use Rattle.limit_laws.specs.Modulus.{modulus_of}
use Rattle.limit_laws.specs.YearOfModuli.{ReserveModuli, SecondMomentModuli, ProbabilityModuli}

pub reserve_moduli : ReserveModuli
reserve_moduli = (
  ap (λ g. modulus_of (2 ^ g) 393216) flat_ledgers.scale_is ∙ sound refl,
  ap (λ g. modulus_of (2 ^ g) 32768) flat_ledgers.scale_is ∙ sound refl,
)

pub second_moment_moduli : SecondMomentModuli
second_moment_moduli = (
  ap (λ g. modulus_of (4 ^ g) (second_before_term flat_annuity (payment_plan flat_annuity) (2 ^ g) 12))
      flat_ledgers.scale_is ∙ sound refl,
  ap (λ g. modulus_of (4 ^ g) (second_before_term flat_annuity (payment_plan flat_annuity) (2 ^ g) 1))
      flat_ledgers.scale_is ∙ sound refl,
)

pub probability_moduli : ProbabilityModuli
probability_moduli = (sound refl, sound refl)
