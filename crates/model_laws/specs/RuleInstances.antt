-- Products that meet the rules, so that the premises of the laws can be met.
use Rattle.model_specs.specs.ValuationRules.{IsAdmissible}
use Rattle.model_laws.specs.Examples.{discounted_lump}

-- a lump of 10000 after a year at a twentieth can be valued
abbrev pub LumpIsAdmissible : Type 0
LumpIsAdmissible = IsAdmissible discounted_lump
