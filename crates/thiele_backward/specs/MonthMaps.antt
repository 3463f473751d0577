-- The maps of a sweep's constant months.
use Rattle.std.specs.Prelude.{ℕ}
use Rattle.model_specs.specs.Product.{Product}
use Rattle.model_specs.specs.Payments.{Plan}
use Rattle.linear_system.specs.StandsFor.{StandsFor}
use Rattle.linear_system.specs.StoredSystem.{StoredSystem}
use Rattle.month_maps.specs.MadeMaps.{IsMadeFor}
use Rattle.month_maps.specs.StoredMap.{StoredMap}
use Rattle.constant_months.specs.MonthSystems.{month_system}

-- a map that was made of a stored system that stands for the month's
pub record IsMapOf (product : Product) (plan : Plan) (month : ℕ) (m : StoredMap) : Type 0 where
  pub system : StoredSystem
  pub made : IsMadeFor system m
  pub stands : StandsFor system (month_system product plan month)
