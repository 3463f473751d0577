-- The steps of a table of reserves.
use Rattle.std.specs.Prelude.{ℕ}
use Rattle.model_specs.specs.Product.{Product}
use Rattle.model_specs.specs.Payments.{payment_plan}
use Rattle.model_specs.specs.Stretches.{cost}

-- the cost of a product's payments
abbrev pub reserves_cost : Product → ℕ
reserves_cost product = cost product (payment_plan product)
