-- What holds of every charged product.
use Rattle.std.specs.Prelude.{ℕ, ℤ}
use Rattle.model_specs.specs.Product.{Product}
use Rattle.model_specs.specs.RecordRules.{IsWellFormed}
use Rattle.file_changes.specs.Asks.{ChargeAsks}
use Rattle.file_changes.specs.Charges.{charged}

-- it obeys rules 3 to 14, where all parts of the charge hold
abbrev pub ChargedProductsAreWellFormed : Type 0
ChargedProductsAreWellFormed = (product : Product) → IsWellFormed product → (amount : ℤ)
    → ((part : ℕ) → ChargeAsks amount product part) → IsWellFormed (charged amount product)
