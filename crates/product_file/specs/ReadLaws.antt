-- What holds of every file that reads as a product.
use Rattle.std.specs.Prelude.{◌≡◌, Ok}
use Rattle.toml.specs.Data.{Members}
use Rattle.model_specs.specs.Product.{Product}
use Rattle.model_specs.specs.RecordRules.{IsWellFormed}
use Rattle.product_file.specs.Reads.{reads}

-- a product that a tree reads as obeys rules 3 to 14 as they are said of the record
abbrev pub ReadProductsAreWellFormed : Type 0
ReadProductsAreWellFormed = (tree : Members) (product : Product) → reads tree ≡ Ok product → IsWellFormed product
