-- What the tree of each product reads as.
use Rattle.std.specs.Prelude.{◌≡◌, Ok}
use Rattle.model_specs.specs.Product.{Product}
use Rattle.model_specs.specs.RecordRules.{IsWellFormed}
use Rattle.product_file.specs.Reads.{reads}
use Rattle.file_upgrade.specs.FileTree.{file_tree}

-- the tree of a product that obeys rules 3 to 14 breaks none of rules 1 to 14, and gives that product
abbrev pub FileTreesRead : Type 0
FileTreesRead = (product : Product) → IsWellFormed product → reads (file_tree product) ≡ Ok product
