-- What holds of the tree of each seed.
use Rattle.std.specs.Prelude.{◌≡◌, ℕ, ◌^◌, ◌<◌, None, Ok}
use Rattle.model_specs.specs.Product.{Product}
use Rattle.model_specs.specs.ValuationRules.{first_broken}
use Rattle.product_file.specs.Reads.{product_of, reads}
use Rattle.workload_gen.specs.Tree.{generated}

-- the product of a seed
abbrev pub generated_product : (seed : ℕ) → Product
generated_product seed = product_of (generated seed)

-- the tree breaks none of rules 1 to 14, and the product that it gives none of rules 15 to 18
pub record GivesProduct (seed : ℕ) : Type 0 where
  pub gives : reads (generated seed) ≡ Ok (generated_product seed)
  pub valued : first_broken (generated_product seed) ≡ None

-- so it is for every seed
abbrev pub GeneratedTreesAreValid : Type 0
GeneratedTreesAreValid = (seed : ℕ) → seed < 2 ^ 64 → GivesProduct seed
