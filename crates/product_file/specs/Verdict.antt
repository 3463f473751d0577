-- The verdict on the bytes of a product file: no TOML, the first broken of rules 1 to 18, or the product.
use Rattle.std.specs.Prelude.{◌≡◌, ◌⊎◌, ℕ, List, Some, None, Ok, Err, IsUtf8}
use Rattle.toml.specs.Data.{Members}
use Rattle.toml.specs.Parse.{parse_document}
use Rattle.model_specs.specs.Product.{Product}
use Rattle.model_specs.specs.ValuationRules.{RuleBreak, first_broken}
use Rattle.product_file.specs.Reads.{reads}

-- the bytes are a TOML document with this tree
pub record ReadsAs (bytes : List ℕ) (tree : Members) : Type 0 where
  pub text : IsUtf8 bytes
  pub document : parse_document bytes ≡ Some tree

-- the bytes are no TOML document: where they are text at all, it has no tree
abbrev pub IsNotToml : List ℕ → Type 0
IsNotToml bytes = IsUtf8 bytes → parse_document bytes ≡ None

-- the bytes have a tree, and it gives this product: none of rules 1 to 14 is broken
pub record ReadsProduct (bytes : List ℕ) (product : Product) : Type 0 where
  pub tree : Members
  pub reads_as : ReadsAs bytes tree
  pub gives : reads tree ≡ Ok product

-- the bytes have a tree, and this is the first of rules 1 to 14 that it breaks, at its least place
pub record BreaksInTree (bytes : List ℕ) (rule_break : RuleBreak) : Type 0 where
  pub tree : Members
  pub reads_as : ReadsAs bytes tree
  pub broken : reads tree ≡ Err rule_break

-- the verdict is a product: no rule is broken
pub record IsValid (bytes : List ℕ) (product : Product) : Type 0 where
  pub reads : ReadsProduct bytes product
  pub valued : first_broken product ≡ None

-- the verdict is this broken rule: the first of rules 1 to 14, or, where none of them is broken, of 15 to 18
abbrev pub Breaks : List ℕ → RuleBreak → Type 0
Breaks bytes rule_break = BreaksInTree bytes rule_break
    ⊎ ((product : Product) × ReadsProduct bytes product × (first_broken product ≡ Some rule_break))
