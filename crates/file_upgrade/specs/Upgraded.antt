-- Texts of format 2.
use Rattle.std.specs.Prelude.{◌≡◌, ℕ, List, Some, pos, codes}
use Rattle.toml.specs.Data.{Members}
use Rattle.product_file.specs.Members.{whole_at}
use Rattle.product_file.specs.Verdict.{ReadsAs}

-- the bytes have a tree, and its format is 2
pub record IsOfFormat2 (bytes : List ℕ) : Type 0 where
  pub tree : Members
  pub reads_as : ReadsAs bytes tree
  pub format : whole_at (codes "format") tree ≡ Some (pos 2)
