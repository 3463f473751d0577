-- The tree of a product reads as the product.
use Rattle.std.proofs.Common.{◌≡◌, ℕ, List, [], ◌∷◌, refl, ap, ◌∙◌}
use Rattle.std.specs.Prelude.{None, Option, Ok}
use Rattle.toml.specs.Data.{Members}
use Rattle.model_specs.specs.Product.{Product}
use Rattle.model_specs.specs.ValuationRules.{RuleBreak, first_given}
use Rattle.model_specs.specs.RecordRules.{IsWellFormed}
use Rattle.product_file.specs.Reads.{broken_in_tree, broken_at, product_unless, product_of}
use Rattle.file_upgrade.specs.FileTree.{file_tree}
use Rattle.file_upgrade.specs.Laws.{FileTreesRead}
use Rattle.file_upgrade.proofs.HeadRules.{format_passes, names_pass, term_passes, denominator_passes, start_passes}
use Rattle.file_upgrade.proofs.HeadRules.{transitions_pass}
use Rattle.file_upgrade.proofs.CurveRules.{curves_pass, bounds_pass}
use Rattle.file_upgrade.proofs.PaymentRules.{payments_pass, amounts_pass}
use Rattle.file_upgrade.proofs.PatternRules.{lumps_pass, premium_passes, pattern_passes}
use Rattle.file_upgrade.proofs.Trees.{IsTreeOf, is_tree_of}
use Rattle.file_upgrade.proofs.Values.{product_again}

-- a rule is not broken, nor is any of the later ones
not_broken : (rule : ℕ) (place : Option ℕ) (later : List (Option RuleBreak)) → place ≡ None
    → first_given later ≡ None → first_given (broken_at rule place ∷ later) ≡ None
not_broken rule place later none others = rw none others

-- no rule of the file is broken
unbroken : (p : Product) → IsWellFormed p → (tree : Members) → IsTreeOf p tree → broken_in_tree tree ≡ None
unbroken p formed tree t =
    not_broken 1 _ _ t.keys
    (not_broken 2 _ _ (format_passes p formed tree t)
    (not_broken 3 _ _ (names_pass p formed tree t)
    (not_broken 4 _ _ (term_passes p formed tree t)
    (not_broken 5 _ _ (denominator_passes p formed tree t)
    (not_broken 6 _ _ (start_passes p formed tree t)
    (not_broken 7 _ _ (transitions_pass p formed tree t)
    (not_broken 8 _ _ (curves_pass p formed tree t)
    (not_broken 9 _ _ (bounds_pass p formed tree t)
    (not_broken 10 _ _ (payments_pass p formed tree t)
    (not_broken 11 _ _ (amounts_pass p formed tree t)
    (not_broken 12 _ _ (lumps_pass p formed tree t)
    (not_broken 13 _ _ (premium_passes p formed tree t)
    (not_broken 14 _ [] (pattern_passes p formed tree t) refl)))))))))))))

pub file_trees_read : FileTreesRead
file_trees_read product formed =
    let tree = file_tree product in
    ap (product_unless (product_of tree)) (unbroken product formed tree (is_tree_of product))
    ∙ ap Ok (product_again product formed tree (is_tree_of product))
