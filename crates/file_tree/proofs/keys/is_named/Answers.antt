use Rattle.std.proofs.Common.{◌∙◌, map, rules, tests}
use Rattle.std.specs.Prelude.{bytes_eq}
use Rattle.std.proofs.lemmas.Iterator.{YieldsList-from_slice}
use Rattle.std.proofs.lemmas.Iterator.Search.{any_from_yields_List}
use Rattle.product_file.specs.Keys as file
use Rattle.file_tree.specs.KeyTables.{key_of}
use Rattle.file_tree.specs.declared.keys.Key.{Key}
use Rattle.file_tree.proofs.TreeViews.{list_any-map}
use Rattle.file_tree.proofs.keys.is_named.Goals as goal

pub returns : goal.returns
returns c =
    any_from_yields_List (λ (key : Key). bytes_eq c.args.name.now key.name.now) _ _ c.any.result c.any.ensures.ran
    (YieldsList-from_slice c.args.keys.now cc) (λ x b q k. search (rules, tests))
    ∙ list_any-map (λ (key : file.Key). bytes_eq c.args.name.now key.name) key_of c.args.keys.now
    ∙ list_any-map (bytes_eq c.args.name.now) (λ (key : file.Key). key.name) (map key_of c.args.keys.now)
