use Rattle.std.proofs.Common.{◌∙◌, sym, rules, tests}
use Rattle.std.proofs.lemmas.Iterator.{YieldsList-from_slice}
use Rattle.std.proofs.lemmas.Iterator.Search.{all_from_yields_List}
use Rattle.std.proofs.lemmas.List.Folds.{list_all-map}
use Rattle.toml.specs.View.{table_view}
use Rattle.product_file.specs.Keys.{has_key}
use Rattle.file_tree.specs.KeyTables.{key_of}
use Rattle.file_tree.specs.declared.keys.Key.{Key}
use Rattle.file_tree.proofs.keys.has_each_key.Goals as goal

pub returns : goal.returns
returns c =
    let tree = table_view c.args.table.now in
    all_from_yields_List (λ (key : Key). has_key tree (key_of key)) _ _ c.all.result c.all.ensures.ran
    (YieldsList-from_slice c.args.keys.now cc) (λ x b q k. search (rules, tests))
    ∙ sym (list_all-map (has_key tree) key_of c.args.keys.now)
