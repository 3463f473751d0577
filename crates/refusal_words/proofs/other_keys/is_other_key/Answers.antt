use Rattle.std.proofs.Common.{◌∙◌, map, not, ap, rules, tests}
use Rattle.std.specs.Prelude.{bytes_eq}
use Rattle.std.proofs.lemmas.Iterator.{YieldsList-from_slice}
use Rattle.std.proofs.lemmas.Iterator.Search.{any_from_yields_List}
use Rattle.product_file.specs.Keys as file
use Rattle.product_file.specs.Members.{is_among}
use Rattle.file_tree.specs.KeyTables.{key_of}
use Rattle.file_tree.specs.declared.keys.Key.{Key}
use Rattle.file_tree.proofs.TreeViews.{list_any-map}
use Rattle.refusal_words.proofs.other_keys.is_other_key.Goals as goal

pub returns : goal.returns
returns c =
    ap not
    (any_from_yields_List (λ (key : Key). bytes_eq c.args.name.now key.name.now) _ _ c.any.result c.any.ensures.ran
    (YieldsList-from_slice c.top_keys.result cc) (λ x b q k. search (rules, tests))
    ∙ list_any-map (λ (key : file.Key). bytes_eq c.args.name.now key.name) key_of c.top_keys.result
    ∙ list_any-map (bytes_eq c.args.name.now) (λ (key : file.Key). key.name) (map key_of c.top_keys.result)
    ∙ ap (λ keys. is_among (file.names_of keys) c.args.name.now) c.top_keys.ensures)
