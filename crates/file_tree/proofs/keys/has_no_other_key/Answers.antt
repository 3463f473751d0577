use Rattle.std.proofs.Common.{String, Global, string_bytes, ◌∙◌, rules, tests}
use Rattle.std.specs.BTreeMap.{keys}
use Rattle.std.proofs.lemmas.Iterator.Consumers.{YieldsList-from_rest}
use Rattle.std.proofs.lemmas.Iterator.Search.{all_from_yields_List}
use Rattle.product_file.specs.Members.{is_among}
use Rattle.product_file.specs.Keys.{names_of}
use Rattle.file_tree.specs.KeyTables.{keys_of}
use Rattle.file_tree.proofs.TreeViews.{list_all-keys}
use Rattle.file_tree.proofs.keys.has_no_other_key.Goals as goal

pub returns : goal.returns
returns c =
    let known = names_of (keys_of c.args.keys.now) in
    all_from_yields_List (λ (key : String Global). is_among known (string_bytes key)) _ _ c.all.result c.all.ensures.ran
    (YieldsList-from_rest (keys c.args.table.now) c.keys.ensures.rest) (λ x b q k. search (rules, tests))
    ∙ list_all-keys (is_among known) c.args.table.now.entries
