use Rattle.std.proofs.Common.{map, ◌∙◌, rules, tests}
use Rattle.std.proofs.lemmas.Iterator.{YieldsList-from_slice}
use Rattle.std.proofs.lemmas.Iterator.Search.{any_from_yields_List}
use Rattle.toml.specs.declared.value.Value.{Value}
use Rattle.toml.specs.View.{view, table_view}
use Rattle.product_file.specs.TransitionRule.{pair_of, is_same_pair}
use Rattle.file_tree.proofs.TreeViews.{list_any-map}
use Rattle.file_tree.proofs.parts.has_pair.Goals as goal

pub returns : goal.returns
returns c =
    let tree = table_view c.args.tree.now in
    any_from_yields_List (λ (v : Value). is_same_pair c.args.pair (pair_of tree (view v))) _ _ c.any.result
    c.any.ensures.ran
    (YieldsList-from_slice c.args.values.now cc) (λ x b q k. search (rules, tests))
    ∙ list_any-map (λ d. is_same_pair c.args.pair (pair_of tree d)) view c.args.values.now
    ∙ list_any-map (is_same_pair c.args.pair) (pair_of tree) (map view c.args.values.now)
