use Rattle.std.proofs.Common.{◌∙◌, ◌==◌, rules, tests}
use Rattle.std.proofs.lemmas.Iterator.{YieldsList-from_slice}
use Rattle.std.proofs.lemmas.Iterator.Search.{any_from_yields_List}
use Rattle.toml.specs.declared.value.Value.{Value}
use Rattle.toml.specs.View.{view, table_view}
use Rattle.product_file.specs.TransitionRule.{state_index}
use Rattle.file_tree.proofs.TreeViews.{list_any-map}
use Rattle.file_tree.proofs.names.has_state.Goals as goal

pub returns : goal.returns
returns c =
    let tree = table_view c.args.tree.now in
    any_from_yields_List (λ (v : Value). state_index tree c.args.key.now (view v) == c.args.index) _ _ c.any.result
    c.any.ensures.ran
    (YieldsList-from_slice c.args.values.now cc) (λ x b q k. search (rules, tests))
    ∙ list_any-map (λ d. state_index tree c.args.key.now d == c.args.index) view c.args.values.now
