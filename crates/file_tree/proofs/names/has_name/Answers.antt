use Rattle.std.proofs.Common.{rules, tests, ◌∙◌, map}
use Rattle.std.specs.Prelude.{bytes_eq}
use Rattle.std.proofs.lemmas.Iterator.{YieldsList-from_slice}
use Rattle.std.proofs.lemmas.Iterator.Search.{any_from_yields_List}
use Rattle.toml.specs.declared.value.Value.{Value}
use Rattle.toml.specs.View.{view}
use Rattle.file_tree.specs.Texts.{text_in}
use Rattle.file_tree.proofs.TreeViews.{list_any-map}
use Rattle.file_tree.proofs.names.has_name.Goals as goal

pub returns : goal.returns
returns c =
    any_from_yields_List (λ (v : Value). bytes_eq c.args.name.now (text_in (view v))) _ _ c.any.result c.any.ensures.ran
    (YieldsList-from_slice c.args.values.now cc) (λ x b q k. search (rules, tests))
    ∙ list_any-map (λ d. bytes_eq c.args.name.now (text_in d)) view c.args.values.now
    ∙ list_any-map (bytes_eq c.args.name.now) text_in (map view c.args.values.now)
