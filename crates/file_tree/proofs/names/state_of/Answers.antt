use Rattle.std.proofs.Common.{rules, tests, ◌∙◌, map, ap}
use Rattle.std.specs.Prelude.{bytes_eq, position}
use Rattle.std.proofs.lemmas.Iterator.{YieldsList-from_slice}
use Rattle.std.proofs.lemmas.Iterator.Search.{position_from_yields_List}
use Rattle.toml.specs.declared.value.Value.{Value}
use Rattle.toml.specs.View.{view}
use Rattle.file_tree.specs.Texts.{text_in}
use Rattle.file_tree.proofs.TreeViews.{position-map}
use Rattle.file_tree.proofs.names.state_of.Goals as goal

pub returns : goal.returns
returns c =
    position_from_yields_List (λ (v : Value). bytes_eq c.args.name.now (text_in (view v))) _ _ c.position.result
    c.position.ensures.ran
    (YieldsList-from_slice c.states.result.now cc) (λ x b q k. search (rules, tests))
    ∙ position-map (λ d. bytes_eq c.args.name.now (text_in d)) view c.states.result.now
    ∙ position-map (bytes_eq c.args.name.now) text_in (map view c.states.result.now)
    ∙ ap (λ ds. position (bytes_eq c.args.name.now) (map text_in ds)) c.states.ensures.items
