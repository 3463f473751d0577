use Rattle.std.proofs.Common.{◌∙◌, is_some, rules, tests}
use Rattle.std.proofs.lemmas.Iterator.{YieldsList-from_slice}
use Rattle.std.proofs.lemmas.Iterator.Search.{all_from_yields_List}
use Rattle.std.proofs.lemmas.List.Folds.{list_all-map}
use Rattle.toml.specs.Data.{as_integer}
use Rattle.toml.specs.declared.value.Value.{Value}
use Rattle.toml.specs.View.{view}
use Rattle.std.proofs.Common.{sym}
use Rattle.file_tree.proofs.within.are_whole.Goals as goal

pub returns : goal.returns
returns c =
    all_from_yields_List (λ (v : Value). is_some (as_integer (view v))) _ _ c.all.result c.all.ensures.ran
    (YieldsList-from_slice c.args.values.now cc) (λ x b q k. search (rules, tests))
    ∙ sym (list_all-map (λ d. is_some (as_integer d)) view c.args.values.now)
