use Rattle.std.proofs.Common.{codes, sym, ◌∙◌}
use Rattle.std.proofs.lemmas.List.{length-map}
use Rattle.product_file.specs.Members.{items_of}
use Rattle.toml.specs.View.{table_view}
use Rattle.file_tree.specs.Texts.{text_in}
use Rattle.file_tree.proofs.names.states.Goals as goal

pub returns-clause-count : goal.returns-clause-count
returns-clause-count c = c.items_of.ensures.count
    ∙ sym (length-map (items_of (codes "states") (table_view c.args.tree.now)) text_in)
