use Rattle.toml.specs.View.{table_view}
use Rattle.product_reader.proofs.ReadAnswers.{ok_of_tree, not_toml_of_tree, rule_of_tree}
use Rattle.product_reader.proofs.read.read_product.Goals as goal

pub returns-in-Ok-clause-ok : goal.returns-in-Ok-clause-ok
returns-in-Ok-clause-ok c =
    ok_of_tree c.args.text.now (table_view c.in-Ok.tree) c.read_tree.result
    (record { text = c.in-Ok.ensures.ok.0; document = c.in-Ok.ensures.ok.1 }) c.read_tree.ensures

pub returns-in-Ok-clause-not_toml : goal.returns-in-Ok-clause-not_toml
returns-in-Ok-clause-not_toml c =
    not_toml_of_tree c.args.text.now (table_view c.in-Ok.tree) c.read_tree.result
    (record { text = c.in-Ok.ensures.ok.0; document = c.in-Ok.ensures.ok.1 }) c.read_tree.ensures

pub returns-in-Ok-clause-rule : goal.returns-in-Ok-clause-rule
returns-in-Ok-clause-rule c found =
    rule_of_tree c.args.text.now (table_view c.in-Ok.tree) c.read_tree.result found
    (record { text = c.in-Ok.ensures.ok.0; document = c.in-Ok.ensures.ok.1 }) c.read_tree.ensures
