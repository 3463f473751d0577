use Rattle.std.proofs.Common.{◌≡◌, sym, subst}
use Rattle.std.specs.Prelude.{IfOk}
use Rattle.toml.specs.View.{table_view}
use Rattle.state_graph.specs.StateGraphs.{IsGraph}
use Rattle.product_file.specs.Reads.{product_of}
use Rattle.product_reader.proofs.Wholes.{graph_is_good, graph_by_pairs}
use Rattle.product_reader.proofs.head.graph_from.Goals as goal

pub new-requires : goal.new-requires
new-requires c =
    let p = product_of (table_view c.args.tree.now) in
    subst IsGraph (sym (graph_by_pairs (table_view c.args.tree.now) _ _ c.in_ok-names_of.ensures
    c.in_ok-pairs_of.ensures))
    (graph_is_good p c.requires)

pub returns : goal.returns
returns c =
    subst (λ g. IfOk c.new.result (λ graph. graph ≡ g))
    (graph_by_pairs (table_view c.args.tree.now) _ _ c.in_ok-names_of.ensures c.in_ok-pairs_of.ensures) c.new.ensures
