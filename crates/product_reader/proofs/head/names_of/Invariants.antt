use Rattle.std.proofs.Common.{◌≡◌, map, take}
use Rattle.std.specs.Prelude.{codes, unwrap_or, []}
use Rattle.toml.specs.Data.{as_str}
use Rattle.toml.specs.View.{table_view}
use Rattle.state_graph.specs.StateGraphs.{texts_of}
use Rattle.product_file.specs.Members.{items_of}
use Rattle.product_reader.proofs.head.names_of.Given as goal

abbrev pub invariant-loop-i : goal.invariant-loop-i
invariant-loop-i l =
    texts_of l.names.items ≡ map (λ d. unwrap_or (as_str d) [])
    (take l.i (items_of (codes "states") (table_view l.tree)))
