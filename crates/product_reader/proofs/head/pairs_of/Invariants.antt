use Rattle.std.proofs.Common.{◌≡◌, map, take}
use Rattle.toml.specs.View.{table_view}
use Rattle.product_file.specs.TransitionRule.{pair_of, transition_items}
use Rattle.product_reader.proofs.head.pairs_of.Given as goal

abbrev pub invariant-loop-k : goal.invariant-loop-k
invariant-loop-k l =
    l.pairs.items ≡ map (pair_of (table_view l.tree)) (take l.k (transition_items (table_view l.tree)))
