use Rattle.std.proofs.Common.{◌≡◌, map, take}
use Rattle.toml.specs.View.{table_view}
use Rattle.product_file.specs.TransitionRule.{transition_items}
use Rattle.product_reader.specs.Parts.{rate_of}
use Rattle.product_reader.proofs.curves.rates_from.Given as goal

abbrev pub invariant-loop-k : goal.invariant-loop-k
invariant-loop-k l =
    l.rates.items ≡ map (rate_of (table_view l.tree)) (take l.k (transition_items (table_view l.tree)))
