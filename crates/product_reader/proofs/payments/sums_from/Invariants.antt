use Rattle.std.proofs.Common.{◌≡◌, map, take}
use Rattle.toml.specs.View.{table_view}
use Rattle.payment_plan.specs.Records.{sums_of}
use Rattle.product_file.specs.TransitionRule.{transition_items}
use Rattle.product_reader.specs.Parts.{sum_of}
use Rattle.product_reader.proofs.payments.sums_from.Given as goal

abbrev pub invariant-loop-k : goal.invariant-loop-k
invariant-loop-k l =
    sums_of l.sums.items ≡ map (sum_of (table_view l.tree)) (take l.k (transition_items (table_view l.tree)))
