use Rattle.std.proofs.Common.{◌≡◌, map, take}
use Rattle.toml.specs.View.{table_view}
use Rattle.product_file.specs.PatternRules.{payer_index, payer_items}
use Rattle.product_reader.proofs.payments.payers_from.Given as goal

abbrev pub invariant-loop-i : goal.invariant-loop-i
invariant-loop-i l =
    l.states.items ≡ map (payer_index (table_view l.tree)) (take l.i (payer_items (table_view l.tree)))
