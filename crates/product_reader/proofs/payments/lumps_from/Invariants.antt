use Rattle.std.proofs.Common.{◌≡◌, map, take}
use Rattle.toml.specs.View.{table_view}
use Rattle.payment_plan.specs.Records.{lumps_of}
use Rattle.product_file.specs.LumpRule.{lump_of, lump_items}
use Rattle.product_reader.proofs.payments.lumps_from.Given as goal

abbrev pub invariant-loop-k : goal.invariant-loop-k
invariant-loop-k l =
    lumps_of l.lumps.items ≡ map (lump_of (table_view l.tree)) (take l.k (lump_items (table_view l.tree)))
