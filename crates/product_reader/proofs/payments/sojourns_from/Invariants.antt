use Rattle.std.proofs.Common.{◌≡◌, map, take}
use Rattle.toml.specs.View.{table_view}
use Rattle.payment_plan.specs.Records.{sojourns_of}
use Rattle.product_file.specs.PaymentRules.{sojourn_items}
use Rattle.product_file.specs.Reads.{sojourn_of}
use Rattle.product_reader.proofs.payments.sojourns_from.Given as goal

abbrev pub invariant-loop-s : goal.invariant-loop-s
invariant-loop-s l =
    sojourns_of l.sojourns.items ≡ map (sojourn_of (table_view l.tree)) (take l.s (sojourn_items (table_view l.tree)))
