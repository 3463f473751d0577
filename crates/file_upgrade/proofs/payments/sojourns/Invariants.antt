use Rattle.std.proofs.Common.{◌≡◌, map, take}
use Rattle.toml.specs.View.{view}
use Rattle.payment_plan.specs.Records.{sojourns_of}
use Rattle.file_upgrade.specs.FileTree.{sojourn_data}
use Rattle.file_upgrade.proofs.payments.sojourns.Given as goal

abbrev pub invariant-loop-i : goal.invariant-loop-i
invariant-loop-i l = map view l.items.items ≡ map (sojourn_data l.product) (take l.i (sojourns_of l.sojourns))
