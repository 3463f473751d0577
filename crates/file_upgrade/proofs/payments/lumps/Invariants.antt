use Rattle.std.proofs.Common.{◌≡◌, map, take}
use Rattle.toml.specs.View.{view}
use Rattle.payment_plan.specs.Records.{lumps_of}
use Rattle.file_upgrade.specs.FileTree.{lump_data}
use Rattle.file_upgrade.proofs.payments.lumps.Given as goal

abbrev pub invariant-loop-i : goal.invariant-loop-i
invariant-loop-i l = map view l.items.items ≡ map (lump_data l.product) (take l.i (lumps_of l.lumps))
