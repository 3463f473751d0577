use Rattle.std.proofs.Common.{◌≡◌, map, take}
use Rattle.toml.specs.View.{view}
use Rattle.file_upgrade.specs.FileTree.{state_data}
use Rattle.file_upgrade.proofs.payments.payers.Given as goal

abbrev pub invariant-loop-i : goal.invariant-loop-i
invariant-loop-i l = map view l.items.items ≡ map (state_data l.product) (take l.i l.product.pattern.payers)
