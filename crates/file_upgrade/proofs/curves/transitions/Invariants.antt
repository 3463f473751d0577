use Rattle.std.proofs.Common.{◌≡◌, map, take}
use Rattle.toml.specs.View.{view}
use Rattle.file_upgrade.specs.FileTree.{transition_data}
use Rattle.file_upgrade.proofs.curves.transitions.Given as goal

abbrev pub invariant-loop-k : goal.invariant-loop-k
invariant-loop-k l = map view l.items.items ≡ map (transition_data l.product) (take l.k l.product.transitions)
