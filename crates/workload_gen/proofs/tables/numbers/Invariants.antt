use Rattle.std.proofs.Common.{◌≡◌, map, take}
use Rattle.toml.specs.View.{view}
use Rattle.workload_gen.specs.Tree.{whole}
use Rattle.workload_gen.proofs.tables.numbers.Given as goal

abbrev pub invariant-loop-number : goal.invariant-loop-number
invariant-loop-number l = map view l.items.items ≡ map whole (take l.number-index l.numbers)
