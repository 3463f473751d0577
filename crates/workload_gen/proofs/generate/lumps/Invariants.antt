use Rattle.std.proofs.Common.{◌≡◌, map}
use Rattle.toml.specs.View.{view}
use Rattle.whole_laws.specs.Whole.{list_of}
use Rattle.workload_gen.specs.Tree.{lump}
use Rattle.workload_gen.proofs.generate.lumps.Given as goal

abbrev pub invariant-loop-month : goal.invariant-loop-month
invariant-loop-month l = map view l.items.items ≡ list_of l.month (lump l.amount)
