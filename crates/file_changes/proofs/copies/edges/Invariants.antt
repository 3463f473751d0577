use Rattle.std.proofs.Common.{◌≡◌, take}
use Rattle.file_changes.proofs.copies.edges.Given as goal

abbrev pub invariant-loop-transition : goal.invariant-loop-transition
invariant-loop-transition l = l.edges.items ≡ take l.transition l.graph.edges
