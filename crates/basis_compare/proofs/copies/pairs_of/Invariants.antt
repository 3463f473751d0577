use Rattle.std.proofs.Common.{◌≡◌, take}
use Rattle.basis_compare.proofs.copies.pairs_of.Given as goal

abbrev pub invariant-loop-transition : goal.invariant-loop-transition
invariant-loop-transition l = l.pairs.items ≡ take l.transition l.graph.edges
