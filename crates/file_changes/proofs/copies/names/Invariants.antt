use Rattle.std.proofs.Common.{◌≡◌, take}
use Rattle.state_graph.specs.StateGraphs.{texts_of}
use Rattle.file_changes.proofs.copies.names.Given as goal

abbrev pub invariant-loop-state : goal.invariant-loop-state
invariant-loop-state l = texts_of l.names.items ≡ take l.state l.graph.names
