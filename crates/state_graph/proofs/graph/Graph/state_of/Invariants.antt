use Rattle.std.proofs.Common.{◌≢◌, ℕ, [], ◌<◌, get_or}
use Rattle.state_graph.proofs.graph.Graph.state_of.Given as goal

-- no state so far has the name
abbrev pub invariant-loop-i : goal.invariant-loop-i
invariant-loop-i l = (k : ℕ) → k < l.i → get_or l.self.names k [] ≢ l.name
