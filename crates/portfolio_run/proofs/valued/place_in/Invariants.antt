use Rattle.std.proofs.Common.{◌≡◌, ℕ, ◌<◌, false, get_or, []}
use Rattle.std.specs.Prelude.{bytes_eq}
use Rattle.state_graph.specs.StateGraphs.{texts_of}
use Rattle.portfolio_run.proofs.valued.place_in.Given as goal

abbrev pub invariant-loop-i : goal.invariant-loop-i
invariant-loop-i l = (k : ℕ) → k < l.i → bytes_eq l.name (get_or (texts_of l.names) k []) ≡ false
