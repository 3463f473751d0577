use Rattle.std.proofs.Common.{◌≡◌, map}
use Rattle.state_graph.specs.Exits.{exit_by, exits_among}
use Rattle.state_graph.proofs.exits.exits_from.Given as goal

-- the exits among the transitions so far
abbrev pub invariant-loop-transition : goal.invariant-loop-transition
invariant-loop-transition l =
    l.exits.items ≡ map (exit_by l.edges) (exits_among l.transition l.edges l.state)
