use Rattle.std.proofs.Common.{◌≡◌, map}
use Rattle.whole_laws.specs.Whole.{list_of}
use Rattle.state_graph.specs.Exits.{exit_by, exits_of}
use Rattle.state_graph.proofs.exits.exit_table.Given as goal

-- the exits of the states so far
abbrev pub invariant-loop-state : goal.invariant-loop-state
invariant-loop-state l =
    map (λ exits. exits.items) l.table.items
    ≡ list_of l.state (λ state. map (exit_by l.edges) (exits_of l.edges state))
