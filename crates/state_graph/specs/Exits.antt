-- The transitions out of a state.
use Rattle.std.specs.Prelude.{◌≡◌, ℕ, ◌==◌, filter, map, List, length, Vec}
use Rattle.std.specs.declared.alloc.Global.{Global}
use Rattle.whole_laws.specs.Whole.{list_of, places}
use Rattle.state_graph.specs.StateGraphs.{StateGraph, edge_at}
use Rattle.state_graph.specs.declared.exits.Edge.{Edge}

-- the transitions out of a state, in the order of the file, among the first n
abbrev pub exits_among : ℕ → List (ℕ × ℕ) → ℕ → List ℕ
exits_among n edges state = filter (λ e. (edge_at edges e).0 == state) (places n)

-- the transitions out of a state, in the order of the file
abbrev pub exits_of : List (ℕ × ℕ) → ℕ → List ℕ
exits_of edges state = exits_among (length edges) edges state

-- a transition as an exit
abbrev pub exit_by : List (ℕ × ℕ) → ℕ → Edge
exit_by edges transition = record { to = (edge_at edges transition).1; transition = transition }

-- a table of exits: for each state the transitions out of it
abbrev pub IsExitTable : StateGraph → List (Vec Edge Global) → Type 0
IsExitTable graph table =
    map (λ exits. exits.items) table
    ≡ list_of (length graph.names) (λ state. map (exit_by graph.edges) (exits_of graph.edges state))
