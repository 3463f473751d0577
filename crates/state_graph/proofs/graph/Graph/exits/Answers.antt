use Rattle.std.proofs.Common.{arith, length, ap}
use Rattle.state_graph.proofs.ExitRows.{table_has_states, row_of_table, row_has_transitions, row_leads_to}
use Rattle.state_graph.proofs.ExitRows.{row_is_within, row_leads_to_states}
use Rattle.state_graph.proofs.graph.Graph.exits.Goals as goal

pub index-requires : goal.index-requires
index-requires c =
    omega (
      arith,
      ap (λ v. length v.names) c.self.view_is,
      table_has_states _ c.self.inside.exits.items c.self.invariant.1,
    )

pub returns-clause-transitions : goal.returns-clause-transitions
returns-clause-transitions c =
    let inside = rw (← c.self.view_is) at c.requires in
    rw (c.deref.ensures.value, ← c.self.view_is)
    (row_has_transitions _ _ _ (row_of_table _ _ _ _ c.self.invariant.1 inside c.index.ensures))

pub returns-clause-to : goal.returns-clause-to
returns-clause-to c =
    let inside = rw (← c.self.view_is) at c.requires in
    rw (c.deref.ensures.value, ← c.self.view_is)
    (row_leads_to _ _ _ (row_of_table _ _ _ _ c.self.invariant.1 inside c.index.ensures))

pub returns-clause-states : goal.returns-clause-states
returns-clause-states c =
    let inside = rw (← c.self.view_is) at c.requires in
    rw (c.deref.ensures.value, ← c.self.view_is)
    (row_leads_to_states _ _ _ c.self.invariant.0 (row_of_table _ _ _ _ c.self.invariant.1 inside c.index.ensures))

pub returns-clause-within : goal.returns-clause-within
returns-clause-within c =
    let inside = rw (← c.self.view_is) at c.requires in
    rw (c.deref.ensures.value, ← c.self.view_is)
    (row_is_within _ _ _ (row_of_table _ _ _ _ c.self.invariant.1 inside c.index.ensures))
