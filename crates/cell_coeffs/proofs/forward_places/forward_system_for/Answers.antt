use Rattle.std.proofs.Common.{ap, ◌∙◌, length}
use Rattle.state_graph.specs.StateGraphs.{StateGraph}
use Rattle.cell_coeffs.proofs.ForwardPlaces.{made_forward}
use Rattle.cell_coeffs.proofs.forward_places.forward_system_for.Goals as goal

pub returns : goal.returns
returns c =
    let states = c.states.ensures.count ∙ ap (λ (g : StateGraph). length g.names) c.graph.ensures.graph in
    made_forward c.args.p.now c.deref.result.now c.in_ok-system.system c.pairs_agree.ensures
    (c.deref.ensures.value ∙ c.in_ok-flows.ensures) (rw states at c.in_ok-system.ensures.made)
