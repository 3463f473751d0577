use Rattle.std.proofs.Common.{◌<◌, ◌∙◌, ap, length}
use Rattle.state_graph.specs.StateGraphs.{StateGraph, edge_at}
use Rattle.product_model.specs.Views.{graph_of}
use Rattle.cell_coeffs.proofs.ForwardPlaces.{turned_more}
use Rattle.cell_coeffs.proofs.forward_places.flows_of.Goals as goal

pub loop-transition-preserved : goal.loop-transition-preserved
loop-transition-preserved c =
    let count = c.transitions-transition-end.ensures.count
    ∙ ap (λ (g : StateGraph). length g.edges) c.graph-graph.ensures.graph in
    let inside : c.loop-transition.transition < length (graph_of c.args.p.now).edges =
    rw (← count) c.loop-transition-test.true in
    turned_more (graph_of c.args.p.now).edges c.loop-transition.transition c.loop-transition.flows.items
    c.push.new.self.items c.pair-from.result inside c.loop-transition.invariant
    (c.pair-from.ensures
    ∙ ap (λ (g : StateGraph). edge_at g.edges c.loop-transition.transition) c.graph-graph.ensures.graph)
    c.in_ok-push.ensures.items
