use Rattle.std.proofs.Common.{◌≡◌, take, map}
use Rattle.product_model.specs.Views.{graph_of}
use Rattle.cell_coeffs.proofs.forward_places.flows_of.Given as goal

abbrev pub invariant-loop-transition : goal.invariant-loop-transition
invariant-loop-transition l =
    l.flows.items ≡ take l.transition (map (λ edge. (edge.1, edge.0)) (graph_of l.p).edges)
