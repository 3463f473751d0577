use Rattle.std.proofs.Common.{◌≡◌, take}
use Rattle.product_model.specs.Views.{graph_of}
use Rattle.cell_coeffs.proofs.places.links_of.Given as goal

abbrev pub invariant-loop-transition : goal.invariant-loop-transition
invariant-loop-transition l = l.links.items ≡ take l.transition (graph_of l.p).edges
