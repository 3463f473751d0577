-- The parts of a product, as its record says them.
use Rattle.std.specs.Prelude.{List, length, map}
use Rattle.model_specs.specs.Curve.{Piece}
use Rattle.model_specs.specs.Product.{Product}
use Rattle.curve_pieces.specs.PiecewiseCurves.{PiecewiseCurve}
use Rattle.state_graph.specs.StateGraphs.{StateGraph}
use Rattle.payment_plan.specs.Payments.{Payments}

-- the names of the states, and the pair of states of each transition
abbrev pub graph_of : Product → StateGraph
graph_of product = record { names = product.states; edges = map (λ t. (t.from, t.to)) product.transitions }

-- pieces as a curve over the term
abbrev pub curve_of : Product → List Piece → PiecewiseCurve
curve_of product pieces = record { pieces = pieces; months = product.months }

-- the payments
abbrev pub payments_of : Product → Payments
payments_of product = record {
  states = length product.states;
  months = product.months;
  sums = map (λ t. t.sum) product.transitions;
  sojourns = product.sojourns;
  lumps = product.lumps;
  pattern = product.pattern;
}
