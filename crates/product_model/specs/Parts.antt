-- The parts of a product, and the product that they make.
use Rattle.std.specs.Prelude.{◌≡◌, ℕ, ◌<◌, ◌≤◌, ◌^◌, ℤ, List, [], All, length, slice_index_or}
use Rattle.whole_laws.specs.Whole.{list_of, natural_part}
use Rattle.model_specs.specs.Names.{IsGoodName}
use Rattle.model_specs.specs.Product.{Product, Transition}
use Rattle.model_specs.specs.RecordRules.{IsWellFormed}
use Rattle.curve_pieces.specs.PiecewiseCurves.{PiecewiseCurve}
use Rattle.state_graph.specs.StateGraphs.{StateGraph, edge_at}
use Rattle.payment_plan.specs.Payments.{Payments}

-- a name, states and transitions, the start state, the term in months, the denominator of all curves, the force of
-- interest, the intensity of each transition, and the payments
pub record Parts : Type 0 where
  pub name : List ℕ
  pub graph : StateGraph
  pub start : ℕ
  pub months : ℕ
  pub den : ℕ
  pub interest : PiecewiseCurve
  pub rates : List PiecewiseCurve
  pub payments : Payments

-- the parts in the order in which a product is made of them
abbrev pub parts_of : List ℕ → StateGraph → ℕ → ℕ → ℤ → PiecewiseCurve → List PiecewiseCurve → Payments → Parts
parts_of name graph start months den interest rates payments = record {
  name = name;
  graph = graph;
  start = start;
  months = months;
  den = natural_part den;
  interest = interest;
  rates = rates;
  payments = payments;
}

-- stands for a curve that there is not
abbrev pub no_curve : PiecewiseCurve
no_curve = record { pieces = []; months = 0 }

-- transition e: the states of its pair, the pieces of its rate and the steps of its sum
abbrev pub transition_of_parts : Parts → ℕ → Transition
transition_of_parts parts e = record {
  from = (edge_at parts.graph.edges e).0;
  to = (edge_at parts.graph.edges e).1;
  rate = (slice_index_or parts.rates e no_curve).pieces;
  sum = slice_index_or parts.payments.sums e [];
}

-- the product that the parts make
abbrev pub product_of_parts : Parts → Product
product_of_parts parts = record {
  name = parts.name;
  states = parts.graph.names;
  start = parts.start;
  months = parts.months;
  den = parts.den;
  interest = parts.interest.pieces;
  transitions = list_of (length parts.graph.edges) (transition_of_parts parts);
  sojourns = parts.payments.sojourns;
  lumps = parts.payments.lumps;
  pattern = parts.payments.pattern;
}

-- the names, the denominator and the start are good, and the parts are made for each other: the curves and the payments
-- for the term, the payments for the states and transitions, and as many rates as transitions
pub record FitTogether (parts : Parts) : Type 0 where
  pub name : IsGoodName 40 parts.name
  pub states : All (IsGoodName 24) parts.graph.names
  pub some_denominator : 1 ≤ parts.den
  pub largest_denominator : parts.den ≤ 10 ^ 12
  pub start : parts.start < length parts.graph.names
  pub interest : parts.interest.months ≡ parts.months
  pub rates : All (λ rate. rate.months ≡ parts.months) parts.rates
  pub payments : parts.payments.months ≡ parts.months
  pub state_count : parts.payments.states ≡ length parts.graph.names
  pub rate_count : length parts.rates ≡ length parts.graph.edges
  pub sum_count : length parts.payments.sums ≡ length parts.graph.edges

-- what each product keeps: its parts fit together, and it obeys rules 3 to 14
pub record KeepsRules (parts : Parts) : Type 0 where
  pub fit : FitTogether parts
  pub well_formed : IsWellFormed (product_of_parts parts)
