-- What a product's parts say is what the product says.
use Rattle.std.specs.Prelude.{◌≡◌, ℕ}
use Rattle.model_specs.specs.Product.{Product, transition_at}
use Rattle.model_specs.specs.MonthNumbers.{exits}
use Rattle.model_specs.specs.Payments.{payment_plan, pattern_plan}
use Rattle.state_graph.specs.StateGraphs.{edge_at}
use Rattle.state_graph.specs.Exits.{exits_of}
use Rattle.payment_plan.specs.Payments.{benefits_of, pattern_of}
use Rattle.product_model.specs.Views.{graph_of, payments_of}

-- transition e of the graph leads from and to the states of the product's transition e
abbrev pub PairsAgree : Type 0
PairsAgree = (product : Product) (e : ℕ)
    → edge_at (graph_of product).edges e ≡ ((transition_at product e).from, (transition_at product e).to)

-- the exits of a state of the graph are those of the product
abbrev pub ExitsAgree : Type 0
ExitsAgree = (product : Product) (state : ℕ) → exits_of (graph_of product).edges state ≡ exits product state

-- the payments of the file, and the premium pattern as a plan of its own
abbrev pub PlansAgree : Type 0
PlansAgree = (product : Product)
    → (benefits_of (payments_of product) ≡ payment_plan product)
    × (pattern_of (payments_of product) ≡ pattern_plan product)
