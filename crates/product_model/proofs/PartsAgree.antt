-- The parts of a product are those that its record says.
use Rattle.std.specs.Prelude.{◌≡◌, ℕ, ◌<◌, map, List, [], length, slice_index_or}
use Rattle.std.proofs.Common.{ap, sym, ◌∙◌, arith}
use Rattle.std.proofs.lemmas.List.{get_or_default}
use Rattle.whole_laws.specs.Whole.{list_of}
use Rattle.model_specs.specs.Product.{Step, transition_at, no_transition}
use Rattle.whole_laws.proofs.ListsByPlace.{at-list_of, length-list_of, map-list_of, list_of_places}
use Rattle.curve_pieces.specs.PiecewiseCurves.{PiecewiseCurve}
use Rattle.state_graph.specs.StateGraphs.{StateGraph}
use Rattle.payment_plan.specs.Payments.{Payments}
use Rattle.product_model.specs.Parts.{Parts, FitTogether, no_curve, product_of_parts, transition_of_parts}
use Rattle.product_model.specs.Views.{graph_of, curve_of, payments_of}

pub edges_of_parts : (parts : Parts)
    → map (λ t. (t.from, t.to)) (product_of_parts parts).transitions ≡ parts.graph.edges
edges_of_parts parts =
    map-list_of (λ t. (t.from, t.to)) (length parts.graph.edges) (transition_of_parts parts)
    ∙ list_of_places parts.graph.edges (0, 0)

pub graph_of_parts : (parts : Parts) → graph_of (product_of_parts parts) ≡ parts.graph
graph_of_parts parts =
    let with_edges : List (ℕ × ℕ) → StateGraph = λ edges. record { names = parts.graph.names; edges = edges } in
    ap with_edges (edges_of_parts parts)

pub sums_of_parts : (parts : Parts) → FitTogether parts
    → map (λ t. t.sum) (product_of_parts parts).transitions ≡ parts.payments.sums
sums_of_parts parts fit =
    map-list_of (λ t. t.sum) (length parts.graph.edges) (transition_of_parts parts)
    ∙ ap (λ n. list_of n (λ e. slice_index_or parts.payments.sums e [])) (sym fit.sum_count)
    ∙ list_of_places parts.payments.sums []

pub payments_of_parts : (parts : Parts) → FitTogether parts → payments_of (product_of_parts parts) ≡ parts.payments
payments_of_parts parts fit =
    let p : Payments = parts.payments in
    let paid : ℕ → ℕ → List (List Step) → Payments = λ states months sums. record {
      states = states;
      months = months;
      sums = sums;
      sojourns = p.sojourns;
      lumps = p.lumps;
      pattern = p.pattern;
    } in
    ap (λ sums. paid (length parts.graph.names) parts.months sums) (sums_of_parts parts fit)
    ∙ ap (λ months. paid (length parts.graph.names) months p.sums) (sym fit.payments)
    ∙ ap (λ states. paid states p.months p.sums) (sym fit.state_count)

pub transition_count_of_parts : (parts : Parts) → length (product_of_parts parts).transitions ≡ length parts.graph.edges
transition_count_of_parts parts = length-list_of (length parts.graph.edges) (transition_of_parts parts)

pub transition_of_parts_at : (parts : Parts) (e : ℕ) → e < length (product_of_parts parts).transitions
    → transition_at (product_of_parts parts) e ≡ transition_of_parts parts e
transition_of_parts_at parts e inside =
    at-list_of (length parts.graph.edges) (transition_of_parts parts) e no_transition
    (omega (arith, transition_count_of_parts parts))

-- a curve of the product's term
curve_over_term : (parts : Parts) (curve : PiecewiseCurve) → curve.months ≡ parts.months
    → curve_of (product_of_parts parts) curve.pieces ≡ curve
curve_over_term parts curve same =
    let over : ℕ → PiecewiseCurve = λ months. record { pieces = curve.pieces; months = months } in
    ap over (sym same)

pub rate_of_parts : (parts : Parts) (e : ℕ) (rate : PiecewiseCurve) → FitTogether parts
    → e < length (product_of_parts parts).transitions → rate ≡ slice_index_or parts.rates e rate
    → curve_of (product_of_parts parts) (transition_at (product_of_parts parts) e).rate ≡ rate
rate_of_parts parts e rate fit inside read =
    let within : e < length parts.rates = omega (arith, transition_count_of_parts parts, fit.rate_count) in
    ap (λ t. curve_of (product_of_parts parts) t.rate) (transition_of_parts_at parts e inside)
    ∙ curve_over_term parts (slice_index_or parts.rates e no_curve) (fit.rates e no_curve within)
    ∙ get_or_default parts.rates e no_curve rate within ∙ sym read
