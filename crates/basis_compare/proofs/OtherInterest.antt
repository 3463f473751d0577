-- A product with other interest, by its parts.
use Rattle.std.proofs.Common.{◌≡◌, ℕ, ℤ, pos, List, map, ap, ◌∙◌}
use Rattle.model_specs.specs.Product.{Product}
use Rattle.model_specs.specs.RecordRules.{IsWellFormed}
use Rattle.curve_pieces.specs.PiecewiseCurves.{PiecewiseCurve}
use Rattle.state_graph.specs.StateGraphs.{StateGraph}
use Rattle.payment_plan.specs.Payments.{Payments}
use Rattle.product_model.specs.Parts.{Parts, FitTogether, parts_of, product_of_parts}
use Rattle.product_model.specs.Views.{graph_of, curve_of, payments_of}
use Rattle.product_reader.proofs.Wholes.{parts_of_product, product_again, parts_fit}

-- the parts of a product but for the interest
abbrev pub parts_with : Product → PiecewiseCurve → Parts
parts_with product interest = record (parts_of_product product) { interest = interest }

-- they fit together where the interest is over the term
pub parts_with_fit : (product : Product) (interest : PiecewiseCurve) → IsWellFormed product
    → interest.months ≡ product.months → FitTogether (parts_with product interest)
parts_with_fit product interest formed months =
    let fit = parts_fit product formed in
    record {
      name = fit.name;
      states = fit.states;
      some_denominator = fit.some_denominator;
      largest_denominator = fit.largest_denominator;
      start = fit.start;
      interest = months;
      rates = fit.rates;
      payments = fit.payments;
      state_count = fit.state_count;
      rate_count = fit.rate_count;
      sum_count = fit.sum_count;
    }

-- and make the product with that interest
pub product_with : (product : Product) (interest : PiecewiseCurve)
    → product_of_parts (parts_with product interest) ≡ record product { interest = interest.pieces }
product_with product interest =
    let with_interest : Product → Product = λ p. record p { interest = interest.pieces } in
    ap with_interest (product_again product)

-- parts one by one
pub parts_are : (p : Product) (at : PiecewiseCurve) (name : List ℕ) (graph : StateGraph) (start months : ℕ) (den : ℤ)
    (interest : PiecewiseCurve) (rates : List PiecewiseCurve) (payments : Payments) → name ≡ p.name
    → graph ≡ graph_of p → start ≡ p.start → months ≡ p.months → den ≡ pos p.den → interest ≡ at
    → rates ≡ map (λ t. curve_of p t.rate) p.transitions → payments ≡ payments_of p
    → parts_of name graph start months den interest rates payments ≡ parts_with p at
parts_are p at name graph start months den interest rates payments a b c d e f g h =
    ap (λ x. parts_of x graph start months den interest rates payments) a
    ∙ ap (λ x. parts_of p.name x start months den interest rates payments) b
    ∙ ap (λ x. parts_of p.name (graph_of p) x months den interest rates payments) c
    ∙ ap (λ x. parts_of p.name (graph_of p) p.start x den interest rates payments) d
    ∙ ap (λ x. parts_of p.name (graph_of p) p.start p.months x interest rates payments) e
    ∙ ap (λ x. parts_of p.name (graph_of p) p.start p.months (pos p.den) x rates payments) f
    ∙ ap (λ x. parts_of p.name (graph_of p) p.start p.months (pos p.den) at x payments) g
    ∙ ap (λ x. parts_of p.name (graph_of p) p.start p.months (pos p.den) at
    (map (λ t. curve_of p t.rate) p.transitions) x) h
