-- The parts of the joint record.
use Rattle.std.proofs.Common.{◌≡◌, ℕ, ℤ, pos, List, map, ap, ◌∙◌}
use Rattle.model_specs.specs.Product.{Product, Step, Sojourn, Lump, PremiumPattern}
use Rattle.curve_pieces.specs.PiecewiseCurves.{PiecewiseCurve}
use Rattle.state_graph.specs.StateGraphs.{StateGraph}
use Rattle.payment_plan.specs.Payments.{Payments}
use Rattle.product_model.specs.Parts.{Parts, parts_of}
use Rattle.product_model.specs.Views.{graph_of, curve_of, payments_of}
use Rattle.product_reader.proofs.Wholes.{parts_of_product}

-- a graph by its names and pairs
pub graph_is : (p : Product) (names : List (List ℕ)) (pairs : List (ℕ × ℕ)) → names ≡ p.states
    → pairs ≡ map (λ t. (t.from, t.to)) p.transitions
    → ◌≡◌ {A = StateGraph} (record { names = names; edges = pairs }) (graph_of p)
graph_is p names pairs same_names same_pairs =
    ap (λ ns. record { names = ns; edges = pairs }) same_names
    ∙ ap (λ es. record { names = p.states; edges = es }) same_pairs

-- payments by their parts
abbrev payments_made : PremiumPattern → ℕ → ℕ → List (List Step) → List Sojourn → List Lump → Payments
payments_made pattern states months sums sojourns lumps = record {
  states = states;
  months = months;
  sums = sums;
  sojourns = sojourns;
  lumps = lumps;
  pattern = pattern;
}

pub payments_are : (p : Product) (states months : ℕ) (sums : List (List Step)) (sojourns : List Sojourn)
    (lumps : List Lump) (pattern : PremiumPattern) → states ≡ (payments_of p).states → months ≡ p.months
    → sums ≡ map (λ t. t.sum) p.transitions → sojourns ≡ p.sojourns → lumps ≡ p.lumps → pattern ≡ p.pattern
    → payments_made pattern states months sums sojourns lumps ≡ payments_of p
payments_are p states months sums sojourns lumps pattern a b c d e f =
    let q = payments_of p in
    ap (λ x. payments_made pattern x months sums sojourns lumps) a
    ∙ ap (λ x. payments_made pattern q.states x sums sojourns lumps) b
    ∙ ap (λ x. payments_made pattern q.states q.months x sojourns lumps) c
    ∙ ap (λ x. payments_made pattern q.states q.months q.sums x lumps) d
    ∙ ap (λ x. payments_made pattern q.states q.months q.sums q.sojourns x) e
    ∙ ap (λ x. payments_made x q.states q.months q.sums q.sojourns q.lumps) f

-- all parts
pub joint_parts_are : (p : Product) (name : List ℕ) (graph : StateGraph) (start months : ℕ) (den : ℤ)
    (interest : PiecewiseCurve) (rates : List PiecewiseCurve) (payments : Payments) → name ≡ p.name
    → graph ≡ graph_of p → start ≡ p.start → months ≡ p.months → den ≡ pos p.den
    → interest ≡ curve_of p p.interest → rates ≡ map (λ t. curve_of p t.rate) p.transitions
    → payments ≡ payments_of p → parts_of name graph start months den interest rates payments ≡ parts_of_product p
joint_parts_are p name graph start months den interest rates payments a b c d e f g h =
    let q : Parts = parts_of_product p in
    ap (λ x. parts_of x graph start months den interest rates payments) a
    ∙ ap (λ x. parts_of q.name x start months den interest rates payments) b
    ∙ ap (λ x. parts_of q.name q.graph x months den interest rates payments) c
    ∙ ap (λ x. parts_of q.name q.graph q.start x den interest rates payments) d
    ∙ ap (λ x. parts_of q.name q.graph q.start q.months x interest rates payments) e
    ∙ ap (λ x. parts_of q.name q.graph q.start q.months (pos p.den) x rates payments) f
    ∙ ap (λ x. parts_of q.name q.graph q.start q.months (pos p.den) q.interest x payments) g
    ∙ ap (λ x. parts_of q.name q.graph q.start q.months (pos p.den) q.interest q.rates x) h
