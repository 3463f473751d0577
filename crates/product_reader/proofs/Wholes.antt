-- The parts that a file gives are those of its product, and fit together.
use Rattle.std.proofs.Common.{◌≡◌, ◌≢◌, ℕ, ◌<◌, ◌≤◌, List, [], ◌∷◌, length, map, ap, sym, ◌∙◌, refl}
use Rattle.std.specs.Prelude.{slice_index_or}
use Rattle.std.proofs.lemmas.List.{length-map}
use Rattle.std.proofs.lemmas.List.Elements.{All-map}
use Rattle.std.proofs.lemmas.Simd.{map-map}
use Rattle.toml.specs.Data.{Members}
use Rattle.whole_laws.specs.Whole.{list_of}
use Rattle.model_specs.specs.Product.{Product, Transition, Step, Sojourn, Lump, PremiumPattern}
use Rattle.model_specs.specs.RecordRules.{IsWellFormed, IsPayment, IsBoundedPayment}
use Rattle.curve_pieces.specs.PiecewiseCurves.{PiecewiseCurve}
use Rattle.state_graph.specs.StateGraphs.{StateGraph, IsGraph, edge_at}
use Rattle.payment_plan.specs.Payments.{Payments, IsAllowed}
use Rattle.product_model.specs.Parts.{Parts, FitTogether, no_curve, product_of_parts}
use Rattle.product_model.specs.Views.{graph_of, curve_of, payments_of}
use Rattle.product_file.specs.TransitionRule.{transition_items, pair_of}
use Rattle.product_file.specs.HeadRules.{state_names}
use Rattle.product_file.specs.Reads.{product_of, transition_of}
use Rattle.product_reader.specs.Parts.{rate_of, sum_of}

-- a graph by its names and pairs
abbrev pub graph_with : List (List ℕ) → List (ℕ × ℕ) → StateGraph
graph_with names pairs = record { names = names; edges = pairs }

-- the graph of a well-formed product obeys rule 7
pub graph_is_good : (p : Product) → IsWellFormed p → IsGraph (graph_of p)
graph_is_good p h = record {
  names = h.names.distinct;
  from = All-map (λ edge. edge.0 < length p.states) (λ t. (t.from, t.to)) p.transitions h.transitions.from;
  to = All-map (λ edge. edge.1 < length p.states) (λ t. (t.from, t.to)) p.transitions h.transitions.to;
  different = All-map (λ edge. edge.0 ≢ edge.1) (λ t. (t.from, t.to)) p.transitions h.transitions.different;
  edges = h.transitions.distinct;
}

-- the graph of a file's product, by names and pairs
pub graph_by_pairs : (tree : Members) (names : List (List ℕ)) (pairs : List (ℕ × ℕ)) → names ≡ state_names tree
    → pairs ≡ map (pair_of tree) (transition_items tree)
    → graph_with names pairs ≡ graph_of (product_of tree)
graph_by_pairs tree names pairs same_names same_pairs =
    ap (λ ns. graph_with ns pairs) same_names
    ∙ ap (graph_with (state_names tree))
    (same_pairs ∙ sym (map-map (λ t. (t.from, t.to)) (transition_of tree) (transition_items tree)))

-- the payments of a well-formed product obey rules 10 to 14
pub payments_are_good : (p : Product) → IsWellFormed p → IsAllowed (payments_of p)
payments_are_good p h = record {
  some_state = h.names.some_state;
  most_states = h.names.at_most_twelve;
  some_month = h.head.some_month;
  most_months = h.head.at_most_a_century;
  payments = record {
    states = h.payments.states;
    distinct = h.payments.distinct;
    sojourns = h.payments.sojourns;
    sums = All-map (λ steps. 1 ≤ length steps → IsPayment p.months steps) (λ t. t.sum) p.transitions h.payments.sums;
    bounded_sojourns = h.payments.bounded_sojourns;
    bounded_sums = All-map (IsBoundedPayment p.months) (λ t. t.sum) p.transitions h.payments.bounded_sums;
  };
  lumps = record {
    dates = h.lumps.dates;
    states = h.lumps.states;
    amounts = h.lumps.amounts;
    distinct = h.lumps.distinct;
  };
  pattern = record {
    payers = h.pattern.payers;
    distinct = h.pattern.distinct;
    until_above_0 = h.pattern.until_above_0;
    until_within = h.pattern.until_within;
    every = h.pattern.every;
    never_until = h.pattern.never_until;
    never_every = h.pattern.never_every;
  };
}

-- the sums of a file's transitions
pub sums_of_file : (tree : Members) → map (sum_of tree) (transition_items tree) ≡ (payments_of (product_of tree)).sums
sums_of_file tree = sym (map-map (λ t. t.sum) (transition_of tree) (transition_items tree))

-- the parts of a product, with its rates as curves over the term
abbrev pub parts_of_product : Product → Parts
parts_of_product p = record {
  name = p.name;
  graph = graph_of p;
  start = p.start;
  months = p.months;
  den = p.den;
  interest = curve_of p p.interest;
  rates = map (λ t. curve_of p t.rate) p.transitions;
  payments = payments_of p;
}

-- the curve at a place
abbrev curve_at : List PiecewiseCurve → ℕ → PiecewiseCurve
curve_at curves e = slice_index_or curves e no_curve

-- the pairs of states of transitions
abbrev pairs_in : List Transition → List (ℕ × ℕ)
pairs_in ts = map (λ t. (t.from, t.to)) ts

-- transitions are made again of their pairs, rates and sums
transitions_again : (p : Product) (ts : List Transition)
    → list_of (length (pairs_in ts)) (λ e. record {
      from = (edge_at (pairs_in ts) e).0;
      to = (edge_at (pairs_in ts) e).1;
      rate = (curve_at (map (λ t. curve_of p t.rate) ts) e).pieces;
      sum = slice_index_or (map (λ t. t.sum) ts) e [];
    }) ≡ ts
transitions_again p [] = refl
transitions_again p (t ∷ ts) = ap (λ xs. t ∷ xs) (transitions_again p ts)

-- and so the product of its parts
pub product_again : (p : Product) → product_of_parts (parts_of_product p) ≡ p
product_again p = ap (λ ts. record {
  name = p.name;
  states = p.states;
  start = p.start;
  months = p.months;
  den = p.den;
  interest = p.interest;
  transitions = ts;
  sojourns = p.sojourns;
  lumps = p.lumps;
  pattern = p.pattern;
}) (transitions_again p p.transitions)

-- the parts of a well-formed product fit together
pub parts_fit : (p : Product) → IsWellFormed p → FitTogether (parts_of_product p)
parts_fit p h = record {
  name = h.names.name;
  states = h.names.states;
  some_denominator = h.head.some_denominator;
  largest_denominator = h.head.largest_denominator;
  start = h.head.start;
  interest = refl;
  rates = All-map (λ rate. rate.months ≡ p.months) (λ t. curve_of p t.rate) p.transitions (λ k d below. refl);
  payments = refl;
  state_count = refl;
  rate_count = length-map p.transitions (λ t. curve_of p t.rate)
      ∙ sym (length-map p.transitions (λ t. (t.from, t.to)));
  sum_count = length-map p.transitions (λ t. t.sum) ∙ sym (length-map p.transitions (λ t. (t.from, t.to)));
}

-- the rates of a file's transitions
pub rates_of_file : (tree : Members)
    → map (rate_of tree) (transition_items tree)
    ≡ map (λ t. curve_of (product_of tree) t.rate) (product_of tree).transitions
rates_of_file tree =
    sym (map-map (λ t. curve_of (product_of tree) t.rate) (transition_of tree) (transition_items tree))

-- the payments of a file's product, by their parts
abbrev payments_with : ℕ → ℕ → List (List Step) → List Sojourn → List Lump → PremiumPattern → Payments
payments_with states months sums sojourns lumps pattern = record {
  states = states;
  months = months;
  sums = sums;
  sojourns = sojourns;
  lumps = lumps;
  pattern = pattern;
}

pub payments_by_parts : (tree : Members) (states months : ℕ) (sums : List (List Step)) (sojourns : List Sojourn)
    (lumps : List Lump) (pattern : PremiumPattern) → states ≡ length (product_of tree).states
    → months ≡ (product_of tree).months → sums ≡ map (sum_of tree) (transition_items tree)
    → sojourns ≡ (product_of tree).sojourns → lumps ≡ (product_of tree).lumps
    → pattern ≡ (product_of tree).pattern
    → payments_with states months sums sojourns lumps pattern ≡ payments_of (product_of tree)
payments_by_parts tree states months sums sojourns lumps pattern a b c d e f =
    ap (λ x. payments_with x months sums sojourns lumps pattern) a
    ∙ ap (λ x. payments_with (length (product_of tree).states) x sums sojourns lumps pattern) b
    ∙ ap (λ x. payments_with (length (product_of tree).states) (product_of tree).months x sojourns lumps pattern)
    (c ∙ sums_of_file tree)
    ∙ ap (λ x. payments_with (length (product_of tree).states) (product_of tree).months
    (payments_of (product_of tree)).sums x lumps pattern) d
    ∙ ap (λ x. payments_with (length (product_of tree).states) (product_of tree).months
    (payments_of (product_of tree)).sums (product_of tree).sojourns x pattern) e
    ∙ ap (λ x. payments_with (length (product_of tree).states) (product_of tree).months
    (payments_of (product_of tree)).sums (product_of tree).sojourns (product_of tree).lumps x) f

-- parts one by one
abbrev parts_with : List ℕ → StateGraph → ℕ → ℕ → ℕ → PiecewiseCurve → List PiecewiseCurve → Payments → Parts
parts_with name graph start months den interest rates payments = record {
  name = name;
  graph = graph;
  start = start;
  months = months;
  den = den;
  interest = interest;
  rates = rates;
  payments = payments;
}

pub parts_by_one : (tree : Members) (name : List ℕ) (graph : StateGraph) (start months den : ℕ)
    (interest : PiecewiseCurve) (rates : List PiecewiseCurve) (payments : Payments) → name ≡ (product_of tree).name
    → graph ≡ graph_of (product_of tree) → start ≡ (product_of tree).start
    → months ≡ (product_of tree).months → den ≡ (product_of tree).den
    → interest ≡ curve_of (product_of tree) (product_of tree).interest
    → rates ≡ map (rate_of tree) (transition_items tree) → payments ≡ payments_of (product_of tree)
    → parts_with name graph start months den interest rates payments ≡ parts_of_product (product_of tree)
parts_by_one tree name graph start months den interest rates payments a b c d e f g h =
    let p : Product = product_of tree in
    let all : rates ≡ map (λ t. curve_of p t.rate) p.transitions = g ∙ rates_of_file tree in
    ap (λ x. parts_with x graph start months den interest rates payments) a
    ∙ ap (λ x. parts_with p.name x start months den interest rates payments) b
    ∙ ap (λ x. parts_with p.name (graph_of p) x months den interest rates payments) c
    ∙ ap (λ x. parts_with p.name (graph_of p) p.start x den interest rates payments) d
    ∙ ap (λ x. parts_with p.name (graph_of p) p.start p.months x interest rates payments) e
    ∙ ap (λ x. parts_with p.name (graph_of p) p.start p.months p.den x rates payments) f
    ∙ ap (λ x. parts_with p.name (graph_of p) p.start p.months p.den (curve_of p p.interest) x payments) all
    ∙ ap (λ x. parts_with p.name (graph_of p) p.start p.months p.den (curve_of p p.interest)
    (map (λ t. curve_of p t.rate) p.transitions) x) h
