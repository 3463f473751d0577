-- Products with a changed basis, by their parts.
use Rattle.std.proofs.Common.{◌≡◌, ℕ, zero, suc, ◌*◌, ◌^◌, ◌<◌, ◌≤◌, ℤ, pos, List, [], ◌∷◌, length, map}
use Rattle.std.proofs.Common.{arith, refl, ap, sym, ◌∙◌, subst}
use Rattle.std.specs.Prelude.{All, slice_index_or}
use Rattle.std.proofs.lemmas.List.{get_or-map, length-map}
use Rattle.std.proofs.lemmas.List.Elements.{All-map}
use Rattle.named_numbers.specs.Numbers.{most_denominator}
use Rattle.whole_laws.specs.Whole.{list_of}
use Rattle.model_specs.specs.Curve.{Piece}
use Rattle.model_specs.specs.Product.{Product, Transition, no_transition}
use Rattle.model_specs.specs.RecordRules.{IsWellFormed}
use Rattle.curve_pieces.specs.PiecewiseCurves.{PiecewiseCurve}
use Rattle.state_graph.specs.StateGraphs.{edge_at}
use Rattle.product_model.specs.Parts.{Parts, FitTogether, no_curve, parts_of, product_of_parts}
use Rattle.product_model.specs.Views.{graph_of, curve_of, payments_of}
use Rattle.product_reader.proofs.Wholes.{parts_fit}
use Rattle.file_changes.specs.Asks.{IsSmallCurve, HasSmallCurves}
use Rattle.file_changes.specs.BasisChanges.{with_basis}

-- a number is at most its product with one of at least 1
pub times_at_least : (d x : ℕ) → 1 ≤ d → x ≤ d * x
times_at_least zero x some = absurd (omega arith)
times_at_least (suc d) x some = grind arith

-- a power of ten is at least 1
power-positive : (places : ℕ) → 1 ≤ 10 ^ places
power-positive zero = omega arith
power-positive (suc places) = omega (arith, power-positive places)

-- a power is at most the finer denominator
pub power_is_small : (d x bound : ℕ) → 1 ≤ d → d * x ≤ bound → x ≤ bound
power_is_small d x bound some small = omega (arith, times_at_least d x some)

-- a finer denominator is at least 1 where the old one is
pub finer_is_some : (d places : ℕ) → 1 ≤ d → 1 ≤ d * 10 ^ places
finer_is_some d places some = omega (arith, times_at_least d (10 ^ places) some, power-positive places)

-- the parts of a product with another basis
abbrev pub basis_parts : Product → ℤ → PiecewiseCurve → List PiecewiseCurve → Parts
basis_parts p den interest rates =
    parts_of p.name (graph_of p) p.start p.months den interest rates (payments_of p)

-- the pairs of states of transitions
abbrev pairs_of : List Transition → List (ℕ × ℕ)
pairs_of ts = map (λ t. (t.from, t.to)) ts

-- transitions with other intensities are made of their pairs, rates and sums
rates_again : (p : Product) (rate : Transition → List Piece) (ts : List Transition)
    → list_of {A = Transition} (length (pairs_of ts)) (λ e. record {
      from = (edge_at (pairs_of ts) e).0;
      to = (edge_at (pairs_of ts) e).1;
      rate = (slice_index_or (map (λ t. curve_of p (rate t)) ts) e no_curve).pieces;
      sum = slice_index_or (map (λ t. t.sum) ts) e [];
    }) ≡ map (λ t. record { from = t.from; to = t.to; rate = rate t; sum = t.sum }) ts
rates_again p rate [] = refl
rates_again p rate (t ∷ ts) =
    ap (λ xs. record { from = t.from; to = t.to; rate = rate t; sum = t.sum } ∷ xs) (rates_again p rate ts)

-- these parts are given one by one
parts_are : (p : Product) (d : ℕ) (den : ℤ) (interest : PiecewiseCurve) (rates : List PiecewiseCurve)
    (pieces : List Piece) (rate : Transition → List Piece) → den ≡ pos d → interest ≡ curve_of p pieces
    → rates ≡ map (λ t. curve_of p (rate t)) p.transitions
    → basis_parts p den interest rates
    ≡ basis_parts p (pos d) (curve_of p pieces) (map (λ t. curve_of p (rate t)) p.transitions)
parts_are p d den interest rates pieces rate a b c =
    ap (λ x. basis_parts p x interest rates) a ∙ ap (λ x. basis_parts p (pos d) x rates) b
    ∙ ap (basis_parts p (pos d) (curve_of p pieces)) c

-- and make the product
pub basis_is : (p : Product) (d : ℕ) (den : ℤ) (interest : PiecewiseCurve) (rates : List PiecewiseCurve)
    (pieces : List Piece) (rate : Transition → List Piece) → den ≡ pos d → interest ≡ curve_of p pieces
    → rates ≡ map (λ t. curve_of p (rate t)) p.transitions
    → product_of_parts (basis_parts p den interest rates) ≡ with_basis d pieces rate p
basis_is p d den interest rates pieces rate a b c =
    ap product_of_parts (parts_are p d den interest rates pieces rate a b c) ∙ ap (λ ts. record {
      name = p.name;
      states = p.states;
      start = p.start;
      months = p.months;
      den = d;
      interest = pieces;
      transitions = ts;
      sojourns = p.sojourns;
      lumps = p.lumps;
      pattern = p.pattern;
    }) (rates_again p rate p.transitions)

-- they fit together
pub basis_fits : (p : Product) (d : ℕ) (den : ℤ) (interest : PiecewiseCurve) (rates : List PiecewiseCurve)
    (pieces : List Piece) (rate : Transition → List Piece) → den ≡ pos d → interest ≡ curve_of p pieces
    → rates ≡ map (λ t. curve_of p (rate t)) p.transitions → IsWellFormed p → 1 ≤ d → d ≤ most_denominator
    → FitTogether (basis_parts p den interest rates)
basis_fits p d den interest rates pieces rate a b c h some small =
    let fit = parts_fit p h in
    subst FitTogether (sym (parts_are p d den interest rates pieces rate a b c)) (record {
      name = fit.name;
      states = fit.states;
      some_denominator = some;
      largest_denominator = small;
      start = fit.start;
      interest = refl;
      rates = All-map (λ (r : PiecewiseCurve). r.months ≡ p.months) (λ t. curve_of p (rate t)) p.transitions
          (λ k none below. refl);
      payments = refl;
      state_count = refl;
      rate_count = length-map p.transitions (λ t. curve_of p (rate t))
          ∙ sym (length-map p.transitions (λ t. (t.from, t.to)));
      sum_count = fit.sum_count;
    })

-- its curves are small where the intensities and the force of interest are
pub basis_is_small : (p : Product) (d : ℕ) (pieces : List Piece) (rate : Transition → List Piece)
    → IsSmallCurve p.months pieces → All (λ t. IsSmallCurve p.months (rate t)) p.transitions
    → HasSmallCurves (with_basis d pieces rate p)
basis_is_small p d pieces rate one all = record {
  interest = one;
  rates = All-map (λ (t : Transition). IsSmallCurve p.months t.rate)
      (λ t. record { from = t.from; to = t.to; rate = rate t; sum = t.sum }) p.transitions all;
}

-- and only there
pub basis_rates_are_small : (p : Product) (d : ℕ) (pieces : List Piece) (rate : Transition → List Piece)
    → HasSmallCurves (with_basis d pieces rate p) → All (λ t. IsSmallCurve p.months (rate t)) p.transitions
basis_rates_are_small p d pieces rate small k none below =
    let changed : Transition → Transition = λ t. record { from = t.from; to = t.to; rate = rate t; sum = t.sum } in
    subst (λ (t : Transition). IsSmallCurve p.months t.rate)
    (get_or-map changed p.transitions k none no_transition below)
    (small.rates k no_transition (subst (λ n. k < n) (sym (length-map p.transitions changed)) below))

-- intensities that are small as curves
pub rates_are_small : (p : Product) (rates : List PiecewiseCurve) (rate : Transition → List Piece)
    → rates ≡ map (λ t. curve_of p (rate t)) p.transitions
    → All (λ (r : PiecewiseCurve). IsSmallCurve r.months r.pieces) rates
    → All (λ t. IsSmallCurve p.months (rate t)) p.transitions
rates_are_small p rates rate same small k none below =
    let changed : Transition → PiecewiseCurve = λ t. curve_of p (rate t) in
    subst (λ (r : PiecewiseCurve). IsSmallCurve r.months r.pieces)
    (get_or-map changed p.transitions k none no_curve below)
    (subst (All (λ (r : PiecewiseCurve). IsSmallCurve r.months r.pieces)) same small k no_curve
    (subst (λ n. k < n) (sym (length-map p.transitions changed)) below))
