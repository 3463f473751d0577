-- The months of pieces, steps and lumps of a well-formed product.
use Rattle.std.proofs.Common.{◌≡◌, ℕ, zero, suc, ◌<◌, ◌≤◌, List, [], length, map, get_or, ap, sym, subst, ◌∙◌, arith}
use Rattle.std.proofs.Common.{refl, pos}
use Rattle.std.specs.Prelude.{All, false, slice_index}
use Rattle.std.proofs.lemmas.List.{get_or-map, length-map}
use Rattle.std.proofs.lemmas.Simd.{map-map}
use Rattle.toml.specs.Data.{Data, Members, boolean}
use Rattle.named_numbers.specs.Numbers.{most_months}
use Rattle.whole_laws.specs.Whole.{natural_part}
use Rattle.model_specs.specs.Curve.{Piece}
use Rattle.model_specs.specs.Product.{no_transition}
use Rattle.model_specs.specs.RecordRules.{StartsRise, IsCurve, IsBoundedCurve, IsPayment, IsWellFormed, piece_starts}
use Rattle.curve_pieces.specs.BrokenRules.{StartsInOrder}
use Rattle.curve_pieces.specs.PiecewiseCurves.{IsAllowed}
use Rattle.product_file.specs.Members.{item_at}
use Rattle.product_file.specs.CurveRules.{piece_of, start_of, months_of_term}
use Rattle.product_file.specs.TransitionRule.{transition_items}
use Rattle.product_file.specs.PaymentRules.{step_of, sojourn_items}
use Rattle.product_file.specs.LumpRule.{lump_of, lump_items}
use Rattle.product_file.specs.Reads.{product_of, transition_of, sojourn_of}

-- what holds of each part made of some data holds of the part made of each of them
of_each : {A : Type 0} (P : A → Type 0) (part : Data → A) (ds : List Data) (k : ℕ) (none : A) → All P (map part ds)
    → k < length ds → P (part (item_at ds k))
of_each P part ds k none all below =
    subst P (get_or-map part ds k (boolean false) none below)
    (all k none (subst (λ n. k < n) (sym (length-map ds part)) below))

-- starts of parts that rise below the term are starts of the data that they are made of
starts_within : {A : Type 0} (months : ℕ) (ds : List Data) (part : Data → A) (from : A → ℕ)
    → ((d : Data) → from (part d) ≡ natural_part (start_of d)) → StartsRise months (map from (map part ds))
    → months ≤ most_months → All (λ d. natural_part (start_of d) ≤ most_months) ds
starts_within months ds part from reads h term k d below =
    let count : length (map from (map part ds)) ≡ length ds = length-map (map part ds) from ∙ length-map ds part in
    let inside : k < length (map from (map part ds)) = subst (λ n. k < n) (sym count) below in
    let start : slice_index (map from (map part ds)) k ≡ natural_part (start_of (get_or ds k d)) =
    ap (λ xs. slice_index xs k) (map-map from part ds) ∙ get_or-map (λ x. from (part x)) ds k d 0 below
    ∙ reads (get_or ds k d) in
    let low : slice_index (map from (map part ds)) k < months = h.below k inside in
    omega (arith, start, low, term)

pub curve_starts : (months : ℕ) (ds : List Data) → IsCurve months (map piece_of ds) → months ≤ most_months
    → All (λ d. natural_part (start_of d) ≤ most_months) ds
curve_starts months ds h = starts_within months ds piece_of (λ piece. piece.from) (λ d. refl) h.starts

-- pieces that obey rules 8 and 9 make a curve
pub curve_is_allowed : (months : ℕ) (pieces : List Piece) → 1 ≤ months → months ≤ most_months → IsCurve months pieces
    → IsBoundedCurve months pieces → IsAllowed (record { pieces = pieces; months = months })
curve_is_allowed months pieces some most curve bounded = record {
  some_months = some;
  most_months = most;
  in_order = in_order;
  bounded = bounded;
}
  where
    in_order : (i : ℕ) → StartsInOrder months (piece_starts pieces) i
    in_order zero = (curve.starts.some, curve.starts.first, curve.starts.below 0 (omega (arith, curve.starts.some)))
    in_order (suc i) = λ inside. (curve.starts.rising i inside, curve.starts.below (suc i) inside)

pub payment_starts : (tree : Members) (months : ℕ) (ds : List Data)
    → (1 ≤ length (map (step_of tree) ds) → IsPayment months (map (step_of tree) ds)) → months ≤ most_months
    → All (λ d. natural_part (start_of d) ≤ most_months) ds
payment_starts tree months ds h term k d below =
    let some : 1 ≤ length (map (step_of tree) ds) =
    subst (λ n. 1 ≤ n) (sym (length-map ds (step_of tree))) (omega (arith, below)) in
    starts_within months ds (step_of tree) (λ step. step.from) (λ d. refl) (h some).starts term k d below

-- the intensity, the sum, the steps of a sojourn and the month of a lump, by their places in the file
pub rate_is_curve : (tree : Members) (k : ℕ) → IsWellFormed (product_of tree) → k < length (transition_items tree)
    → IsCurve (months_of_term tree) (transition_of tree (item_at (transition_items tree) k)).rate
rate_is_curve tree k h below = of_each (λ t. IsCurve (months_of_term tree) t.rate) (transition_of tree)
    (transition_items tree) k no_transition h.curves.rates below

pub rate_is_bounded : (tree : Members) (k : ℕ) → IsWellFormed (product_of tree) → k < length (transition_items tree)
    → IsBoundedCurve (months_of_term tree) (transition_of tree (item_at (transition_items tree) k)).rate
rate_is_bounded tree k h below = of_each (λ t. IsBoundedCurve (months_of_term tree) t.rate) (transition_of tree)
    (transition_items tree) k no_transition h.curves.bounded_rates below

pub sum_is_payment : (tree : Members) (k : ℕ) → IsWellFormed (product_of tree) → k < length (transition_items tree)
    → 1 ≤ length (transition_of tree (item_at (transition_items tree) k)).sum
    → IsPayment (months_of_term tree) (transition_of tree (item_at (transition_items tree) k)).sum
sum_is_payment tree k h below = of_each (λ t. 1 ≤ length t.sum → IsPayment (months_of_term tree) t.sum)
    (transition_of tree) (transition_items tree) k no_transition h.payments.sums below

pub sojourn_is_payment : (tree : Members) (s : ℕ) → IsWellFormed (product_of tree) → s < length (sojourn_items tree)
    → IsPayment (months_of_term tree) (sojourn_of tree (item_at (sojourn_items tree) s)).steps
sojourn_is_payment tree s h below = of_each (λ t. IsPayment (months_of_term tree) t.steps) (sojourn_of tree)
    (sojourn_items tree) s (record { state = 0; steps = [] }) h.payments.sojourns below

pub lump_month : (tree : Members) (k : ℕ) → IsWellFormed (product_of tree) → k < length (lump_items tree)
    → (lump_of tree (item_at (lump_items tree) k)).month ≤ most_months
lump_month tree k h below =
    let within : (lump_of tree (item_at (lump_items tree) k)).month ≤ months_of_term tree =
    of_each (λ l. l.month ≤ months_of_term tree) (lump_of tree) (lump_items tree) k
    (record { month = 0; state = 0; amount = pos 0 }) h.lumps.dates below in
    omega (arith, within, h.head.at_most_a_century)
