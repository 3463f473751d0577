-- Runs of probabilities: their sum, and the sum of their sizes.
use Rattle.std.specs.Prelude.{◌≡◌, ℕ, zero, suc, pos, ◌+◌, ◌-◌, ◌*◌, ◌<◌, ◌≤◌, ◌==◌, if◌then◌else◌, ◌≤ℤ◌, [], ◌∷◌}
use Rattle.std.specs.Prelude.{length}
use Rattle.std.proofs.Common.{refl, ap, sym, ◌∙◌, arith, lit≤}
use Rattle.std.proofs.lemmas.Int.{ints}
use mathlib.Core.Path.{ap₂}
use Rattle.frac_laws.specs.Fraction.{Fraction, over, whole, size, ◌+ℚ◌, ◌-ℚ◌, ◌*ℚ◌, ◌≤ℚ◌}
use Rattle.frac_laws.specs.Sums.{sum_to, sum_of_list}
use Rattle.frac_laws.specs.Lists.{Vector, number_at}
use Rattle.frac_laws.specs.Norms.{Sum, norm_of_vector}
use Rattle.frac_laws.proofs.FractionTerms.{ring, terms}
use Rattle.frac_laws.proofs.Linear.{linear, claims, natural, ◌⊞◌, ◌⊠◌}
use Rattle.frac_laws.proofs.Positive.{equal_of_mul_equal, whole_positive}
use Rattle.frac_laws.proofs.Quotients.{whole_le, whole_suc}
use Rattle.frac_laws.proofs.Norms.{norm_natural}
use Rattle.frac_laws.proofs.Sizes.{size_of_natural}
use Rattle.frac_laws.proofs.Sums.{sum_to_ext, sum_to_sub, sum_to_scale, sum_to_scale_right, sum_to_first}
use Rattle.frac_laws.proofs.Sums.{sum_to_exchange, sum_to_zeros}
use Rattle.cell_laws.specs.Systems.{coefficient, taylor_value}
use Rattle.cell_laws.proofs.Dimensions.{taylor_values_keep_dimension}
use Rattle.cell_laws.proofs.Recurrences.{taylor_value_sums}
use Rattle.model_specs.specs.Product.{Product}
use Rattle.model_specs.specs.Cells.{CellCurves, Forward, cells_of_32}
use Rattle.model_specs.specs.Systems.{kolmogorov_system, intensity_at, leaving_at}
use Rattle.model_laws.specs.Equations.{IsQuintic}
use Rattle.model_specs.specs.ValuationRules.{IsAdmissible}
use Rattle.model_laws.proofs.CellEntries.{systems_keep_states, list-length}
use Rattle.model_laws.proofs.CellEquations.{kolmogorov_system_solves}
use Rattle.model_laws.proofs.CellShapes.{cells_are_quintic}
use Rattle.probability_laws.specs.ProbabilityLaws.{probabilities_after, ProbabilitiesAddUpToOne}
use Rattle.probability_laws.specs.ProbabilityLaws.{ProbabilitiesStaySmall}
use Rattle.probability_laws.specs.ProbabilitiesFrom.{probabilities_from, probabilities_from_cells, all_in}
use Rattle.probability_laws.specs.ProbabilitiesFrom.{TotalsAreKept, SizesStaySmall, FromAnyState, ProbabilitiesGoOn}
use Rattle.frac_laws.proofs.Order.{le_of_equal}
use Rattle.model_specs.specs.Runs.{month_forward}
use Rattle.product_cells.specs.EachCell.{forward_cell}
use Rattle.cell_bounds.proofs.TableNorms.{unit_at, sum_of_units, sizes-list_of, where_same-is}
use Rattle.cell_bounds.proofs.TableNorms.{unit-symmetric, unit_natural}
use Rattle.whole_laws.proofs.ListsByPlace.{at-list_of}
use Rattle.probability_laws.proofs.ForwardCells.{forward_cells_are_small}
use Rattle.probability_laws.proofs.HalfSquare.{small_forward_cells_grow_little}

-- the sum of a list by places
list_total : (v : Vector) (n : ℕ) → length v ≤ n → sum_of_list v ≡ sum_to n (number_at v)
list_total [] n b = sym (sum_to_zeros n {f = λ i. whole (pos 0)} (λ i c. refl))
list_total (x ∷ v) zero b = absurd (omega (arith, b))
list_total (x ∷ v) (suc n) b =
    ap (λ z. x +ℚ z) (list_total v n (omega (arith, b))) ∙ sym (sum_to_first n (number_at (x ∷ v)))

-- what a cell adds to the probabilities adds up to 0
module _ (cell : CellCurves) (quintic : IsQuintic cell) (v : Vector) where
  abbrev p : ℕ → ℕ → Fraction
  p j k = number_at (coefficient (kolmogorov_system cell) v k) j

  abbrev n : ℕ
  n = cell.states

  flows : (k m : ℕ) → sum_to n (λ j. sum_to n (λ i. intensity_at cell i j m *ℚ p i k) -ℚ leaving_at cell j m *ℚ p j k)
      ≡ whole (pos 0)
  flows k m =
      sum_to_sub n (λ j. sum_to n (λ i. intensity_at cell i j m *ℚ p i k)) (λ j. leaving_at cell j m *ℚ p j k)
      ∙ ap₂ ◌-ℚ◌ (sum_to_exchange n n (λ j i. intensity_at cell i j m *ℚ p i k))
      (sum_to_ext n (λ j b. sym (sum_to_scale_right n (p j k) (λ i. intensity_at cell j i m))))
      ∙ ring (sum_to n (λ i. sum_to n (λ j. intensity_at cell i j m *ℚ p i k)) ∷ []) (hlevel terms) refl

  later_total : (k : ℕ) → sum_to n (λ j. p j (suc k)) ≡ whole (pos 0)
  later_total k =
      equal_of_mul_equal {c = whole (pos (suc k))} (whole_positive (suc k) (omega arith))
      (sym (sum_to_scale n (whole (pos (suc k))) (λ j. p j (suc k)))
      ∙ sum_to_ext n (λ j b. kolmogorov_system_solves cell v quintic k j b)
      ∙ sum_to_exchange n (suc k) (λ j m. sum_to n (λ i. intensity_at cell i j m *ℚ p i (k - m))
      -ℚ leaving_at cell j m *ℚ p j (k - m))
      ∙ sum_to_zeros (suc k) (λ m b. flows (k - m) m)
      ∙ ring (whole (pos (suc k)) ∷ []) (hlevel terms) refl)

  pub cell_keeps_total : (degree : ℕ) → sum_to n (number_at (taylor_value (kolmogorov_system cell) v degree))
      ≡ sum_to n (number_at v)
  cell_keeps_total degree =
      sum_to_ext n (λ j b. taylor_value_sums (kolmogorov_system cell) v degree j)
      ∙ sum_to_exchange n (suc degree) (λ j k. p j k)
      ∙ sum_to_first degree (λ k. sum_to n (λ j. p j k))
      ∙ ap (λ z. sum_to n (number_at v) +ℚ z) (sum_to_zeros degree (λ k b. later_total k))
      ∙ ring (sum_to n (number_at v) ∷ []) (hlevel terms) refl

-- a growth of 1 / 76800 in each cell
growth_step : (c : ℕ) (x y : Fraction) → suc c ≤ 76800 → whole (pos (76800 - c)) *ℚ x ≤ℚ whole (pos 76800)
    → whole (pos 0) ≤ℚ x → y ≤ℚ over (pos 76801) 76800 *ℚ x → whole (pos (76800 - suc c)) *ℚ y ≤ℚ whole (pos 76800)
growth_step c x y few held some grown =
    let k = 76800 - suc c in
    let e : 76800 - c ≡ suc (76800 - suc c) = omega (arith, few) in
    let most : whole (pos k) ≤ℚ whole (pos 76800) = whole_le (omega (arith, ints)) in
    stepped (whole (pos k)) x y most (natural k 1) some grown (rw (e, whole_suc k) at held)
  where
    stepped : (k x y : Fraction) → k ≤ℚ whole (pos 76800) → whole (pos 0) ≤ℚ k → whole (pos 0) ≤ℚ x
        → y ≤ℚ over (pos 76801) 76800 *ℚ x → (whole (pos 1) +ℚ k) *ℚ x ≤ℚ whole (pos 76800)
        → k *ℚ y ≤ℚ whole (pos 76800)
    stepped k x y most some hx grown held =
        linear (k ∷ x ∷ y ∷ []) (some ⊠ grown ⊞ (most ⊠ hx) ⊠ natural 1 76800 ⊞ held) (hlevel claims) refl

module _ (product : Product) (admissible : IsAdmissible product) (degree date : ℕ) (v : Vector)
    (fits : length v ≤ length product.states) where
  abbrev states : ℕ
  states = length product.states

  abbrev at : ℕ → Vector
  at months = probabilities_from product degree date v months

  abbrev after : ℕ → ℕ → Vector
  after months cells = probabilities_from_cells product degree date v months cells

  fits_after : (months cells : ℕ) → length (at months) ≤ states → length (after months cells) ≤ states
  fits_after months zero h = h
  fits_after months (suc cells) h =
      taylor_values_keep_dimension (kolmogorov_system (forward_cell product (date + months) cells)) (after months cells)
      degree (systems_keep_states (forward_cell product (date + months) cells)).kolmogorov (fits_after months cells h)

  fits_at : (months : ℕ) → length (at months) ≤ states
  fits_at zero = fits
  fits_at (suc months) = fits_after months 32 (fits_at months)

  pub fits_from : (months cells : ℕ) → length (after months cells) ≤ states
  fits_from months cells = fits_after months cells (fits_at months)

  total_after : (months cells : ℕ) → sum_to states (number_at (at months)) ≡ sum_to states (number_at v)
      → sum_to states (number_at (after months cells)) ≡ sum_to states (number_at v)
  total_after months zero h = h
  total_after months (suc cells) h =
      cell_keeps_total (forward_cell product (date + months) cells)
      (cells_are_quintic (cells_of_32 Forward) product (date + months) cells admissible.well_formed).0
      (after months cells) degree
      ∙ total_after months cells h

  total_at : (months : ℕ) → sum_to states (number_at (at months)) ≡ sum_to states (number_at v)
  total_at zero = refl
  total_at (suc months) = total_after months 32 (total_at months)

  pub keeps_total : (months cells : ℕ) → sum_of_list (after months cells) ≡ sum_of_list v
  keeps_total months cells = list_total (after months cells) states (fits_from months cells)
      ∙ total_after months cells (total_at months) ∙ sym (list_total v states fits)

  abbrev IsHeld : ℕ → Vector → Type 0
  IsHeld c u = whole (pos (76800 - c)) *ℚ norm_of_vector Sum u ≤ℚ whole (pos 76800)

  module _ (above : 8 ≤ degree) (small : norm_of_vector Sum v ≤ℚ whole (pos 1)) where
    held_after : (months cells : ℕ) → date + months < product.months → cells ≤ 32
        → IsHeld (32 * months) (at months) → IsHeld (32 * months + cells) (after months cells)
    held_after months zero inside few h =
        let e : 32 * months + 0 ≡ 32 * months = omega arith in rw e h
    held_after months (suc cells) inside few h =
        let most = admissible.well_formed.head.at_most_a_century in
        let e : 32 * months + suc cells ≡ suc (32 * months + cells) = omega arith in
        let cell = forward_cell product (date + months) cells in
        rw e (growth_step (32 * months + cells) (norm_of_vector Sum (after months cells))
        (norm_of_vector Sum (after months (suc cells))) (omega (arith, most, inside, few))
        (held_after months cells inside (omega (arith, few)) h) (norm_natural Sum (after months cells))
        (small_forward_cells_grow_little (kolmogorov_system cell) (after months cells) degree
        (forward_cells_are_small product (date + months) cells admissible inside (omega (arith, few)))
        (systems_keep_states cell).kolmogorov refl (fits_from months cells) above))

    held_at : (months : ℕ) → date + months ≤ product.months → IsHeld (32 * months) (at months)
    held_at zero within = linear (norm_of_vector Sum v ∷ []) (small ⊠ natural 76800 1) (hlevel claims) refl
    held_at (suc months) within =
        let e : 32 * suc months ≡ 32 * months + 32 = omega arith in
        rw e (held_after months 32 (omega (arith, within)) (lit≤ tt) (held_at months (omega (arith, within))))

    pub stays_small : (months cells : ℕ) → date + months < product.months → cells ≤ 32
        → IsHeld (32 * months + cells) (after months cells)
        × (norm_of_vector Sum (after months cells) ≤ℚ whole (pos 2))
    stays_small months cells inside few =
        let held = held_after months cells inside few (held_at months (omega (arith, inside))) in
        let most = admissible.well_formed.head.at_most_a_century in
        let norm = norm_of_vector Sum (after months cells) in
        let half : whole (pos 38400) ≤ℚ whole (pos (76800 - (32 * months + cells))) =
        whole_le (order (76800 - (32 * months + cells)) (omega (arith, most, inside, few))) in (
          held,
          linear (norm ∷ whole (pos (76800 - (32 * months + cells))) ∷ [])
              (held ⊠ natural 1 38400 ⊞ (half ⊠ norm_natural Sum (after months cells)) ⊠ natural 1 38400)
              (hlevel claims) refl,
        )
      where
        order : (n : ℕ) → 38400 ≤ n → pos 38400 ≤ℤ pos n
        order n h = omega (arith, ints, h)

pub totals_are_kept : TotalsAreKept
totals_are_kept product n date v months cells admissible fits =
    keeps_total product admissible n date v fits months cells

pub sizes_stay_small : SizesStaySmall
sizes_stay_small product n date v months cells admissible above fits small inside few =
    stays_small product admissible n date v fits above small months cells inside few

-- all in one state
module _ (product : Product) (state : ℕ) (inside : state < length product.states) where
  abbrev start_at : ℕ → Fraction
  start_at j = if j == state then whole (pos 1) else whole (pos 0)

  start-is : (j : ℕ) → start_at j ≡ unit_at state j
  start-is j = where_same-is j state (whole (pos 1)) ∙ ring (unit_at j state ∷ []) (hlevel terms) refl
      ∙ unit-symmetric j state

  pub start_fits : length (all_in product state) ≤ length product.states
  start_fits = list-length (length product.states) start_at

  pub start_total : sum_of_list (all_in product state) ≡ whole (pos 1)
  start_total =
      list_total (all_in product state) (length product.states) start_fits
      ∙ sum_to_ext (length product.states) (λ j b.
      at-list_of (length product.states) start_at j (whole (pos 0)) b ∙ start-is j)
      ∙ sum_of_units (length product.states) state inside

  pub start_size : norm_of_vector Sum (all_in product state) ≡ whole (pos 1)
  start_size =
      sizes-list_of (length product.states) start_at
      ∙ sum_to_ext (length product.states) (λ j b. ap size (start-is j) ∙ size_of_natural (unit_natural state j))
      ∙ sum_of_units (length product.states) state inside

pub from_any_state : FromAnyState
from_any_state product n date state months cells admissible inside = record {
  one = totals_are_kept product n date (all_in product state) months cells admissible
      (start_fits product state inside) ∙ start_total product state inside;
  sizes = λ above within few. (sizes_stay_small product n date (all_in product state) months cells admissible above
      (start_fits product state inside) (le_of_equal (start_size product state inside)) within few).1;
}

-- the run from issue goes on from each of its own values
pub probabilities_go_on : ProbabilitiesGoOn
probabilities_go_on product n date zero = let e : date + 0 ≡ date = omega arith in rw e refl
probabilities_go_on product n date (suc months) =
    let e : date + suc months ≡ suc (date + months) = omega arith in
    rw e (ap (month_forward (λ cell. kolmogorov_system (forward_cell product (date + months) cell)) n 32)
    (probabilities_go_on product n date months))

from_issue : (product : Product) (n month cells : ℕ)
    → probabilities_from_cells product n 0 (all_in product product.start) month cells
    ≡ probabilities_after product n month cells
from_issue product n month cells =
    let e : 0 + month ≡ month = omega arith in
    ap (month_forward (λ cell. kolmogorov_system (forward_cell product (0 + month) cell)) n cells)
    (probabilities_go_on product n 0 month) ∙ ap (λ m. probabilities_after product n m cells) e

pub after_fits : (product : Product) (admissible : IsAdmissible product) (n month cells : ℕ)
    → length (probabilities_after product n month cells) ≤ length product.states
after_fits product admissible n month cells =
    rw (from_issue product n month cells)
    at (fits_from product admissible n 0 (all_in product product.start)
    (start_fits product product.start admissible.well_formed.head.start) month cells)

pub probabilities_add_up_to_one : ProbabilitiesAddUpToOne
probabilities_add_up_to_one product n month cells admissible =
    rw (from_issue product n month cells)
    at (from_any_state product n 0 product.start month cells admissible admissible.well_formed.head.start).one

pub probabilities_stay_small : ProbabilitiesStaySmall
probabilities_stay_small product n month cells admissible above inside few =
    let start = admissible.well_formed.head.start in
    rw (from_issue product n month cells)
    at (sizes_stay_small product n 0 (all_in product product.start) month cells admissible above
    (start_fits product product.start start) (le_of_equal (start_size product product.start start))
    (omega (arith, inside)) few)
