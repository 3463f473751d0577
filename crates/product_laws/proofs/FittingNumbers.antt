-- The numbers of the scaled systems can be stored.
use Rattle.std.specs.Prelude.{◌≡◌, ◌≢◌, ℕ, zero, suc, pos, ◌^◌, ◌<◌, ◌==◌, ◌&&◌, true}
use Rattle.std.specs.Prelude.{[], ◌∷◌, length}
use Rattle.std.proofs.Common.{refl, ap, sym, ◌∙◌, arith}
use Rattle.frac_laws.specs.Fraction.{Fraction, over, whole, size, opposite, is_not_negative, ◌+ℚ◌, ◌-ℚ◌, ◌*ℚ◌, ◌≤ℚ◌}
use Rattle.frac_laws.specs.Sums.{sum_to}
use Rattle.frac_laws.specs.Norms.{Sup, norm_of_vector}
use Rattle.frac_laws.proofs.FractionTerms.{ring, terms}
use Rattle.frac_laws.proofs.Linear.{linear, claims, natural, ◌⊞◌, ◌⊠◌, ◌·◌}
use Rattle.frac_laws.proofs.Order.{le_refl, le_trans, le_of_equal}
use Rattle.frac_laws.proofs.Norms.{size_zero}
use Rattle.frac_laws.proofs.Signs.{mul_natural}
use Rattle.frac_laws.proofs.Sizes.{size_add, size_mul, size_of_natural}
use Rattle.frac_laws.proofs.Sums.{term_le_sum_to}
use Rattle.model_specs.specs.Product.{Product, transition_at, no_transition}
use Rattle.model_specs.specs.Payments.{Plan, payment_plan, pattern_plan}
use Rattle.model_specs.specs.Growth.{greatest_sum}
use Rattle.model_specs.specs.Ledgers.{scale}
use Rattle.whole_laws.specs.Whole.{places}
use Rattle.model_specs.specs.RecordRules.{IsWellFormed}
use Rattle.model_specs.specs.Cells.{CellCurves, Backward}
use Rattle.model_specs.specs.Systems.{vector_of, where_same, first_payment_at, second_payment_at, sojourn_rate_at}
use Rattle.model_specs.specs.Systems.{coupling_entry, thiele_system, second_moment_system}
use Rattle.whole_laws.proofs.ListsByPlace.{at-list_of, All-list_of}
use Rattle.cell_laws.specs.Tame.{vector_norm_at}
use Rattle.ledger_laws.specs.MonthLaws.{ObeysMonthRules}
use Rattle.ledger_laws.proofs.MonthFacts.{admissible_obeys}
use Rattle.whole_laws.proofs.Tests.{same_numbers, both_pass}
use Rattle.whole_laws.proofs.Found.{found_by}
use Rattle.cell_bounds.specs.CellBounds.{paid_bound, load_bound, twice_paid_bound, of_cell, HasSmallCurves}
use Rattle.cell_bounds.specs.CellBounds.{HasSmallMonth, HasSmallPayments, HasSmallSums}
use Rattle.product_cells.specs.MonthFractions.{month_bounds, plan_bounds}
use Rattle.product_cells.proofs.CellsWithin.{cell_within, cell_pays}
use Rattle.cell_bounds.proofs.SmallCellsTame.{small_free}
use Rattle.product_cells.specs.MonthFractions.{rates_of, rate_of, found_value, rho_of, iota_of, nu_of}
use Rattle.product_cells.specs.MonthFractions.{rate_loads, sum_loads, sum_sizes, sum_spreads, most_paid}
use Rattle.product_laws.specs.FittingNumbers.{HasFittingNumbers, NumbersFit}
use Rattle.product_cells.specs.EachCell.{backward_cell, plan_scaling}
use Rattle.cell_bounds.proofs.TableNorms.{unit-same, unit-other, where_same-is}
use Rattle.cell_bounds.proofs.PaymentBounds.{first_payment_small}
use Rattle.cell_bounds.proofs.SecondBounds.{exits, exits_natural, exits_small, rate_small, second_by_scale}
use Rattle.cell_bounds.proofs.TameSystems.{scaled_norm}
use Rattle.model_laws.proofs.PlanSteps.{HasFourEach, payment_plan_four, pattern_plan_four}
use Rattle.product_cells.proofs.ProductCurves.{small_curves, small_month}
use Rattle.product_cells.proofs.ProductPayments.{small_payments, small_sums, x_natural, scaled_x}
use Rattle.product_cells.proofs.ScaleRoom.{unit_scale, room}
use Rattle.cell_bounds.proofs.CellConstants.{paid_natural, paid_total, twice_paid_total, twice_paid_natural}
use Rattle.cell_bounds.proofs.CellConstants.{load_natural}

-- each number of K * Lam is at most 5/4, of the square's list at most 21/16, and of Lam at most 1
paid_most : (m : ℕ) → m < 9 → paid_bound m ≤ℚ over (pos 5) 4
paid_most m b = le_trans (term_le_sum_to 9 m (λ k c. paid_natural k) b) paid_total

twice_paid_most : (m : ℕ) → m < 12 → twice_paid_bound m ≤ℚ over (pos 21) 16
twice_paid_most m b = le_trans (term_le_sum_to 12 m (λ k c. twice_paid_natural k) b) twice_paid_total

pub load_later : sum_to 8 (λ m. load_bound (suc m)) ≤ℚ whole (pos 1)
unfolding ◌+ℚ◌ ◌*ℚ◌ ◌-ℚ◌ opposite is_not_negative
load_later = record { le = refl }

pub load_most : (m : ℕ) → m < 9 → load_bound m ≤ℚ whole (pos 1)
load_most zero b = le_refl _
load_most (suc m) b =
    le_trans (term_le_sum_to 8 m {f = λ k. load_bound (suc k)} (λ k c. load_natural (suc k)) (omega (arith, b)))
    load_later

-- no transition leads from a state to itself
no_loop : (product : Product) (month i : ℕ) → IsWellFormed product → rates_of product month i i ≡ whole (pos 0)
no_loop product month i formed =
    found_by (λ found. found_value (rate_of product month) found ≡ whole (pos 0))
    (λ e. ((transition_at product e).from == i) && ((transition_at product e).to == i))
    (places (length product.transitions)) refl
    (All-list_of (λ e. (((transition_at product e).from == i) && ((transition_at product e).to == i)) ≡ true
    → rate_of product month e ≡ whole (pos 0)) (length product.transitions) (λ e. e)
    (λ e b h. absurd (formed.transitions.different e no_transition b
    (same_numbers (transition_at product e).from i (both_pass _ _ h).0
    ∙ sym (same_numbers (transition_at product e).to i (both_pass _ _ h).1)))))

module _ (cell : CellCurves) (rates : ℕ → ℕ → Fraction) (rho iota nu : Fraction) (rate : ℕ → Fraction)
    (sum : ℕ → ℕ → Fraction) (x greatest : Fraction) (largest apart : ℕ → ℕ → Fraction)
    (curves : HasSmallCurves cell rates rho iota nu) (small : HasSmallMonth rho iota nu)
    (payments : HasSmallPayments cell rates rate sum x greatest) (sums : HasSmallSums cell sum largest apart)
    (h G : Fraction) (h_natural : whole (pos 0) ≤ℚ h) (unit : h *ℚ G ≡ whole (pos 1))
    (greatest_natural : whole (pos 0) ≤ℚ greatest) (room : greatest +ℚ over (pos 1) 6 *ℚ x ≤ℚ G) where
  entry_size : (d b : Fraction) → size (h *ℚ (whole (pos 2) *ℚ d +ℚ b)) ≤ℚ h *ℚ (whole (pos 2) *ℚ size d +ℚ size b)
  entry_size d b =
      let first : size (whole (pos 2) *ℚ d) ≡ whole (pos 2) *ℚ size d =
      size_mul (whole (pos 2)) d ∙ ap (λ z. z *ℚ size d) (size_of_natural (natural 2 1)) in
      le_trans (le_of_equal (size_mul h (whole (pos 2) *ℚ d +ℚ b) ∙ ap (λ z. z *ℚ size (whole (pos 2) *ℚ d +ℚ b))
      (size_of_natural h_natural)))
      (linear (h ∷ size (whole (pos 2) *ℚ d +ℚ b) ∷ size (whole (pos 2) *ℚ d) ∷ size d ∷ size b ∷ [])
      (size_add (whole (pos 2) *ℚ d) b ⊠ h_natural ⊞ h · first) (hlevel claims) refl)

  one_exit : (i j : ℕ) → j < cell.states
      → rates i j *ℚ sum i j ≤ℚ exits cell rates rho iota nu rate sum x greatest largest apart curves small payments
      sums i
  one_exit i j c = term_le_sum_to cell.states j {f = λ k. rates i k *ℚ sum i k}
      (λ k e. mul_natural (curves.rates_natural i k) (payments.sum_natural i k)) c

  links_fit : (m i j : ℕ) → m < 9 → i < cell.states → j < cell.states → i ≢ j
      → size (h *ℚ coupling_entry cell m i j) ≤ℚ over (pos 5) 512
  links_fit m i j low b c differ =
      let d = first_payment_at cell i j m in
      let t = exits cell rates rho iota nu rate sum x greatest largest apart curves small payments sums i in
      let none : where_same i j (whole (pos 2) *ℚ sojourn_rate_at cell i m) ≡ whole (pos 0) =
      where_same-is i j (whole (pos 2) *ℚ sojourn_rate_at cell i m)
      ∙ ap (λ u. u *ℚ (whole (pos 2) *ℚ sojourn_rate_at cell i m)) (unit-other i j (λ e. differ (sym e)))
      ∙ ring (sojourn_rate_at cell i m ∷ []) (hlevel terms) refl in
      let paid = first_payment_small cell rates rho iota nu rate sum x greatest curves payments i j m in
      let most = exits_small cell rates rho iota nu rate sum x greatest largest apart curves small payments sums G
      greatest_natural room i b in
      rw none (le_trans (entry_size d (whole (pos 0)))
      (rw size_zero (by (size d) (rates i j *ℚ sum i j) t (paid_bound m)
      (le_trans paid (le_of_equal (ring (rates i j ∷ sum i j ∷ paid_bound m ∷ []) (hlevel terms) refl)))
      (one_exit i j c) most (paid_natural m) (paid_most m low)
      (exits_natural cell rates rho iota nu rate sum x greatest largest apart curves small payments sums i))))
    where
      by : (d s t p : Fraction) → d ≤ℚ of_cell s *ℚ p → s ≤ℚ t → t ≤ℚ over (pos 3) 2 *ℚ G → whole (pos 0) ≤ℚ p
          → p ≤ℚ over (pos 5) 4 → whole (pos 0) ≤ℚ t
          → h *ℚ (whole (pos 2) *ℚ d +ℚ whole (pos 0)) ≤ℚ over (pos 5) 512
      by d s t p paid within most some low ht =
          linear (d ∷ s ∷ t ∷ p ∷ h ∷ G ∷ [])
          ((paid ⊠ h_natural) ⊠ natural 2 1 ⊞ ((within ⊠ some) ⊠ h_natural) ⊠ natural 2 384
          ⊞ ((low ⊠ ht) ⊠ h_natural) ⊠ natural 2 384 ⊞ (most ⊠ h_natural) ⊠ natural 10 1536
          ⊞ over (pos 5) 512 · unit) (hlevel claims) refl

  diagonal_fits : (m i : ℕ) → m < 9 → i < cell.states → rates i i ≡ whole (pos 0)
      → size (h *ℚ coupling_entry cell m i i) ≤ℚ over (pos 1) 32
  diagonal_fits m i low b loop =
      let d = first_payment_at cell i i m in
      let s = sojourn_rate_at cell i m in
      let same : where_same i i (whole (pos 2) *ℚ s) ≡ whole (pos 2) *ℚ s =
      where_same-is i i (whole (pos 2) *ℚ s) ∙ ap (λ u. u *ℚ (whole (pos 2) *ℚ s)) (unit-same i)
      ∙ ring (s ∷ []) (hlevel terms) refl in
      let nothing : size d ≤ℚ whole (pos 0) =
      le_trans (first_payment_small cell rates rho iota nu rate sum x greatest curves payments i i m)
      (le_of_equal (ap (λ r. of_cell r *ℚ sum i i *ℚ paid_bound m) loop
      ∙ ring (sum i i ∷ paid_bound m ∷ []) (hlevel terms) refl)) in
      let doubled : size (whole (pos 2) *ℚ s) ≡ whole (pos 2) *ℚ size s =
      size_mul (whole (pos 2)) s ∙ ap (λ z. z *ℚ size s) (size_of_natural (natural 2 1)) in
      let most = rate_small cell rates rho iota nu rate sum x greatest largest apart curves small payments sums G
      greatest_natural room i b in
      rw same (le_trans (entry_size d (whole (pos 2) *ℚ s))
      (rw doubled (by (size d) (size s) (rate i) (load_bound m) nothing (payments.sojourn i m) most (load_natural m)
      (load_most m low) (payments.rate_natural i))))
    where
      by : (d s r l : Fraction) → d ≤ℚ whole (pos 0) → s ≤ℚ of_cell (r *ℚ l) → r ≤ℚ whole (pos 6) *ℚ G
          → whole (pos 0) ≤ℚ l → l ≤ℚ whole (pos 1) → whole (pos 0) ≤ℚ r
          → h *ℚ (whole (pos 2) *ℚ d +ℚ whole (pos 2) *ℚ s) ≤ℚ over (pos 1) 32
      by d s r l none paid most some low hr =
          linear (d ∷ s ∷ r ∷ l ∷ h ∷ G ∷ [])
          ((none ⊠ h_natural) ⊠ natural 2 1 ⊞ (paid ⊠ h_natural) ⊠ natural 2 1
          ⊞ ((low ⊠ hr) ⊠ h_natural) ⊠ natural 2 384 ⊞ (most ⊠ h_natural) ⊠ natural 2 384
          ⊞ over (pos 1) 32 · unit) (hlevel claims) refl

numbers_of : (product : Product) (plan : Plan) (month cell : ℕ) → IsWellFormed product → ObeysMonthRules product month
    → month < product.months → cell < 32 → HasFourEach plan → HasFittingNumbers product plan month cell
numbers_of product plan month cell formed rules below inside four =
    let here = backward_cell product plan month cell in
    let h = plan_scaling product plan in
    let G = whole (pos (2 ^ scale product plan)) in
    let s = whole (pos (greatest_sum product plan)) in
    let curves = small_curves product month formed rules plan Backward cell inside in
    let small = small_month product month formed rules in
    let payments = small_payments product plan month formed rules below four Backward cell inside in
    let sums = small_sums product plan month formed rules below four Backward cell inside in
    let some = natural 1 (2 ^ scale product plan) in
    let unit = unit_scale product plan in
    let left = room product plan month formed rules below four in
    let x_some = x_natural product plan month formed rules below four in
    record {
      first = λ m b. le_trans (le_of_equal (scaled_norm Sup h (thiele_system here).free m some))
          (first_fits (vector_norm_at Sup (thiele_system here).free m) (most_paid product plan month) (paid_bound m) h
          (small_free here (month_bounds product month)
          (cell_within Backward product plan month cell formed rules inside) (plan_bounds product plan month)
          (cell_pays Backward product plan month cell formed rules inside below four) m b)
          some x_some (paid_most m b) (scaled_x product plan month formed rules below four));
      second = λ m b. le_trans (le_of_equal (scaled_norm Sup (h *ℚ h) (second_moment_system here).free m
          (mul_natural some some)))
          (second_fits (vector_norm_at Sup (second_moment_system here).free m) (twice_paid_bound m) h G
          (le_trans (le_of_equal (ap (norm_of_vector Sup) (at-list_of 12 (λ k. vector_of here.states
          (λ i. sum_to here.states (λ j. second_payment_at here i j k))) m [] b)))
          (second_by_scale here (rates_of product month) (rho_of product month) (iota_of product month)
          (nu_of product month) (rate_loads plan month) (sum_loads product plan month) (most_paid product plan month) s
          (sum_sizes product plan month) (sum_spreads product plan month) curves small payments sums G
          (natural (greatest_sum product plan) 1) left m (natural (2 ^ scale product plan) 1)))
          some (twice_paid_most m b) unit);
      links = links_fit here (rates_of product month) (rho_of product month) (iota_of product month)
          (nu_of product month) (rate_loads plan month) (sum_loads product plan month) (most_paid product plan month) s
          (sum_sizes product plan month) (sum_spreads product plan month) curves small payments sums h G some unit
          (natural (greatest_sum product plan) 1) left;
      diagonal = λ m i b c. diagonal_fits here (rates_of product month) (rho_of product month) (iota_of product month)
          (nu_of product month) (rate_loads plan month) (sum_loads product plan month) (most_paid product plan month) s
          (sum_sizes product plan month) (sum_spreads product plan month) curves small payments sums h G some unit
          (natural (greatest_sum product plan) 1) left m i b c (no_loop product month i formed);
    }
  where
    first_fits : (norm x p h : Fraction) → norm ≤ℚ of_cell x *ℚ p → whole (pos 0) ≤ℚ h → whole (pos 0) ≤ℚ x
        → p ≤ℚ over (pos 5) 4 → h *ℚ x ≤ℚ whole (pos 6) → h *ℚ norm ≤ℚ over (pos 5) 256
    first_fits norm x p h free hh hx low most =
        linear (norm ∷ x ∷ p ∷ h ∷ [])
        (free ⊠ hh ⊞ ((low ⊠ hx) ⊠ hh) ⊠ natural 1 384 ⊞ most ⊠ natural 5 1536) (hlevel claims) refl

    second_fits : (norm y h G : Fraction) → norm ≤ℚ of_cell (over (pos 9) 8 *ℚ (G *ℚ G)) *ℚ y → whole (pos 0) ≤ℚ h
        → y ≤ℚ over (pos 21) 16 → h *ℚ G ≡ whole (pos 1) → h *ℚ h *ℚ norm ≤ℚ over (pos 1) 256
    second_fits norm y h G free hh low unit =
        linear (norm ∷ y ∷ h ∷ G ∷ [])
        ((free ⊠ hh) ⊠ hh ⊞ (over (pos 9) 3072 *ℚ y *ℚ (h *ℚ G +ℚ whole (pos 1))) · unit ⊞ low ⊠ natural 9 3072)
        (hlevel claims) refl

pub numbers_fit : NumbersFit
numbers_fit product month cell admissible below inside =
    let formed = admissible.well_formed in
    let rules = admissible_obeys product admissible month below in (
      numbers_of product (payment_plan product) month cell formed rules below inside (payment_plan_four product formed),
      numbers_of product (pattern_plan product) month cell formed rules below inside (pattern_plan_four product),
    )
