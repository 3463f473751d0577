-- A sweep of rounded steps of both moments stays within both radius ledgers of the exact run.
use Rattle.std.specs.Prelude.{◌≡◌, ℕ, suc, pos, ◌+◌, ◌-◌, ◌^◌, ◌<◌, ◌≤◌, [], length}
use Rattle.frac_laws.specs.Fraction.{Fraction, whole, size, ◌+ℚ◌, ◌-ℚ◌, ◌*ℚ◌, ◌≤ℚ◌}
use Rattle.frac_laws.specs.Ledger.{grow}
use Rattle.frac_laws.specs.Lists.{Vector, SameNumbers, number_at, add_lists, scale_list}
use Rattle.frac_laws.specs.Norms.{Sup, norm_of_vector}
use Rattle.cell_laws.specs.Systems.{taylor_value}
use Rattle.cell_laws.specs.Pairs.{CoupledPair, second_taylor_value}
use Rattle.cell_laws.specs.ErrorLaws.{distance}
use Rattle.model_specs.specs.Product.{Product}
use Rattle.model_specs.specs.Payments.{payment_plan, lump_at, lumps_at}
use Rattle.model_specs.specs.Growth.{kappa40}
use Rattle.model_specs.specs.Ledgers.{scale, radius_before_term, second_before_term}
use Rattle.model_specs.specs.Systems.{norberg_pair}
use Rattle.model_specs.specs.Runs.{lump_vector, moments_before_term}
use Rattle.model_specs.specs.ValuationRules.{IsAdmissible}
use Rattle.ledger_laws.specs.BeforeTermLaws.{radius_cells, second_cells}
use Rattle.cell_bounds.specs.ScaledSystems.{scaled_pair}
use Rattle.product_cells.specs.EachCell.{backward_cell, plan_scaling}
use Rattle.product_laws.specs.TameCells.{coupling_of}
use Rattle.sweep_laws.specs.ScaledSteps.{both_first, both_second, next_cell}
use Rattle.sweep_laws.specs.SweepLaws.{units}

-- what a rounded step of a pair promises; taken is any whole number of at least c times the first radius
abbrev pub AnswersPairCell : CoupledPair → ℕ → Fraction → ℕ → (w0 z0 w1 z1 : Vector) → Type 0
AnswersPairCell p kappa c n w0 z0 w1 z1 = (w z : Vector) (radius second taken : ℕ)
    → length w ≤ p.first.dimension → length z ≤ p.second.dimension
    → norm_of_vector Sup w ≤ℚ whole (pos 1) → norm_of_vector Sup z ≤ℚ whole (pos 1)
    → distance Sup w w0 ≤ℚ units radius → distance Sup z z0 ≤ℚ units second → radius ≤ 2 ^ 45 → second ≤ 2 ^ 45
    → c *ℚ whole (pos radius) ≤ℚ whole (pos taken)
    → (distance Sup (taylor_value p.first w n) w1 ≤ℚ units (grow radius kappa 1023))
    × (distance Sup (second_taylor_value p w z n) z1 ≤ℚ units (grow second kappa (taken + 1023)))

-- what a date does to the stored second moments: z + 2 (l / G) w + (l / G)^2 of the stored ones, within 4 units, and
-- nothing where it has no lumps
pub record AnswersDate (product : Product) (date : ℕ) (w0 z0 z1 : Vector) : Type 0 where
  pub fits : length z1 ≤ length product.states
  pub no_lumps : lumps_at (length product.states) (payment_plan product) date ≡ [] → SameNumbers z1 z0
  pub lumps : (i : ℕ) → i < length product.states →
      let l = plan_scaling product (payment_plan product) *ℚ whole (lump_at (payment_plan product) date i) in
      size (number_at z1 i -ℚ (number_at z0 i +ℚ whole (pos 2) *ℚ l *ℚ number_at w0 i +ℚ l *ℚ l)) ≤ℚ units 4

-- a backward sweep of both moments: w and z at dates, and after some cells of the month before a date
pub record IsPairSweep (product : Product) (n : ℕ) (w z : ℕ → Vector) (w_in z_in : ℕ → ℕ → Vector) : Type 0 where
  pub first_term : w 0 ≡ []
  pub second_term : z 0 ≡ []
  pub first_lumps : (months : ℕ) → months < product.months → w_in months 0
      ≡ add_lists (w months) (scale_list (plan_scaling product (payment_plan product))
      (lump_vector product (payment_plan product) (suc (product.months - suc months))))
  pub second_lumps : (months : ℕ) → months < product.months
      → AnswersDate product (suc (product.months - suc months)) (w months) (z months) (z_in months 0)
  pub steps : (months done : ℕ) → months < product.months → done < 32
      → let month = product.months - suc months in let plan = payment_plan product in
      AnswersPairCell (scaled_pair (plan_scaling product plan)
      (norberg_pair (backward_cell product plan month (next_cell done))))
      (kappa40 product month) (coupling_of product plan month) n
      (w_in months done) (z_in months done) (w_in months (suc done)) (z_in months (suc done))
  pub first_months : (months : ℕ) → months < product.months → w (suc months) ≡ w_in months 32
  pub second_months : (months : ℕ) → months < product.months → z (suc months) ≡ z_in months 32

-- both radii at a date, and after some cells
pub record PairStaysNear (product : Product) (n : ℕ) (w z : ℕ → Vector) (w_in z_in : ℕ → ℕ → Vector) : Type 0 where
  pub at_dates : (months : ℕ) → months ≤ product.months
      → let plan = payment_plan product in let h = plan_scaling product plan in
      let v = moments_before_term product plan n months in
      (distance Sup (scale_list h v.first) (w months) ≤ℚ units (radius_before_term product months))
      × (distance Sup (scale_list (h *ℚ h) v.second) (z months)
      ≤ℚ units (second_before_term product plan (2 ^ scale product plan) months))
  pub in_cells : (months done : ℕ) → months < product.months → done ≤ 32
      → let plan = payment_plan product in
      (distance Sup (both_first product n months done) (w_in months done) ≤ℚ units (radius_cells product months done))
      × (distance Sup (both_second product n months done) (z_in months done)
      ≤ℚ units (second_cells product plan (2 ^ scale product plan) months done))

-- so each such sweep does, in each degree from 6 on
abbrev pub PairSweepsStayNear : Type 0
PairSweepsStayNear = (product : Product) (n : ℕ) → IsAdmissible product → 6 ≤ n
    → (w z : ℕ → Vector) (w_in z_in : ℕ → ℕ → Vector)
    → IsPairSweep product n w z w_in z_in → PairStaysNear product n w z w_in z_in
