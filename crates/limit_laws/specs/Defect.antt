-- In each cell the run of an admissible product solves the equations but for powers from x^n on, which are small.
use Rattle.std.specs.Prelude.{◌≡◌, ℕ, suc, pos, ◌-◌, ◌^◌, ◌<◌, ◌≤◌}
use Rattle.frac_laws.specs.Fraction.{Fraction, over, whole, size, ◌*ℚ◌, ◌≤ℚ◌}
use Rattle.frac_laws.specs.Sums.{sum_to}
use Rattle.frac_laws.specs.Lists.{Vector, number_at}
use Rattle.frac_laws.specs.Polynomials.{value_at}
use Rattle.frac_laws.specs.Norms.{Norm, Sup, Sum, norm_of_vector}
use Rattle.cell_laws.specs.Systems.{coefficient}
use Rattle.cell_laws.specs.Pairs.{second_coefficient}
use Rattle.whole_laws.specs.Whole.{list_of}
use Rattle.model_specs.specs.Product.{Product}
use Rattle.model_specs.specs.Payments.{Plan, payment_plan, pattern_plan}
use Rattle.model_specs.specs.Cells.{CellCurves}
use Rattle.model_specs.specs.Systems.{thiele_system, norberg_pair, kolmogorov_system}
use Rattle.product_cells.specs.EachCell.{backward_cell, forward_cell, plan_scaling}
use Rattle.probability_laws.specs.ProbabilityLaws.{probabilities_after}
use Rattle.moment_laws.specs.CellRuns.{first_after_cells}
use Rattle.moment_laws.specs.SecondMomentLaws.{moments_after_cells}
use Rattle.sweep_laws.specs.ScaledSteps.{scaled_first, both_second, next_cell}
use Rattle.limit_laws.specs.Modulus.{OfEachProduct}
use Rattle.limit_laws.specs.WrittenEquations.{Polynomial, ◌·ₚ◌, with_payments_times}
use Rattle.limit_laws.specs.WrittenEquations.{thiele_defect, norberg_defect, kolmogorov_defect}

-- the polynomial of a state with the coefficients 0 to n of a run
abbrev pub run_polynomial : (ℕ → Vector) → (n state : ℕ) → Polynomial
run_polynomial y n state = list_of (suc n) (λ k. number_at (y k) state)

-- polynomials are those of a run: at 0 they have its values before the cell, and at 1 those after it
pub record FollowsRun (p : ℕ → Polynomial) (before after : Vector) : Type 0 where
  pub starts : (state : ℕ) → value_at (p state) (whole (pos 0)) ≡ number_at before state
  pub ends : (state : ℕ) → value_at (p state) (whole (pos 1)) ≡ number_at after state

-- the coefficients of a defect at one power, state by state
abbrev pub defect_at : (states : ℕ) → (ℕ → Polynomial) → (power : ℕ) → Vector
defect_at states defect power = list_of states (λ state. number_at (defect state) power)

-- a defect has nothing below x^n, and the norms of its coefficients, power by power, add up to at most 8^-n, however
-- many powers are added
pub record IsSmallDefect (norm : Norm) (states n : ℕ) (defect : ℕ → Polynomial) : Type 0 where
  pub below : (k state : ℕ) → k < n → state < states → number_at (defect state) k ≡ whole (pos 0)
  pub total : (powers : ℕ)
      → sum_to powers (λ k. norm_of_vector norm (defect_at states defect k)) ≤ℚ over (pos 1) (8 ^ n)

-- at each x from 0 to 1 the equation of a state then fails by at most 8^-n
abbrev pub DefectValuesAreSmall : Type 0
DefectValuesAreSmall = (norm : Norm) (states n : ℕ) (defect : ℕ → Polynomial) → IsSmallDefect norm states n defect
    → (state : ℕ) (x : Fraction) → state < states → whole (pos 0) ≤ℚ x → x ≤ℚ whole (pos 1)
    → size (value_at (defect state) x) ≤ℚ over (pos 1) (8 ^ n)

-- the cell that comes next, after some cells of the month that ends some months before the term
abbrev pub cell_after : Product → Plan → (months done : ℕ) → CellCurves
cell_after product plan months done = backward_cell product plan (product.months - suc months) (next_cell done)

-- its run of the first moments, divided by G
abbrev pub first_run : Product → Plan → (n months done : ℕ) → ℕ → Polynomial
first_run product plan n months done state = plan_scaling product plan
    ·ₚ run_polynomial (coefficient (thiele_system (cell_after product plan months done))
    (first_after_cells product plan n months done)) n state

-- in each degree from 8 on it leaves a small defect of Thiele's equation with payments divided by G, in each cell
abbrev pub NearlySolvesThiele : Product → Plan → Type 0
NearlySolvesThiele product plan = (n months done : ℕ) → 8 ≤ n → months < product.months → done < 32
    → let cell = cell_after product plan months done in
    IsSmallDefect Sup cell.states n
    (thiele_defect (with_payments_times (plan_scaling product plan) cell) (first_run product plan n months done))

-- the run of the second moments beside it, divided by G^2
abbrev pub second_run : Product → (n months done : ℕ) → ℕ → Polynomial
second_run product n months done state =
    let plan = payment_plan product in
    let v = moments_after_cells product plan n months done in
    (plan_scaling product plan *ℚ plan_scaling product plan)
    ·ₚ run_polynomial (second_coefficient (norberg_pair (cell_after product plan months done)) v.first v.second) n state

-- both leave a small defect of Norberg's equation with payments divided by G
abbrev pub NearlySolvesNorberg : Product → Type 0
NearlySolvesNorberg product = (n months done : ℕ) → 8 ≤ n → months < product.months → done < 32
    → let plan = payment_plan product in let cell = cell_after product plan months done in
    IsSmallDefect Sup cell.states n (norberg_defect (with_payments_times (plan_scaling product plan) cell)
    (first_run product plan n months done) (second_run product n months done))

-- the run of the probabilities over the cell that comes after some cells of a month
abbrev pub probability_run : Product → (n month cells : ℕ) → ℕ → Polynomial
probability_run product n month cells state = run_polynomial
    (coefficient (kolmogorov_system (forward_cell product month cells)) (probabilities_after product n month cells)) n
    state

-- it leaves a small defect of Kolmogorov's equation
abbrev pub NearlySolvesKolmogorov : Product → Type 0
NearlySolvesKolmogorov product = (n month cells : ℕ) → 8 ≤ n → month < product.months → cells < 32
    → let cell = forward_cell product month cells in
    IsSmallDefect Sum cell.states n (kolmogorov_defect cell (probability_run product n month cells))

-- so it is for every admissible product: of the payment plan
abbrev pub PlanDefectsAreSmall : Type 0
PlanDefectsAreSmall = OfEachProduct (λ product. NearlySolvesThiele product (payment_plan product))

-- of the premium pattern
abbrev pub PatternDefectsAreSmall : Type 0
PatternDefectsAreSmall = OfEachProduct (λ product. NearlySolvesThiele product (pattern_plan product))

-- of the second moments
abbrev pub NorbergDefectsAreSmall : Type 0
NorbergDefectsAreSmall = OfEachProduct NearlySolvesNorberg

-- and of the probabilities
abbrev pub KolmogorovDefectsAreSmall : Type 0
KolmogorovDefectsAreSmall = OfEachProduct NearlySolvesKolmogorov

-- the polynomials are those of the runs, of any product and in every degree: of the first moments
abbrev pub FirstPolynomialsFollow : Type 0
FirstPolynomialsFollow = (product : Product) (plan : Plan) (n months done : ℕ)
    → FollowsRun (first_run product plan n months done)
    (scaled_first product plan n months done) (scaled_first product plan n months (suc done))

-- of the second ones
abbrev pub SecondPolynomialsFollow : Type 0
SecondPolynomialsFollow = (product : Product) (n months done : ℕ)
    → FollowsRun (second_run product n months done)
    (both_second product n months done) (both_second product n months (suc done))

-- and of the probabilities
abbrev pub ProbabilityPolynomialsFollow : Type 0
ProbabilityPolynomialsFollow = (product : Product) (n month cells : ℕ)
    → FollowsRun (probability_run product n month cells)
    (probabilities_after product n month cells) (probabilities_after product n month (suc cells))
