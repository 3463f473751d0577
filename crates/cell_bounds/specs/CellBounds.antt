-- What rules 15 to 18 leave of a cell, as bounds on its curves and payments, power by power.
use Rattle.std.specs.Prelude.{ℕ, zero, suc, pos, ◌<◌}
use Rattle.frac_laws.specs.Fraction.{Fraction, over, whole, opposite, size, ◌+ℚ◌, ◌*ℚ◌, ◌≤ℚ◌}
use Rattle.frac_laws.specs.Sums.{sum_to}
use Rattle.frac_laws.specs.Convolution.{convolution}
use Rattle.cell_laws.specs.Tame.{growth_of}
use Rattle.curve_laws.specs.PartLaws.{coefficient_bound}
use Rattle.model_specs.specs.Cells.{CellCurves}
use Rattle.model_specs.specs.Systems.{interest_at, intensity_at, sojourn_rate_at, sum_paid_at}

-- K: the coefficients of a curve in a cell, where the month's Bernstein coefficients are from 0 to 1
abbrev pub rate_bound : ℕ → Fraction
rate_bound m = coefficient_bound 5 (over (pos 1) 32) (whole (pos 1)) (whole (pos 1)) m

-- J: the same where they are from -1 to 1
abbrev pub interest_bound : ℕ → Fraction
interest_bound m = coefficient_bound 5 (over (pos 1) 32) (whole (pos 1)) (whole (pos 2)) m

-- Lam: the same of a payment of load 1
abbrev pub load_bound : ℕ → Fraction
load_bound m = coefficient_bound 5 (over (pos 1) 32) (whole (pos 1)) (over (pos 2) 9) m

-- the mean over the cell of a polynomial of degree 5
abbrev pub mean_at : (ℕ → Fraction) → Fraction
mean_at f = sum_to 6 (λ m. over (pos 1) (suc m) *ℚ f m)

-- a year's rate for a cell
abbrev pub of_cell : Fraction → Fraction
of_cell x = over (pos 1) 384 *ℚ x

-- curves of a cell: rates i j is the greatest Bernstein coefficient of the intensity from i to j over the month, a
-- year; rho, iota and nu are the month's numbers
pub record HasSmallCurves (cell : CellCurves) (rates : ℕ → ℕ → Fraction) (rho iota nu : Fraction) : Type 0 where
  pub rates_natural : (i j : ℕ) → whole (pos 0) ≤ℚ rates i j
  pub exits : (i : ℕ) → i < cell.states → sum_to cell.states (rates i) ≤ℚ rho
  pub intensity : (i j m : ℕ) → size (intensity_at cell i j m) ≤ℚ of_cell (rates i j *ℚ rate_bound m)
  pub means_natural : (i j : ℕ) → whole (pos 0) ≤ℚ mean_at (intensity_at cell i j)
  pub means_most : (i j : ℕ) → mean_at (intensity_at cell i j) ≤ℚ of_cell (rates i j)
  pub interest : (m : ℕ) → size (interest_at cell m) ≤ℚ of_cell (iota *ℚ interest_bound m)
  pub interest_least : of_cell (opposite nu) ≤ℚ mean_at (interest_at cell)
  pub interest_most : mean_at (interest_at cell) ≤ℚ of_cell iota

-- and the month's numbers are small
pub record HasSmallMonth (rho iota nu : Fraction) : Type 0 where
  pub rho_natural : whole (pos 0) ≤ℚ rho
  pub rho_most : rho ≤ℚ whole (pos 2)
  pub iota_natural : whole (pos 0) ≤ℚ iota
  pub iota_most : iota ≤ℚ over (pos 1) 4
  pub nu_natural : whole (pos 0) ≤ℚ nu

-- the growth that is counted covers F by phi, and phi^2 and nu by kappa
pub record CountsGrowth (rho iota nu phi : Fraction) (kappa40 : ℕ) : Type 0 where
  pub first : of_cell (over (pos 5) 2 *ℚ rho +ℚ whole (pos 3) *ℚ iota) ≤ℚ phi
  pub counted : over (pos 9) 16 *ℚ (phi *ℚ phi) +ℚ over (pos 1) 192 *ℚ nu ≤ℚ growth_of kappa40

-- payments of a cell: rate i is the load of the sojourn rate of i, sum i j that of the sum from i to j; no state
-- pays more than x a year, and no sum more than a greatest one
pub record HasSmallPayments (cell : CellCurves) (rates : ℕ → ℕ → Fraction) (rate : ℕ → Fraction)
    (sum : ℕ → ℕ → Fraction) (x greatest : Fraction) : Type 0 where
  pub rate_natural : (i : ℕ) → whole (pos 0) ≤ℚ rate i
  pub sum_natural : (i j : ℕ) → whole (pos 0) ≤ℚ sum i j
  pub sojourn : (i m : ℕ) → size (sojourn_rate_at cell i m) ≤ℚ of_cell (rate i *ℚ load_bound m)
  pub sums : (i j m : ℕ) → size (sum_paid_at cell i j m) ≤ℚ sum i j *ℚ load_bound m
  pub states : (i : ℕ) → i < cell.states
      → rate i +ℚ sum_to cell.states (λ j. rates i j *ℚ sum i j) ≤ℚ x
  pub greatest_sum : (i j : ℕ) → sum i j ≤ℚ greatest

-- the list 1, 0, 0, ..
abbrev pub first_bound : ℕ → Fraction
first_bound zero = whole (pos 1)
first_bound (suc m) = whole (pos 0)

-- K without its first number
abbrev pub later_bound : ℕ → Fraction
later_bound m = coefficient_bound 5 (over (pos 1) 32) (whole (pos 0)) (whole (pos 1)) m

-- transition sums by their greatest size and by how far they are apart over the month, which make up the load
pub record HasSmallSums (cell : CellCurves) (sum largest apart : ℕ → ℕ → Fraction) : Type 0 where
  pub largest_natural : (i j : ℕ) → whole (pos 0) ≤ℚ largest i j
  pub apart_natural : (i j : ℕ) → whole (pos 0) ≤ℚ apart i j
  pub parts : (i j m : ℕ) → size (sum_paid_at cell i j m)
      ≤ℚ largest i j *ℚ first_bound m +ℚ apart i j *ℚ later_bound m
  pub loads : (i j : ℕ) → largest i j +ℚ whole (pos 4) *ℚ apart i j ≤ℚ sum i j
  pub spreads : (i j : ℕ) → whole (pos 9) *ℚ apart i j ≤ℚ whole (pos 2) *ℚ sum i j

-- the coefficients of a product of a curve and a payment
abbrev pub paid_bound : ℕ → Fraction
paid_bound m = convolution rate_bound load_bound m

-- the coefficients of a product of a curve and two payments, each payment by its first number or its later ones
abbrev pub square_bound : (ℕ → Fraction) → (ℕ → Fraction) → ℕ → Fraction
square_bound p q m = convolution (convolution rate_bound p) q m

-- of a curve and a payment of load 1 twice: products of its two parts are at most 1, 1/16 and 4/81
abbrev pub twice_paid_bound : ℕ → Fraction
twice_paid_bound m = square_bound first_bound first_bound m
    +ℚ over (pos 1) 16 *ℚ (square_bound first_bound later_bound m +ℚ square_bound later_bound first_bound m)
    +ℚ over (pos 4) 81 *ℚ square_bound later_bound later_bound m

-- the numbers that bound the curves of a month's cells, and the growth that the ledgers count for it
pub record MonthBounds : Type 0 where
  pub rates : ℕ → ℕ → Fraction
  pub rho : Fraction
  pub iota : Fraction
  pub nu : Fraction
  pub phi : Fraction
  pub kappa40 : ℕ

-- a cell is within them
pub record IsWithinMonth (cell : CellCurves) (month : MonthBounds) : Type 0 where
  pub curves : HasSmallCurves cell month.rates month.rho month.iota month.nu
  pub small : HasSmallMonth month.rho month.iota month.nu
  pub counts : CountsGrowth month.rho month.iota month.nu month.phi month.kappa40

-- the numbers that bound what a plan pays in a month: loads of rates and sums, what a state pays a year at most, the
-- greatest sum, and the greatest size and the spread of each sum
pub record PlanBounds : Type 0 where
  pub rate : ℕ → Fraction
  pub sum : ℕ → ℕ → Fraction
  pub most : Fraction
  pub greatest : Fraction
  pub largest : ℕ → ℕ → Fraction
  pub apart : ℕ → ℕ → Fraction

-- a cell pays within them
pub record PaysWithin (cell : CellCurves) (month : MonthBounds) (plan : PlanBounds) : Type 0 where
  pub payments : HasSmallPayments cell month.rates plan.rate plan.sum plan.most plan.greatest
  pub sums : HasSmallSums cell plan.sum plan.largest plan.apart
  pub most_natural : whole (pos 0) ≤ℚ plan.most
  pub greatest_natural : whole (pos 0) ≤ℚ plan.greatest
