-- What contracts see of a sweep, and what a sweep keeps.
use Rattle.std.specs.Prelude.{◌≡◌, ℕ, ◌+◌, ◌^◌, ◌<◌, ◌≤◌, ℤ, List, length}
use Rattle.named_numbers.specs.Numbers.{least_degree, highest_degree}
use Rattle.model_specs.specs.Product.{Product}
use Rattle.model_specs.specs.Ledgers.{radius_forward}
use Rattle.model_specs.specs.ValuationRules.{IsAdmissible}
use Rattle.linear_system.specs.StoredSystem.{StoredSystem}
use Rattle.cell_coeffs.specs.ForwardColumns.{IsMadeForward}
use Rattle.kolmogorov_forward.specs.MonthRuns.{AreNearAt}

-- a sweep of a product from issue: its date, and the greatest degree of its steps so far, at first the least that
-- there is
pub record ForwardSweep : Type 0 where
  pub product : Product
  pub date : ℕ
  pub degree : ℕ

-- a sweep that begins
abbrev pub begun_sweep : Product → ForwardSweep
begun_sweep product = record { product = product; date = 0; degree = least_degree }

-- the same sweep a month later, with this as its greatest degree
abbrev pub month_later : ForwardSweep → ℕ → ForwardSweep
month_later s degree = record { product = s.product; date = s.date + 1; degree = degree }

-- what a sweep keeps, with its radius, its system, the size of its working memory, and its numbers
pub record KeepsRuns (s : ForwardSweep) (rad : ℕ) (system : StoredSystem) (work : ℕ) (mid : List ℤ) : Type 0 where
  pub admissible : IsAdmissible s.product
  pub within : s.date ≤ s.product.months
  pub least : least_degree ≤ s.degree
  pub highest : s.degree ≤ highest_degree
  pub radius_is : rad ≡ radius_forward s.product s.date
  pub radius_most : rad < 2 ^ 39
  pub made : IsMadeForward s.product system
  pub room : work ≡ length s.product.states
  pub long : length mid ≡ length s.product.states
  pub near : AreNearAt s.product s.degree s.date mid
