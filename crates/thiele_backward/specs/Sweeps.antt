-- What contracts see of a sweep, and what a sweep keeps.
use Rattle.std.specs.Prelude.{◌≡◌, ℕ, pos, ◌-◌, ◌*◌, ◌^◌, ◌<◌, ◌≤◌, ℤ, min, max, List, length, replicate}
use Rattle.frac_laws.specs.Lists.{Vector}
use Rattle.named_numbers.specs.Numbers.{least_degree, highest_degree}
use Rattle.model_specs.specs.Product.{Product}
use Rattle.model_specs.specs.Payments.{Plan}
use Rattle.model_specs.specs.Ledgers.{scale, radius}
use Rattle.model_specs.specs.ValuationRules.{IsAdmissible}
use Rattle.linear_system.specs.StoredSystem.{StoredSystem}
use Rattle.payment_plan.specs.declared.pattern.Which.{Which}
use Rattle.moment_laws.specs.RunsFrom.{first_from}
use Rattle.rate_bounds.specs.MonthPay.{plan_named}
use Rattle.cell_coeffs.specs.Rows.{IsMadeForFirst}
use Rattle.thiele_backward.specs.MonthRuns.{AreWithin, IsNearAt, HasSome}
use Rattle.thiele_backward.specs.StretchMaps.{MapsOfPlan}

-- where a sweep began: at a date, before its lumps, with a number for each state, in units of 2^-64 at the plan's scale
pub record Beginning : Type 0 where
  pub months_left : ℕ
  pub numbers : List ℤ

-- a sweep of a plan of a product: where it began, its date, and the greatest degree of its months so far, at first the
-- least that there is
pub record BackwardSweep : Type 0 where
  pub product : Product
  pub which : Which
  pub begun : Beginning
  pub months_left : ℕ
  pub degree : ℕ

-- zeros at the term
abbrev pub at_term : Product → Beginning
at_term product = record { months_left = product.months; numbers = replicate (length product.states) (pos 0) }

-- a sweep that begins
abbrev pub begun_sweep : Product → Which → Beginning → BackwardSweep
begun_sweep product which begun = record {
  product = product;
  which = which;
  begun = begun;
  months_left = begun.months_left;
  degree = least_degree;
}

-- the same sweep a month earlier, which took steps of up to a degree
abbrev pub month_earlier : BackwardSweep → ℕ → BackwardSweep
month_earlier s degree = record {
  product = s.product;
  which = s.which;
  begun = s.begun;
  months_left = s.months_left - 1;
  degree = max s.degree degree;
}

-- the plan whose payments are valued
abbrev pub plan_in : BackwardSweep → Plan
plan_in s = plan_named s.which s.product

-- exact values with which a run may begin where the sweep began, and which its first numbers stand for
abbrev pub IsStart : BackwardSweep → Vector → Type 0
IsStart s v = IsNearAt s.product (plan_in s) s.begun.months_left s.begun.numbers v

-- the values of degree n at the sweep's date, before its lumps, of the run from v, in minor units
abbrev pub values_from : BackwardSweep → ℕ → Vector → Vector
values_from s n v = first_from s.product (plan_in s) n (s.product.months - s.begun.months_left) v
    (s.begun.months_left - s.months_left)

-- 1 where a month was gone back, and else 0
abbrev pub spare_units : BackwardSweep → ℕ
spare_units s = min 1 (s.begun.months_left - s.months_left)

-- how far a value lies inside its interval, in units of 2^-64 minor units: one unit at the plan's scale where a month
-- was gone back
abbrev pub spare_of : BackwardSweep → ℕ
spare_of s = spare_units s * 2 ^ scale s.product (plan_in s)

-- how wide the intervals are, in the same units
abbrev pub width_of : BackwardSweep → ℕ
width_of s = 2 * radius s.product s.months_left * 2 ^ scale s.product (plan_in s)

-- what a sweep keeps, with its scale, its radius, its system, the size of its working memory, and its numbers
pub record KeepsRuns (s : BackwardSweep) (g rad : ℕ) (system : StoredSystem) (work : ℕ) (mid : List ℤ) : Type 0 where
  pub admissible : IsAdmissible s.product
  pub begun : s.begun.months_left ≤ s.product.months
  pub left : s.months_left ≤ s.begun.months_left
  pub least : least_degree ≤ s.degree
  pub highest : s.degree ≤ highest_degree
  pub scale_is : g ≡ scale s.product (plan_in s)
  pub scale_most : g ≤ 56
  pub radius_is : rad ≡ radius s.product s.months_left
  pub radius_most : rad < 2 ^ 39
  pub made : IsMadeForFirst s.product system
  pub room : work ≡ length s.product.states
  pub long : length mid ≡ length s.product.states
  pub start : HasSome (IsStart s)
  pub near : (n : ℕ) (v : Vector) → s.degree ≤ n → IsStart s v
      → AreWithin s.product (plan_in s) (rad - spare_units s) (values_from s n v) mid

-- what a sweep keeps with the maps of its months
pub record KeepsSweep (s : BackwardSweep) (g rad : ℕ) (system : StoredSystem) (work : ℕ) (mid : List ℤ)
    (maps : MapsOfPlan) : Type 0 where
  pub runs : KeepsRuns s g rad system work mid
  pub maps_are : maps ≡ record { product = s.product; which = s.which }
