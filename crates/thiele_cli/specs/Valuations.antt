-- Reports of valuations, and their degree where nothing varies.
use Rattle.std.specs.Prelude.{ℕ, ◌+◌, ◌≤◌}
use Rattle.named_numbers.specs.Numbers.{least_degree}
use Rattle.model_specs.specs.Product.{Product}
use Rattle.model_specs.specs.Payments.{payment_plan}
use Rattle.reserve_report.specs.declared.report.Kind.{Kind}
use Rattle.reserve_report.specs.declared.report.Kind.TheVariants as kind
use Rattle.reserve_report.specs.declared.report.Report.{Report}
use Rattle.reserve_report.specs.Reports.{IsReport}
use Rattle.thiele_backward.specs.Results.{AreConstantMonths}

-- the greatest degree of a kind of report where no rate and no payment varies over any month of the term: 8, and 9 of
-- moments
abbrev pub constant_degree : Kind → ℕ
constant_degree kind.Value = least_degree
constant_degree kind.Reserves = least_degree
constant_degree kind.Occupancy = least_degree
constant_degree kind.Moments = least_degree + 1
constant_degree kind.Premium = least_degree

-- a right report, with no higher degree than that where nothing varies
pub record IsValuation (product : Product) (kind : Kind) (every : ℕ) (report : Report) : Type 0 where
  pub is_report : IsReport product kind every report
  pub degree : AreConstantMonths product (payment_plan product) → report.degree ≤ constant_degree kind
