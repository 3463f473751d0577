-- A report of a result is right for the dates that were asked for, and has its degree.
use Rattle.std.proofs.Common.{◌≡◌, ℕ, ◌≤◌, sym, subst}
use Rattle.fixed_interval.specs.declared.tables.MomentTable.{MomentTable}
use Rattle.model_specs.specs.Product.{Product}
use Rattle.model_specs.specs.Payments.{payment_plan}
use Rattle.moment_equations.specs.Results.{AreMoments}
use Rattle.reserve_report.specs.declared.report.Kind.{Kind}
use Rattle.reserve_report.specs.declared.report.Report.{Report}
use Rattle.reserve_report.specs.Reports.{IsReport}
use Rattle.reserve_report.specs.Results.{AreMomentsOf}
use Rattle.thiele_backward.specs.Results.{AreConstantMonths}
use Rattle.thiele_cli.specs.Valuations.{IsValuation, constant_degree}

-- the report of a result of some degree, about dates that lie so many months apart
pub valuation_of : (product : Product) (kind : Kind) (report : Report) (dates every degree : ℕ) → dates ≡ every
    → IsReport product kind dates report → report.degree ≡ degree
    → (AreConstantMonths product (payment_plan product) → degree ≤ constant_degree kind)
    → IsValuation product kind every report
valuation_of product kind report dates every degree same right is constant = record {
  is_report = subst (λ months. IsReport product kind months report) same right;
  degree = λ all. subst (λ d. d ≤ constant_degree kind) (sym is) (constant all);
}

-- such tables can be reported
pub moments_of : (product : Product) (every : ℕ) (t : MomentTable) → AreMoments product every t
    → AreMomentsOf product t
moments_of product every t h =
    let found : AreMoments product t.first.every t =
    subst (λ months. AreMoments product months t) (sym h.first.every_is) h in
    record {
      first = found.first;
      second = found.second;
      variance = found.variance;
      second_degree = found.second_degree;
      variance_degree = found.variance_degree;
    }
