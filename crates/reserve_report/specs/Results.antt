-- The results that reports are made of.
use Rattle.std.specs.Prelude.{◌≡◌, ℕ, ◌*◌, ◌^◌, ◌≤◌, pos, ◌≤ℤ◌, length, slice_index_or}
use Rattle.frac_laws.specs.Ledger.{tolerance_first, tolerance_second, tolerance_variance}
use Rattle.fixed_interval.specs.declared.tables.Table.{Table}
use Rattle.fixed_interval.specs.declared.tables.Valued.{Valued}
use Rattle.fixed_interval.specs.declared.tables.MomentTable.{MomentTable}
use Rattle.fixed_interval.specs.declared.tables.PremiumTable.{PremiumTable}
use Rattle.fixed_interval.specs.Printing.{AreEndsUpTo}
use Rattle.fixed_interval.specs.Tables.{IsAnsweredDegree, AreEndsFor, IsValuedFor, IsTableFor, IsTableIn, whole_units}
use Rattle.model_specs.specs.Product.{Product}
use Rattle.model_specs.specs.Payments.{payment_plan, pattern_plan}
use Rattle.model_specs.specs.Ledgers.{radius, radius_forward, second_radius, scale}
use Rattle.model_specs.specs.Rows.{IsPremium, variance}
use Rattle.model_specs.specs.Runs.{reserve, value_before_issue, second_moment, probability, benefits, pattern_value}
use Rattle.report_columns.specs.declared.note.Note.{Note}
use Rattle.report_columns.specs.declared.note.What.TheVariants as what
use Rattle.reserve_report.specs.declared.report.Kind.{Kind}
use Rattle.reserve_report.specs.declared.report.Kind.TheVariants as kind
use Rattle.reserve_report.specs.declared.report.Report.{Report}

-- the value just before issue, in an interval that is at most twice the radius wide
abbrev pub IsValueOf : Product → Valued → Type 0
IsValueOf p valued =
    let plan = payment_plan p in
    IsValuedFor (value_before_issue p plan) (2 * radius p 0 * 2 ^ scale p plan) valued

-- the reserves of all states, no wider than the tolerance of their date
abbrev pub AreReservesOf : Product → Table → Type 0
AreReservesOf p t =
    let plan = payment_plan p in
    IsTableFor p.months (length p.states) t.every (reserve p plan)
    (λ date. tolerance_first (radius p date) (scale p plan)) t

-- the probabilities of all states
abbrev pub AreProbabilitiesOf : Product → Table → Type 0
AreProbabilitiesOf p t = IsTableFor p.months (length p.states) t.every (probability p)
    (λ date. tolerance_first (radius_forward p date) 0) t

-- what a kind of report has one table of; of the others there is none
abbrev pub IsTableOf : Product → Kind → Table → Type 0
IsTableOf p kind.Value t = ⊥
IsTableOf p kind.Reserves t = AreReservesOf p t
IsTableOf p kind.Occupancy t = AreProbabilitiesOf p t
IsTableOf p kind.Moments t = ⊥
IsTableOf p kind.Premium t = ⊥

-- first moments, which are the reserves, second moments and variances, of the same dates and for the same degree
pub record AreMomentsOf (p : Product) (t : MomentTable) : Type 0 where
  pub first : AreReservesOf p t.first
  pub second : IsTableIn whole_units p.months (length p.states) t.first.every (second_moment p)
      (λ date. tolerance_second (second_radius p date) (scale p (payment_plan p))) t.second
  pub variance : IsTableIn whole_units p.months (length p.states) t.first.every (variance p)
      (λ date. tolerance_variance (second_radius p date) (radius p date) (scale p (payment_plan p))) t.variance
  pub second_degree : t.second.degree ≡ t.first.degree
  pub variance_degree : t.variance.degree ≡ t.first.degree

-- the premium lies between its ends, in millionths, in each degree from one on
pub record IsPremiumFor (p : Product) (t : PremiumTable) : Type 0 where
  pub holds : (n : ℕ) → t.degree ≤ n → IsPremium t.premium.lo t.premium.hi (benefits p n) (pattern_value p n)
  pub ordered : t.premium.lo ≤ℤ t.premium.hi
  pub small : AreEndsUpTo (2 ^ 100) t.premium

-- the third row of a report of a premium: the premium itself
abbrev pub premium_row : Report → Note
premium_row r = slice_index_or r.rows.items 2
    (record { month = 0; state = 0; what = what.Premium; lo = pos 0; hi = pos 0 })

-- a report has the degree and the premium of a table
pub record TellsPremium (t : PremiumTable) (r : Report) : Type 0 where
  pub degree : r.degree ≡ t.degree
  pub lo : (premium_row r).lo ≡ t.premium.lo
  pub hi : (premium_row r).hi ≡ t.premium.hi

-- the values of the benefits and of the pattern, no wider than their tolerances, and the premium
pub record IsPremiumOf (p : Product) (t : PremiumTable) : Type 0 where
  pub degree : IsAnsweredDegree t.degree
  pub benefits : AreEndsFor t.degree (benefits p) (tolerance_first (radius p 0) (scale p (payment_plan p))) t.benefits
  pub pattern : AreEndsFor t.degree (pattern_value p) (tolerance_first (radius p 0) (scale p (pattern_plan p)))
      t.pattern
  pub premium : IsPremiumFor p t
