-- What a printed row says: the exact number between its two ends, for every degree from some degree on.
-- This product's own; the variance is V2 - V^2, and the equivalence premium B / P.
use Rattle.std.specs.Prelude.{ℕ, ◌^◌, ◌≤◌, ℤ, pos, ◌-ℤ◌}
use Rattle.frac_laws.specs.Fraction.{Fraction, whole, ◌*ℚ◌, ◌-ℚ◌, ◌≤ℚ◌, ◌<ℚ◌}
use Rattle.frac_laws.specs.Ledger.{tolerance_first, tolerance_second, tolerance_variance}
use Rattle.whole_laws.specs.Whole.{natural_part}
use Rattle.model_specs.specs.Product.{Product}
use Rattle.model_specs.specs.Payments.{payment_plan, pattern_plan}
use Rattle.model_specs.specs.Ledgers.{scale, radius, radius_forward, second_radius}
use Rattle.model_specs.specs.Runs.{reserve, value_before_issue, benefits, pattern_value, second_moment}
use Rattle.model_specs.specs.Runs.{probability}

-- the kinds of numbers that a row may hold
pub data RowKind : Type 0 where
  Value : RowKind
  Reserve : RowKind
  Occupancy : RowKind
  First : RowKind
  Second : RowKind
  Variance : RowKind
  Benefits : RowKind
  Pattern : RowKind
  Premium : RowKind

-- a printed row: its kind, date and state, and the two ends, in whole units of its kind
pub record Row : Type 0 where
  pub kind : RowKind
  pub month : ℕ
  pub state : ℕ
  pub lo : ℤ
  pub hi : ℤ

-- the variance of the payments after a date: V2 - V^2, in squared minor units
abbrev pub variance : Product → ℕ → ℕ → ℕ → Fraction
variance product n date state =
    let v = reserve product (payment_plan product) n date state in
    second_moment product n date state -ℚ v *ℚ v

-- x lies between the two ends of a row, which are in units of 1 / unit
pub record IsBetween (lo hi : ℤ) (unit : ℕ) (x : Fraction) : Type 0 where
  pub at_least : whole lo ≤ℚ whole (pos unit) *ℚ x
  pub at_most : whole (pos unit) *ℚ x ≤ℚ whole hi

-- the equivalence premium B / P lies between the ends, and P is above 0
pub record IsPremium (lo hi : ℤ) (b p : Fraction) : Type 0 where
  pub pays : whole (pos 0) <ℚ p
  pub at_least : whole lo *ℚ p ≤ℚ whole (pos (10 ^ 6)) *ℚ b
  pub at_most : whole (pos (10 ^ 6)) *ℚ b ≤ℚ whole hi *ℚ p

-- what a row of a kind says of the run of degree n, at the row's date and state
abbrev pub HoldsAtDegree : Product → ℕ → Row → RowKind → Type 0
HoldsAtDegree product n row Value =
    IsBetween row.lo row.hi (10 ^ 6) (value_before_issue product (payment_plan product) n)
HoldsAtDegree product n row Reserve =
    IsBetween row.lo row.hi (10 ^ 6) (reserve product (payment_plan product) n row.month row.state)
HoldsAtDegree product n row First =
    IsBetween row.lo row.hi (10 ^ 6) (reserve product (payment_plan product) n row.month row.state)
HoldsAtDegree product n row Occupancy =
    IsBetween row.lo row.hi (10 ^ 6) (probability product n row.month row.state)
HoldsAtDegree product n row Second = IsBetween row.lo row.hi 1 (second_moment product n row.month row.state)
HoldsAtDegree product n row Variance = IsBetween row.lo row.hi 1 (variance product n row.month row.state)
HoldsAtDegree product n row Benefits = IsBetween row.lo row.hi (10 ^ 6) (benefits product n)
HoldsAtDegree product n row Pattern = IsBetween row.lo row.hi (10 ^ 6) (pattern_value product n)
HoldsAtDegree product n row Premium = IsPremium row.lo row.hi (benefits product n) (pattern_value product n)

-- a row holds from a degree on
abbrev pub Holds : Row → Product → ℕ → Type 0
Holds row product least = (n : ℕ) → least ≤ n → HoldsAtDegree product n row row.kind

-- the tolerance of a row, by its kind: how far its ends may lie apart, in the row's own unit
abbrev pub tolerance_of : Product → Row → RowKind → ℕ
tolerance_of product row Value = tolerance_first (radius product 0) (scale product (payment_plan product))
tolerance_of product row Reserve =
    tolerance_first (radius product row.month) (scale product (payment_plan product))
tolerance_of product row First =
    tolerance_first (radius product row.month) (scale product (payment_plan product))
tolerance_of product row Occupancy = tolerance_first (radius_forward product row.month) 0
tolerance_of product row Second =
    tolerance_second (second_radius product row.month) (scale product (payment_plan product))
tolerance_of product row Variance = tolerance_variance (second_radius product row.month)
    (radius product row.month) (scale product (payment_plan product))
tolerance_of product row Benefits = tolerance_first (radius product 0) (scale product (payment_plan product))
tolerance_of product row Pattern = tolerance_first (radius product 0) (scale product (pattern_plan product))
tolerance_of product row Premium = natural_part (row.hi -ℤ row.lo)

-- the tolerance of a row, by its own kind
abbrev pub tolerance : Product → Row → ℕ
tolerance product row = tolerance_of product row row.kind
