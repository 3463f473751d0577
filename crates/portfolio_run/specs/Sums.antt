-- Sums over holdings as they are kept, group by group. This product's own.
use Rattle.std.specs.Prelude.{◌≡◌, ℕ, ◌+◌, ◌*◌, ◌^◌, ◌<◌, ◌≤◌, pos, ◌+ℤ◌, ◌≤ℤ◌, ◌==◌, Bool, List, All, length, fold}
use Rattle.std.specs.Prelude.{take, slice_get, slice_index_or, unsigned_abs, Option, Some, None, if◌then◌else◌, ⊤}
use Rattle.frac_laws.specs.Fraction.{Fraction, whole, ◌+ℚ◌, ◌*ℚ◌}
use Rattle.fixed_interval.specs.Printing.{LiesBetween}
use Rattle.claim_audit.specs.Audits.{reserve_at, tolerance_at}
use Rattle.portfolio_run.specs.declared.policies.Policy.{Policy}
use Rattle.portfolio_run.specs.declared.sums.Sum.{Sum}
use Rattle.portfolio_run.specs.declared.reading.PolicyError.{PolicyError}
use Rattle.portfolio_run.specs.declared.reading.PolicyError.TheVariants as error
use Rattle.portfolio_run.specs.declared.valued.Missing.{Missing}
use Rattle.portfolio_run.specs.Names.{place_in}
use Rattle.portfolio_run.specs.Values.{HasReserve, IsMissing, ValuedProduct, part_of_missing}

-- the sum of the values of those items that belong to it
abbrev pub sum_where : {A : Type 0} (belongs : A → Bool) (value : A → Fraction) → List A → Fraction
sum_where belongs value items =
    fold (λ total item. if belongs item then total +ℚ value item else total) (whole (pos 0)) items

-- the same of whole numbers
abbrev pub total_where : {A : Type 0} (belongs : A → Bool) (value : A → ℕ) → List A → ℕ
total_where belongs value items = fold (λ total item. if belongs item then total + value item else total) 0 items

-- so many reserves of a date and of the state with a name in a degree, in minor units
abbrev pub value_by : Option ValuedProduct → (n month : ℕ) → (state : List ℕ) → (count : ℕ) → Fraction
value_by None n month state count = whole (pos 0)
value_by (Some valued) n month state count =
    whole (pos count) *ℚ reserve_at valued.product n month (place_in valued.product.states state)

-- so many tolerances of a date, in millionths
abbrev pub tolerance_by : Option ValuedProduct → (month count : ℕ) → ℕ
tolerance_by None month count = 0
tolerance_by (Some valued) month count = count * tolerance_at valued.product month

-- the value of a holding as it is kept
abbrev pub kept_value : List ValuedProduct → (n : ℕ) → Policy → Fraction
kept_value valued n policy =
    value_by (slice_get valued policy.file) n policy.month policy.state.items policy.count

-- and its tolerance
abbrev pub kept_tolerance : List ValuedProduct → Policy → ℕ
kept_tolerance valued policy = tolerance_by (slice_get valued policy.file) policy.month policy.count

-- a degree is that of each table, or above it
abbrev pub AreReached : (n : ℕ) → List ValuedProduct → Type 0
AreReached n valued = All (λ v. v.degree ≤ n) valued

-- the ends and the tolerance of the sum of a group over holdings
pub record IsSum (valued : List ValuedProduct) (policies : List Policy) (group : ℕ) (sum : Sum) : Type 0 where
  pub holds : (n : ℕ) → AreReached n valued
      → LiesBetween (record { lo = sum.lo; hi = sum.hi })
      (sum_where (λ policy. policy.group == group) (kept_value valued n) policies)
  pub narrow : sum.hi ≤ℤ (sum.lo +ℤ pos sum.tol)
  pub tolerance_is : sum.tol ≡ total_where (λ policy. policy.group == group) (kept_tolerance valued) policies
  pub small_lo : unsigned_abs sum.lo ≤ length policies * 2 ^ 99
  pub small_hi : unsigned_abs sum.hi ≤ length policies * 2 ^ 99
  pub small_tol : sum.tol ≤ length policies * 2 ^ 99

-- a file's product has the reserve of a holding as it is kept
pub record IsCovered (valued : List ValuedProduct) (policy : Policy) : Type 0 where
  pub by : ValuedProduct
  pub file : slice_get valued policy.file ≡ Some by
  pub has : HasReserve by.product policy.month policy.state.items

-- a sum by its place
abbrev pub sum_at : List Sum → ℕ → Sum
sum_at sums group = slice_index_or sums group (record { lo = pos 0; hi = pos 0; tol = 0 })

-- the sums of all groups over holdings
pub record AreSums (valued : List ValuedProduct) (policies : List Policy) (groups : ℕ) (sums : List Sum)
    : Type 0 where
  pub count : length sums ≡ groups
  pub each : (group : ℕ) → group < groups → IsSum valued policies group (sum_at sums group)
  pub covered : All (IsCovered valued) policies

-- a holding has a file and a group, of so many, and a count that may be
pub record HasPlace (files groups : ℕ) (policy : Policy) : Type 0 where
  pub file : policy.file < files
  pub group : policy.group < groups
  pub count : policy.count ≤ 10 ^ 6

-- a holding by its place, of which something is missing first
pub record IsFirstMissing (valued : List ValuedProduct) (policies : List Policy) (row part : ℕ) : Type 0 where
  pub place : ℕ
  pub row_is : row ≡ place + 1
  pub policy : Policy
  pub here : slice_get policies place ≡ Some policy
  pub before : All (IsCovered valued) (take place policies)
  pub by : ValuedProduct
  pub file : slice_get valued policy.file ≡ Some by
  pub missing : Missing
  pub part_is : part ≡ part_of_missing missing
  pub is_missing : IsMissing by.product policy.month policy.state.items missing

-- an error tells of the first row of which something is missing, or of nothing
abbrev pub TellsMissing : List ValuedProduct → List Policy → PolicyError → Type 0
TellsMissing valued policies (error.Row found) = IsFirstMissing valued policies found.row found.part
TellsMissing valued policies error.Memory = ⊤
