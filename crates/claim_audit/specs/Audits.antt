-- An audit of claims about a product. This product's own.
use Rattle.std.specs.Prelude.{◌≡◌, ℕ, ◌^◌, ◌≤◌, ℤ, pos, All, List}
use Rattle.frac_laws.specs.Fraction.{Fraction, whole, ◌*ℚ◌}
use Rattle.frac_laws.specs.Ledger.{tolerance_first}
use Rattle.fixed_interval.specs.declared.tables.Table.{Table}
use Rattle.fixed_interval.specs.Printing.{LiesBetween}
use Rattle.model_specs.specs.Product.{Product}
use Rattle.model_specs.specs.Payments.{payment_plan}
use Rattle.model_specs.specs.Ledgers.{radius, scale}
use Rattle.model_specs.specs.Runs.{reserve}
use Rattle.thiele_backward.specs.Results.{AreReserves}
use Rattle.claim_audit.specs.declared.auditing.Audited.{Audited}
use Rattle.claim_audit.specs.declared.claims.Claimed.{Claimed}
use Rattle.claim_audit.specs.declared.findings.Claim.{Claim}
use Rattle.claim_audit.specs.Findings.{AreFound}
use Rattle.claim_audit.specs.Marks.{SaysOf}
use Rattle.claim_audit.specs.Readings.{AreClaimsIn}

-- the exact reserve of a degree at a date in a state, in minor units
abbrev pub reserve_at : Product → (degree date state : ℕ) → Fraction
reserve_at product = reserve product (payment_plan product)

-- how far the printed ends of a date's reserves may lie apart, in millionths
abbrev pub tolerance_at : Product → (date : ℕ) → ℕ
tolerance_at product date = tolerance_first (radius product date) (scale product (payment_plan product))

-- of each degree from one on, the exact reserve of a claim's date and state lies between its ends, and its mark says
-- how near the claim is to it
pub record IsMarkedRight (product : Product) (degree : ℕ) (eps : ℤ) (claim : Claim) : Type 0 where
  pub holds : (n : ℕ) → degree ≤ n
      → LiesBetween (record { lo = claim.lo; hi = claim.hi }) (reserve_at product n claim.month claim.state)
  pub near : (n : ℕ) → degree ≤ n
      → SaysOf claim.mark claim.claim eps (tolerance_at product claim.month)
      (whole (pos (10 ^ 6)) *ℚ reserve_at product n claim.month claim.state)

-- the claims of a CSV text about a product, each marked by its reserve in a table of the reserves of every month, and
-- each mark right: it implies nearness to the exact reserve of each degree from the table's on
pub record IsAudit (product : Product) (text : List ℕ) (eps : ℤ) (audited : Audited) : Type 0 where
  pub claimed : List Claimed
  pub read : AreClaimsIn product.months product.states text claimed
  pub table : Table
  pub reserves : AreReserves product 1 table
  pub degree_is : audited.degree ≡ table.degree
  pub found : AreFound table eps claimed audited.claims.items
  pub right : All (IsMarkedRight product audited.degree eps) audited.claims.items
