-- What is found of claims by a table of exact numbers. This product's own.
use Rattle.std.specs.Prelude.{◌≡◌, ◌↔◌, ℕ, ◌+◌, ◌*◌, ◌^◌, ◌<◌, ℤ, pos, ◌≤ℤ◌, List, length, slice_index_or, unsigned_abs}
use Rattle.fixed_interval.specs.declared.printed.Printed.{Printed}
use Rattle.fixed_interval.specs.declared.tables.Table.{Table}
use Rattle.fixed_interval.specs.Printing.{AreEndsUpTo}
use Rattle.fixed_interval.specs.Tables.{ends_at}
use Rattle.claim_audit.specs.declared.claims.Claimed.{Claimed}
use Rattle.claim_audit.specs.declared.findings.Claim.{Claim}
use Rattle.claim_audit.specs.declared.finding.Finding.TheVariants as finding
use Rattle.claim_audit.specs.Marks.{IsNear, IsFar}
use Rattle.claim_audit.specs.Readings.{claim_at}

-- the ends of the exact number of which a claim speaks
abbrev pub ends_of : Table → Claimed → Printed
ends_of table claimed = ends_at table claimed.month claimed.state

-- a table of every month has the number of which a claim speaks, and the claim can be marked by it
pub record HasNumber (table : Table) (claimed : Claimed) : Type 0 where
  pub place : claimed.month * table.states + claimed.state < length table.cells.items
  pub ordered : (ends_of table claimed).lo ≤ℤ (ends_of table claimed).hi
  pub small_ends : AreEndsUpTo (2 ^ 79) (ends_of table claimed)
  pub small_claim : unsigned_abs claimed.claim < 2 ^ 120

-- what is found of a claim by the ends of its number
pub record IsFound (claimed : Claimed) (ends : Printed) (eps : ℤ) (claim : Claim) : Type 0 where
  pub month_is : claim.month ≡ claimed.month
  pub state_is : claim.state ≡ claimed.state
  pub claim_is : claim.claim ≡ claimed.claim
  pub lo_is : claim.lo ≡ ends.lo
  pub hi_is : claim.hi ≡ ends.hi
  pub yes : (claim.mark ≡ finding.Yes) ↔ IsNear claimed.claim eps ends.lo ends.hi
  pub no : (claim.mark ≡ finding.No) ↔ IsFar claimed.claim eps ends.lo ends.hi

-- a finding by its place
abbrev pub found_at : List Claim → ℕ → Claim
found_at claims k = slice_index_or claims k
    (record { month = 0; state = 0; claim = pos 0; lo = pos 0; hi = pos 0; mark = finding.Undecided })

-- what is found of each claim, in their order
pub record AreFound (table : Table) (eps : ℤ) (claimed : List Claimed) (claims : List Claim) : Type 0 where
  pub count : length claims ≡ length claimed
  pub each : (k : ℕ) → k < length claimed
      → IsFound (claim_at claimed k) (ends_of table (claim_at claimed k)) eps (found_at claims k)
