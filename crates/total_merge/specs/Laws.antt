-- What holds of sums of entries. This product's own.
use Rattle.std.specs.Prelude.{◌≡◌, ℕ, ◌≤◌, pos, ◌+ℤ◌, ◌≤ℤ◌, List, All, IsPermutation, map}
use Rattle.frac_laws.specs.Fraction.{Fraction}
use Rattle.fixed_interval.specs.declared.printed.Printed.{Printed}
use Rattle.fixed_interval.specs.Printing.{LiesBetween}
use Rattle.named_numbers.specs.Numbers.{highest_degree}
use Rattle.portfolio_run.specs.declared.totals.Total.{Total}
use Rattle.portfolio_run.specs.Stored.{Portfolio}
use Rattle.portfolio_run.specs.Sums.{sum_where}
use Rattle.portfolio_run.specs.Totals.{greatest_degree, group_value, IsTotal}
use Rattle.portfolio_run.specs.Values.{IsValued}
use Rattle.total_merge.specs.Entries.{Entry, kept_entry, IsNarrow}
use Rattle.total_merge.specs.Sums.{hi_of, is_of, lo_of, tol_of}

-- an entry, and a number that its interval holds, in minor units
pub record Held : Type 0 where
  pub entry : Entry
  pub value : Fraction

-- the ends of an entry
abbrev pub ends_of : Entry → Printed
ends_of entry = record { lo = entry.lo; hi = entry.hi }

-- the interval of an entry holds its number
abbrev pub IsHeld : Held → Type 0
IsHeld held = LiesBetween (ends_of held.entry) held.value

-- where each interval holds a number, the interval of a group holds the sum of the numbers of its entries
abbrev pub SumsAreHeld : Type 0
SumsAreHeld = (held : List Held) → All IsHeld held → (name : List ℕ)
    → LiesBetween (record { lo = lo_of name (map (λ h. h.entry) held); hi = hi_of name (map (λ h. h.entry) held) })
    (sum_where (λ h. is_of name h.entry) (λ h. h.value) held)

-- where those of each entry are not, those of a group are not
abbrev pub SumsAreNarrow : Type 0
SumsAreNarrow = (entries : List Entry) → All IsNarrow entries → (name : List ℕ)
    → hi_of name entries ≤ℤ (lo_of name entries +ℤ pos (tol_of name entries))

-- entries have the sums of others
pub record HaveSameSums (entries other : List Entry) : Type 0 where
  pub lo : (name : List ℕ) → lo_of name entries ≡ lo_of name other
  pub hi : (name : List ℕ) → hi_of name entries ≡ hi_of name other
  pub tol : (name : List ℕ) → tol_of name entries ≡ tol_of name other

-- entries in another order have the same sums
abbrev pub OrderMattersNot : Type 0
OrderMattersNot = (entries other : List Entry) → IsPermutation entries other → HaveSameSums entries other

-- from the highest degree of a table on, a total of a valued portfolio holds the exact value of its group
abbrev pub TotalsAreHeld : Type 0
TotalsAreHeld = (portfolio : Portfolio) (total : Total) → All IsValued portfolio.valued
    → IsTotal portfolio (greatest_degree portfolio.valued) total → (n : ℕ) → highest_degree ≤ n
    → IsHeld (record { entry = kept_entry total; value = group_value portfolio n total.name.items })
