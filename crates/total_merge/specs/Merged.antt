-- The totals of entries by group. This product's own.
use Rattle.std.specs.Prelude.{◌≡◌, List, All, ℕ, length, map}
use Rattle.named_numbers.specs.Numbers.{highest_degree}
use Rattle.portfolio_run.specs.declared.totals.Totals.{Totals}
use Rattle.total_merge.specs.Entries.{Entry, AreWithin}
use Rattle.total_merge.specs.Sums.{groups_of, name_of, HasSums}
use Rattle.total_merge.specs.Tables.{AreEntriesIn}

-- the totals of entries: each group with its sums, in the order in which groups are first seen, and none wider than its
-- tolerance. A table does not tell its degree, so they tell the highest one
pub record AreMerged (entries : List Entry) (totals : Totals) : Type 0 where
  pub degree_is : totals.degree ≡ highest_degree
  pub entries_are : totals.policies ≡ length entries
  pub groups_are : map name_of totals.groups.items ≡ groups_of entries
  pub right : All (HasSums entries) totals.groups.items
  pub narrow : All (λ total. AreWithin total.lo total.hi total.tol) totals.groups.items

-- the totals of the entries of a CSV text
abbrev pub AreMergedIn : (text : List ℕ) → Totals → Type 0
AreMergedIn text totals = (entries : List Entry) × AreEntriesIn text entries × AreMerged entries totals
