-- Tables of a CSV text, and the totals of their entries.
use Rattle.std.proofs.Common.{◌≡◌, ℕ, ◌≤◌, List, length, map, ap, sym, ◌∙◌, arith}
use Rattle.std.specs.Prelude.{All}
use Rattle.std.proofs.lemmas.List.{length-map}
use Rattle.portfolio_run.specs.declared.totals.Total.{Total}
use Rattle.portfolio_run.specs.declared.totals.Totals.{Totals}
use Rattle.portfolio_run.specs.Stored.{most_bytes}
use Rattle.portfolio_run.specs.TotalsText.{HaveText}
use Rattle.portfolio_run.proofs.FileNames.{first_seen_are_few}
use Rattle.portfolio_run.proofs.RecordCounts.{records_are_few}
use Rattle.total_merge.specs.Entries.{Entry, AreWithin, IsInRange}
use Rattle.total_merge.specs.Sums.{groups_of, name_of, HasSums}
use Rattle.total_merge.specs.Tables.{AreEntriesIn}
use Rattle.total_merge.proofs.EntryLists.{are_fewer, are_in_range, are_narrow}
use Rattle.total_merge.proofs.SumLaws.{sums_have_ends, total_is_narrow}

-- the numbers of each entry of a text are in range
pub text_in_range : (text : List ℕ) (entries : List Entry) → AreEntriesIn text entries → All IsInRange entries
text_in_range text entries are = are_in_range are.0 entries are.3

-- no more entries than bytes
pub text_is_few : (text : List ℕ) (entries : List Entry) → AreEntriesIn text entries
    → length entries ≤ length text
text_is_few text entries are =
    omega (arith, are_fewer are.0 entries are.2 are.3, records_are_few text are.0 are.1)

-- the totals of so few entries have a text
pub totals_have_text : (entries : List Entry) (totals : Totals) → All IsInRange entries → length entries ≤ most_bytes
    → map name_of totals.groups.items ≡ groups_of entries → All (HasSums entries) totals.groups.items
    → HaveText totals
totals_have_text entries totals all few named right =
    let names = first_seen_are_few (map (λ entry. entry.group) entries) in
    let groups : length totals.groups.items ≡ length (groups_of entries) =
    sym (length-map totals.groups.items name_of) ∙ ap length named in
    record {
      few = omega (arith, names, groups, length-map entries (λ entry. entry.group), few);
      ends = λ k total within. sums_have_ends entries _ all few (right k total within);
    }

-- no total of the entries of a text is wider than its tolerance
pub totals_are_narrow : (text : List ℕ) (entries : List Entry) (groups : List Total) → AreEntriesIn text entries
    → All (HasSums entries) groups → All (λ total. AreWithin total.lo total.hi total.tol) groups
totals_are_narrow text entries groups are right k total within =
    total_is_narrow entries _ (are_narrow are.0 entries are.3) (right k total within)
