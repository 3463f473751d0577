-- The rows of tables.
use Rattle.std.specs.Prelude.{◌≡◌, ℕ, zero, suc, ◌+◌, ◌*◌, ◌/◌, ◌%◌, ◌<◌, ◌≤◌, pos, slice_index_or, length}
use Rattle.named_numbers.specs.Numbers.{most_months, most_states}
use Rattle.fixed_interval.specs.declared.printed.Printed.{Printed}
use Rattle.fixed_interval.specs.declared.tables.Table.{Table}
use Rattle.fixed_interval.specs.declared.tables.MomentTable.{MomentTable}
use Rattle.model_specs.specs.Product.{Product}
use Rattle.whole_laws.specs.Whole.{list_of}
use Rattle.report_columns.specs.declared.note.Note.{Note}
use Rattle.report_columns.specs.declared.note.What.{What}
use Rattle.reserve_report.specs.declared.report.Kind.{Kind}
use Rattle.reserve_report.specs.declared.report.Report.{Report}
use Rattle.reserve_report.specs.Reports.{moment_of, what_in}

-- the date of a row is at most the term
abbrev pub IsInTerm : Product → Note → Type 0
IsInTerm p row = row.month ≤ p.months

-- a table of some dates up to a term of at most 1200 months, and of 1 to 12 states
pub record HasTable (t : Table) : Type 0 where
  pub term : ℕ
  pub most_months : term ≤ most_months
  pub some_states : 0 < t.states
  pub most_states : t.states ≤ most_states
  pub every : 0 < t.every
  pub count : length t.cells.items ≡ (term / t.every + 1) * t.states

-- the row at a place of a table
abbrev pub row_at : What → Table → ℕ → Note
row_at what t place =
    let ends = slice_index_or t.cells.items place (record { lo = pos 0; hi = pos 0 }) in
    record { month = place / t.states * t.every; state = place % t.states; what = what; lo = ends.lo; hi = ends.hi }

-- the rows of a report are those of a table, place by place
abbrev pub TellsTable : Kind → Table → Report → Type 0
TellsTable kind t r = r.rows.items ≡ list_of (length t.cells.items) (row_at (what_in kind) t)

-- the first, the second and the third of the tables
abbrev pub table_of : MomentTable → ℕ → Table
table_of t zero = t.first
table_of t (suc zero) = t.second
table_of t (suc (suc k)) = t.variance

-- a row of moments by its place: the three of a date and state before those of the next
abbrev pub moment_row_at : MomentTable → ℕ → Note
moment_row_at t place = row_at (moment_of (place % 3)) (table_of t (place % 3)) (place / 3)

-- a row at issue, about the start state
abbrev pub issue_row_of : Product → What → Printed → Note
issue_row_of p what ends = record { month = 0; state = p.start; what = what; lo = ends.lo; hi = ends.hi }

-- three tables of the same dates and states
pub record HaveTables (t : MomentTable) : Type 0 where
  pub first : HasTable t.first
  pub second : HasTable t.second
  pub variance : HasTable t.variance
  pub second_count : length t.second.cells.items ≡ length t.first.cells.items
  pub variance_count : length t.variance.cells.items ≡ length t.first.cells.items
