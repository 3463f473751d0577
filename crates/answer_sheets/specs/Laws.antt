-- Laws of the sheets: no row of an answer is left out, and in JSON no field.
use Rattle.std.specs.Prelude.{◌≡◌, ℕ, List, codes, length, pos, slice_get, slice_index_or, Some, []}
use Rattle.std.specs.Str.Lossy.{utf8_lossy}
use Rattle.decimal_out.specs.Millionths.{millionths, millionths_of_size}
use Rattle.model_specs.specs.Product.{Product}
use Rattle.report_columns.specs.declared.note.Note.{Note}
use Rattle.report_columns.specs.Lines.{in_format, word_of}
use Rattle.reserve_report.specs.declared.report.Report.{Report}
use Rattle.reserve_report.specs.ReportText.{state_name}
use Rattle.reserve_report.specs.Reports.{HasText}
use Rattle.basis_compare.specs.declared.change_rows.Change.{Change}
use Rattle.basis_compare.specs.declared.change_rows.Changes.{Changes}
use Rattle.basis_compare.specs.ChangesText.{part_word, turn_word}
use Rattle.claim_audit.specs.declared.auditing.Audited.{Audited}
use Rattle.claim_audit.specs.declared.findings.Claim.{Claim}
use Rattle.claim_audit.specs.AuditText.{mark_word}
use Rattle.portfolio_run.specs.declared.totals.Total.{Total}
use Rattle.portfolio_run.specs.declared.totals.Totals.{Totals}
use Rattle.serde_json.specs.Data.{Data, Members, member, no_members, number, object, string, unsigned}
use Rattle.row_sheets.specs.JsonText.{row_tree}
use Rattle.row_sheets.specs.Sheets.{Cell}
use Rattle.answer_sheets.specs.AuditSheet.{audit_head, audit_sheet_of, claim_row}
use Rattle.answer_sheets.specs.ChangesSheet.{change_row, changes_head, changes_sheet_of}
use Rattle.answer_sheets.specs.ReportSheet.{report_head, report_row, report_sheet_of}
use Rattle.answer_sheets.specs.TotalsSheet.{total_row, totals_head, totals_sheet_of}

-- there are as many rows as items, and each is that of the item in its place
pub record AreRowsOf {A : Type 0} (row_of : A → List Cell) (items : List A) (rows : List (List Cell)) : Type 0 where
  pub count : length rows ≡ length items
  pub each : (i : ℕ) (item : A) → slice_get items i ≡ Some item → slice_get rows i ≡ Some (row_of item)

-- there are as many rows as a report has, and each is that of the report's row and tolerance in its place
pub record AreRowsOfReport (p : Product) (r : Report) (rows : List (List Cell)) : Type 0 where
  pub count : length rows ≡ length r.rows.items
  pub each : (i : ℕ) (row : Note) (tolerance : ℕ) → slice_get r.rows.items i ≡ Some row
      → slice_get r.tolerance.items i ≡ Some tolerance → slice_get rows i ≡ Some (report_row p row tolerance)

-- the sheet of a report with a text has all its rows
abbrev pub ReportsAreWhole : Type 0
ReportsAreWhole = (p : Product) (r : Report) → HasText p r → AreRowsOfReport p r (report_sheet_of p r).rows

-- the sheet of a comparison has all changes
abbrev pub ComparisonsAreWhole : Type 0
ComparisonsAreWhole = (a : Product) (c : Changes) → AreRowsOf (change_row a) c.rows.items (changes_sheet_of a c).rows

-- the sheet of an audit has all claims
abbrev pub AuditsAreWhole : Type 0
AuditsAreWhole = (p : Product) (a : Audited) → AreRowsOf (claim_row p) a.claims.items (audit_sheet_of p a).rows

-- the sheet of totals has all groups
abbrev pub TotalsAreWhole : Type 0
TotalsAreWhole = (t : Totals) → AreRowsOf total_row t.groups.items (totals_sheet_of t).rows

-- a member that is a text
abbrev pub text_member : (name words : List ℕ) → Members → Members
text_member name words more = member name (string words) more

-- a member that is the month
abbrev pub month_member : (month : ℕ) → Members → Members
month_member month more = member (codes "month") (number (unsigned month)) more

-- the object of a row of a report
abbrev pub report_object : Product → Note → (tolerance : ℕ) → Data
report_object p row tolerance =
    object (text_member (codes "hi") (in_format row.what row.hi) (text_member (codes "lo") (in_format row.what row.lo)
    (month_member row.month (text_member (codes "state") (state_name p row.state)
    (text_member (codes "tolerance") (in_format row.what (pos tolerance))
    (text_member (codes "what") (word_of row.what) no_members))))))

-- the object of a change
abbrev pub change_object : Product → Change → Data
change_object a row =
    object (text_member (codes "hi") (millionths row.hi) (text_member (codes "lo") (millionths row.lo)
    (month_member row.month (text_member (codes "part") (part_word row.part)
    (text_member (codes "state") (slice_index_or a.states row.state [])
    (text_member (codes "tolerance") (millionths_of_size row.tol)
    (text_member (codes "turn") (turn_word row.turn) no_members)))))))

-- the object of a claim
abbrev pub claim_object : Product → Claim → Data
claim_object p claim =
    object (text_member (codes "claim") (millionths claim.claim) (text_member (codes "hi") (millionths claim.hi)
    (text_member (codes "lo") (millionths claim.lo) (text_member (codes "mark") (mark_word claim.mark)
    (month_member claim.month (text_member (codes "state") (slice_index_or p.states claim.state []) no_members))))))

-- the object of a total
abbrev pub total_object : Total → Data
total_object total =
    object (text_member (codes "group") (utf8_lossy total.name.items) (text_member (codes "hi") (millionths total.hi)
    (text_member (codes "lo") (millionths total.lo)
    (text_member (codes "tolerance") (millionths_of_size total.tol) no_members))))

-- in JSON the rows of a report are these objects
abbrev pub ReportRowsAreObjects : Type 0
ReportRowsAreObjects = (p : Product) (row : Note) (tolerance : ℕ)
    → row_tree report_head (report_row p row tolerance) ≡ report_object p row tolerance

-- and those of a comparison these
abbrev pub ChangesAreObjects : Type 0
ChangesAreObjects = (a : Product) (row : Change) → row_tree changes_head (change_row a row) ≡ change_object a row

-- and those of an audit these
abbrev pub ClaimsAreObjects : Type 0
ClaimsAreObjects = (p : Product) (claim : Claim) → row_tree audit_head (claim_row p claim) ≡ claim_object p claim

-- and those of a portfolio these
abbrev pub TotalsAreObjects : Type 0
TotalsAreObjects = (total : Total) → row_tree totals_head (total_row total) ≡ total_object total
