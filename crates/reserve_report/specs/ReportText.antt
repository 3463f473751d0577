-- The text of a report, this product's own. Each line ends with a line feed, and fields are parted by one space.
use Rattle.std.specs.Prelude.{ℕ, List, [], ◌∷◌, ◌++◌, pos, codes, decimal, length, slice_index_or}
use Rattle.model_specs.specs.Product.{Product}
use Rattle.report_columns.specs.declared.note.Note.{Note}
use Rattle.report_columns.specs.Lines.{word_of, in_format}
use Rattle.report_columns.specs.Columns.{ColumnText, all_told, column_sections}
use Rattle.reserve_report.specs.declared.report.Kind.{Kind}
use Rattle.reserve_report.specs.declared.report.Kind.TheVariants as kind
use Rattle.reserve_report.specs.declared.report.Report.{Report}

-- the word of a kind of report
abbrev pub kind_word : Kind → List ℕ
kind_word kind.Value = codes "value"
kind_word kind.Reserves = codes "reserves"
kind_word kind.Occupancy = codes "occupancy"
kind_word kind.Moments = codes "moments"
kind_word kind.Premium = codes "premium"

-- the name of a state
abbrev pub state_name : Product → ℕ → List ℕ
state_name p state = slice_index_or p.states state []

-- MONTH STATE WHAT, and a space
abbrev pub row_subject : Product → Note → List ℕ
row_subject p row =
    decimal row.month ++ codes " " ++ state_name p row.state ++ codes " " ++ word_of row.what ++ codes " "

-- LO HI TOL, and the line's end
abbrev pub row_interval : Note → ℕ → List ℕ
row_interval row tolerance =
    in_format row.what row.lo ++ codes " " ++ in_format row.what row.hi ++ codes " "
    ++ in_format row.what (pos tolerance) ++ codes "\n"

-- MONTH STATE WHAT LO HI TOL
abbrev pub row_line : Product → Note → ℕ → List ℕ
row_line p row tolerance = row_subject p row ++ row_interval row tolerance

-- a line for each row, with its tolerance
abbrev pub row_lines : Product → List Note → List ℕ → List ℕ
row_lines p [] tolerances = []
row_lines p (row ∷ rows) [] = []
row_lines p (row ∷ rows) (tolerance ∷ tolerances) = row_line p row tolerance ++ row_lines p rows tolerances

-- the first two lines: what kind of report of which product, and the degree and the scale
abbrev pub head_lines : Product → Report → List ℕ
head_lines p r =
    codes "report " ++ kind_word r.kind ++ codes " " ++ p.name ++ codes "\ndegree " ++ decimal r.degree
    ++ codes " scale " ++ decimal r.scale ++ codes "\n"

-- the text up to the columns: the first two lines, the rows, and their number
abbrev pub rows_text : Product → Report → List ℕ
rows_text p r =
    head_lines p r ++ row_lines p r.rows.items r.tolerance.items ++ codes "end " ++ decimal (length r.rows.items)
    ++ codes "\n"

-- the whole text, of columns as they were handed in: each is told of the rows, and they stand below them
abbrev pub report_text : Product → Report → List ColumnText → List ℕ
report_text p r columns = rows_text p r ++ column_sections (all_told r.rows.items columns)
