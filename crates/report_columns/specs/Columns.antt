-- Columns as a caller sees them, what they keep of the rows that they are told of, and the text that they end with.
use Rattle.std.specs.Prelude.{◌≡◌, ℕ, ◌+◌, List, [], ◌∷◌, ◌++◌, map, take, drop, codes, decimal}
use Rattle.report_columns.specs.declared.note.Note.{Note}
use Rattle.report_columns.specs.Lines.{column_line}

-- a column: which line it writes, and its text so far
pub record ColumnText : Type 0 where
  pub kind : ℕ
  pub text : List ℕ

-- a column by its kind and its text
abbrev pub column_of : {C : Type 0} → (C → ℕ) → (C → List ℕ) → C → ColumnText
column_of kind text column = record { kind = kind column; text = text column }

-- some columns, in their order
abbrev pub columns_of : {C : Type 0} → (C → ℕ) → (C → List ℕ) → List C → List ColumnText
columns_of kind text columns = map (column_of kind text) columns

-- the lines of some rows in a column of a kind, in the rows' order
abbrev pub column_lines : ℕ → List Note → List ℕ
column_lines kind [] = []
column_lines kind (row ∷ rows) = column_line kind row ++ column_lines kind rows

-- a column that was told of some rows: it keeps its kind, and its text grew by their lines
abbrev pub told : List Note → ColumnText → ColumnText
told rows column = record { kind = column.kind; text = column.text ++ column_lines column.kind rows }

-- columns of which each was told of some rows
abbrev pub all_told : List Note → List ColumnText → List ColumnText
all_told rows columns = map (told rows) columns

-- columns that were told of one row up to a place, in their order
pub record AreToldOne (row : Note) (old new : List ColumnText) : Type 0 where
  pub count : ℕ
  pub columns : new ≡ all_told (row ∷ []) (take count old) ++ drop count old

-- columns that were told of first rows, up to a place: the rows stand in order, and for each row the columns do, so the
-- columns before the place were told of one row more than the others
pub record AreToldFirst (rows : List Note) (old new : List ColumnText) : Type 0 where
  pub whole_rows : ℕ
  pub ahead : ℕ
  pub columns : new
      ≡ all_told (take (whole_rows + 1) rows) (take ahead old) ++ all_told (take whole_rows rows) (drop ahead old)

-- `column K`, and below it the column's text
abbrev pub column_section : ColumnText → List ℕ
column_section column = codes "column " ++ decimal column.kind ++ codes "\n" ++ column.text

-- the sections of some columns, in their order
abbrev pub column_sections : List ColumnText → List ℕ
column_sections [] = []
column_sections (column ∷ columns) = column_section column ++ column_sections columns
