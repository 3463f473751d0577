-- Sheets: the rows of an answer as fields, each in a column with a name.
use Rattle.std.specs.Prelude.{◌≡◌, ℕ, ◌<◌, List, [], ◌∷◌, ◌++◌, All, IsAscii, length, map, string_bytes, Vec}
use Rattle.std.specs.Borrow.{Bor}
use Rattle.std.specs.declared.alloc.Global.{Global}
use Rattle.row_sheets.specs.declared.field.Field.{Field}
use Rattle.row_sheets.specs.declared.field.Field.TheVariants as field

-- what stands in a field: a whole number or a text
pub data Cell : Type 0 where
  whole : ℕ → Cell
  text : List ℕ → Cell

-- the names of the columns, and rows of cells
pub record Contents : Type 0 where
  pub head : List (List ℕ)
  pub rows : List (List Cell)

-- there is a column, the names are ASCII, and each row has a cell in each column
pub record IsFilled (sheet : Contents) : Type 0 where
  pub some : 0 < length sheet.head
  pub names : All IsAscii sheet.head
  pub rows : All (λ row. length row ≡ length sheet.head) sheet.rows

-- a field as a cell
abbrev pub cell_of : Field → Cell
cell_of (field.Whole number) = whole number
cell_of (field.Text words) = text (string_bytes words)

-- fields as cells
abbrev pub cells_of : List Field → List Cell
cells_of fields = map cell_of fields

-- rows of fields as rows of cells
abbrev pub rows_of : List (Vec Field Global) → List (List Cell)
rows_of rows = map (λ row. cells_of row.items) rows

-- names as bytes
abbrev pub names_of : List (Bor (List ℕ)) → List (List ℕ)
names_of names = map (λ name. name.now) names

-- a sheet without a row
abbrev pub empty : List (List ℕ) → Contents
empty head = record { head = head; rows = [] }

-- a sheet with one row more
abbrev pub with_row : Contents → List Cell → Contents
with_row sheet row = record { head = sheet.head; rows = sheet.rows ++ row ∷ [] }
