-- A sheet as CSV: the head and the rows as records.
use Rattle.std.specs.Prelude.{◌≡◌, ℕ, List, [], ◌∷◌, ◌++◌, Some, false, decimal, map, Vec}
use Rattle.std.specs.declared.alloc.Global.{Global}
use Rattle.csv.specs.Writing.{default_writer, row_text, writer_setup, fields_written, has_written, text_written}
use Rattle.csv.specs.declared.writer.Writer.{Writer}
use Rattle.row_sheets.specs.Sheets.{Cell, whole, text, Contents}

-- the text of a cell: a whole number in decimal, a text as it is
abbrev pub cell_text : Cell → List ℕ
cell_text (whole number) = decimal number
cell_text (text words) = words

-- the fields of a row
abbrev pub row_fields : List Cell → List (List ℕ)
row_fields row = map cell_text row

-- the records of a sheet: its head, and then its rows
abbrev pub records_of : Contents → List (List (List ℕ))
records_of sheet = sheet.head ∷ map row_fields sheet.rows

-- records one below the other, each as a CSV writer writes it, with a line feed at its end
abbrev pub records_text : List (List (List ℕ)) → List ℕ
records_text [] = []
records_text (fields ∷ records) = row_text default_writer fields ++ records_text records

-- the whole text
abbrev pub csv_text : Contents → List ℕ
csv_text sheet = records_text (records_of sheet)

-- a writer stands between two records, and wrote this text so far
pub record HasWritten (writer : Writer (Vec ℕ Global)) (so_far : List ℕ) : Type 0 where
  pub setup : writer_setup writer ≡ default_writer
  pub fields : fields_written writer ≡ 0
  pub clean : has_written writer ≡ false
  pub text_is : text_written (λ v. Some v.items) writer ≡ Some so_far
