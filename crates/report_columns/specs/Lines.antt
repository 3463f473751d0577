-- The lines of columns, this product's own. Each ends with a line feed.
use Rattle.std.specs.Prelude.{ℕ, ◌&&◌, List, [], ◌∷◌, ◌++◌, ℤ, pos, ◌-ℤ◌, int_lt, unsigned_abs, ◌==◌, codes, decimal}
use Rattle.std.specs.Prelude.{if◌then◌else◌}
use Rattle.std.specs.Fmt.{signed_decimal}
use Rattle.decimal_out.specs.Millionths.{millionths}
use Rattle.report_columns.specs.declared.note.Note.{Note}
use Rattle.report_columns.specs.declared.note.What.{What}
use Rattle.report_columns.specs.declared.note.What.TheVariants as what
use Rattle.report_columns.specs.Notes.{width_kind, sign_kind}

-- the word of what a row is about
abbrev pub word_of : What → List ℕ
word_of what.Value = codes "value"
word_of what.Reserve = codes "reserve"
word_of what.Occupancy = codes "occupancy"
word_of what.First = codes "first"
word_of what.Second = codes "second"
word_of what.Variance = codes "variance"
word_of what.Benefits = codes "benefits"
word_of what.Pattern = codes "pattern"
word_of what.Premium = codes "premium"
word_of what.Total = codes "total"

-- a number of a row in the row's format: whole squared minor units, or millionths
abbrev pub in_format : What → ℤ → List ℕ
in_format what.Second number = signed_decimal number
in_format what.Variance number = signed_decimal number
in_format what.Value number = millionths number
in_format what.Reserve number = millionths number
in_format what.Occupancy number = millionths number
in_format what.First number = millionths number
in_format what.Benefits number = millionths number
in_format what.Pattern number = millionths number
in_format what.Premium number = millionths number
in_format what.Total number = millionths number

-- the sign of all numbers between two ends, as a byte: + above 0, - below 0, 0 where there is no other number, and
-- ? where the ends leave it open
abbrev pub sign_of : (lo hi : ℤ) → ℕ
sign_of lo hi =
    if int_lt (pos 0) lo then 43 else if int_lt hi (pos 0) then 45
    else if (unsigned_abs lo == 0) && (unsigned_abs hi == 0) then 48 else 63

-- the month and the state of a row, each with the byte that parts it from the next field
abbrev pub row_start : (part : ℕ) → Note → List ℕ
row_start part note = decimal note.month ++ (part ∷ []) ++ decimal note.state ++ (part ∷ [])

-- MONTH S WIDTH
abbrev pub width_line : Note → List ℕ
width_line note = row_start 32 note ++ in_format note.what (note.hi -ℤ note.lo) ++ codes "\n"

-- MONTH S SIGN
abbrev pub sign_line : Note → List ℕ
sign_line note = row_start 32 note ++ (sign_of note.lo note.hi ∷ []) ++ codes "\n"

-- LO,HI, and the line's end
abbrev pub row_ends : Note → List ℕ
row_ends note = in_format note.what note.lo ++ codes "," ++ in_format note.what note.hi ++ codes "\n"

-- MONTH,S,WHAT,LO,HI
abbrev pub fields_line : Note → List ℕ
fields_line note = row_start 44 note ++ word_of note.what ++ codes "," ++ row_ends note

-- the line of a row in a column of a kind
abbrev pub column_line : ℕ → Note → List ℕ
column_line kind note =
    if kind == width_kind then width_line note else if kind == sign_kind then sign_line note else fields_line note
