-- The rows and the kinds of columns.
use Rattle.std.specs.Prelude.{ℕ, ◌^◌, ◌<◌, ◌≤◌, ◌≤ℤ◌, unsigned_abs}
use Rattle.report_columns.specs.declared.note.Note.{Note}

-- the ends of a row stand in their order, and are small enough for their difference
pub record HasEnds (note : Note) : Type 0 where
  pub ordered : note.lo ≤ℤ note.hi
  pub lo : unsigned_abs note.lo < 2 ^ 126
  pub hi : unsigned_abs note.hi < 2 ^ 126

-- the columns of widths, the first of three kinds
abbrev pub width_kind : ℕ
width_kind = 1

-- the columns of signs
abbrev pub sign_kind : ℕ
sign_kind = 2

-- the columns of fields
abbrev pub fields_kind : ℕ
fields_kind = 3

-- a kind of columns: there is no other one
pub record IsKind (kind : ℕ) : Type 0 where
  pub least : width_kind ≤ kind
  pub most : kind ≤ fields_kind
