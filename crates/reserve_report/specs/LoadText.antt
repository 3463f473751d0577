-- The text of `load`: a report of reserves in three lines. This product's own.
use Rattle.std.specs.Prelude.{ℕ, List, ◌++◌, ◌-ℤ◌, map, length, unsigned_abs, codes, decimal}
use Rattle.decimal_out.specs.Millionths.{millionths_of_size}
use Rattle.whole_laws.specs.Whole.{greatest_natural}
use Rattle.model_specs.specs.Product.{Product}
use Rattle.report_columns.specs.declared.note.Note.{Note}
use Rattle.reserve_report.specs.declared.report.Report.{Report}

-- how far apart the ends of a row stand, in millionths
abbrev pub width_of : Note → ℕ
width_of row = unsigned_abs (row.hi -ℤ row.lo)

-- how far apart those of the widest row stand
abbrev pub widest : List Note → ℕ
widest rows = greatest_natural (map width_of rows)

-- load NAME, degree N scale g, rows R widest W
abbrev pub load_text : Product → Report → List ℕ
load_text p r =
    codes "load " ++ p.name ++ codes "\ndegree " ++ decimal r.degree ++ codes " scale " ++ decimal r.scale
    ++ codes "\nrows " ++ decimal (length r.rows.items) ++ codes " widest "
    ++ millionths_of_size (widest r.rows.items) ++ codes "\n"
