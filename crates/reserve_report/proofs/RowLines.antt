-- The lines of rows, one row at a time.
use Rattle.std.proofs.Common.{◌≡◌, ℕ, ◌+◌, ◌<◌, ◌≤◌, min, List, [], ◌∷◌, ◌++◌, length, take, get_or, refl}
use Rattle.std.proofs.Common.{ap, sym, ◌∙◌, arith, append_assoc, length-take}
use Rattle.std.proofs.lemmas.List.{take_more, take_all}
use Rattle.model_specs.specs.Product.{Product}
use Rattle.report_columns.specs.declared.note.Note.{Note}
use Rattle.reserve_report.specs.ReportText.{row_line, row_lines}

-- one more row behind as many rows as tolerances
pub row_lines-append : (p : Product) (rows : List Note) (tolerances : List ℕ) (row : Note) (tolerance : ℕ)
    → length rows ≡ length tolerances
    → row_lines p (rows ++ row ∷ []) (tolerances ++ tolerance ∷ []) ≡ row_lines p rows tolerances ++ row_line p
    row tolerance
row_lines-append p [] [] row tolerance same = simp append_assoc
row_lines-append p [] (t ∷ ts) row tolerance same = cc
row_lines-append p (r ∷ rs) [] row tolerance same = cc
row_lines-append p (r ∷ rs) (t ∷ ts) row tolerance same =
    ap (λ text. row_line p r t ++ text) (row_lines-append p rs ts row tolerance (omega arith)) ∙ sym
    (append_assoc (row_line p r t) (row_lines p rs ts) (row_line p row tolerance))

-- the lines of one more of the rows
pub row_lines_more : (p : Product) (rows : List Note) (tolerances : List ℕ) (i : ℕ) (d : Note) (e : ℕ)
    → length rows ≡ length tolerances → i < length rows
    → row_lines p (take (i + 1) rows) (take (i + 1) tolerances) ≡ row_lines p (take i rows) (take i tolerances)
    ++ row_line p (get_or rows i d) (get_or tolerances i e)
row_lines_more p rows tolerances i d e same within =
    let as_long : length (take i rows) ≡ length (take i tolerances) = simp length-take (ap (λ n. min i n) same) in
    rw (take_more rows i d within, take_more tolerances i e (omega arith))
    (row_lines-append p (take i rows) (take i tolerances) (get_or rows i d) (get_or tolerances i e) as_long)

-- the lines of all the rows
pub row_lines_all : (p : Product) (rows : List Note) (tolerances : List ℕ) (i : ℕ)
    → length rows ≡ length tolerances → length rows ≤ i
    → row_lines p (take i rows) (take i tolerances) ≡ row_lines p rows tolerances
row_lines_all p rows tolerances i same past = rw (take_all i rows past, take_all i tolerances (omega arith)) refl
