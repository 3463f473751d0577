-- Lists of fields, names and rows, one more.
use Rattle.std.proofs.Common.{◌≡◌, ℕ, ◌+◌, ◌<◌, List, [], ◌∷◌, ◌++◌, length, take, get_or, map, ap, sym, ◌∙◌, refl}
use Rattle.std.proofs.Common.{arith, append_assoc, append-nil, Vec, Global}
use Rattle.std.proofs.lemmas.List.{map_more, map-append, get_or-map, length-map, length-take-le}
use Rattle.std.specs.Prelude.{All}
use Rattle.csv.specs.Writing.{default_writer, row_text}
use Rattle.serde_json.specs.Data.{Members, put}
use Rattle.row_sheets.specs.declared.field.Field.{Field}
use Rattle.row_sheets.specs.Sheets.{Cell, cell_of, cells_of, rows_of}
use Rattle.row_sheets.specs.CsvText.{records_text, row_fields}
use Rattle.row_sheets.specs.JsonText.{cell_tree, with_cells}

-- what two functions make of one item more
pub twice_more : {X Y Z : Type 0} (f : X → Y) (g : Y → Z) (xs : List X) (i : ℕ) (none : X) → i < length xs
    → map g (map f (take (i + 1) xs)) ≡ map g (map f (take i xs)) ++ g (f (get_or xs i none)) ∷ []
twice_more f g xs i none inside =
    ap (map g) (map_more f xs i none inside) ∙ map-append g (map f (take i xs)) (f (get_or xs i none) ∷ [])

records_append : (records : List (List (List ℕ))) (fields : List (List ℕ))
    → records_text (records ++ fields ∷ []) ≡ records_text records ++ row_text default_writer fields
records_append [] fields = append-nil (row_text default_writer fields)
records_append (first ∷ records) fields =
    ap (λ text. row_text default_writer first ++ text) (records_append records fields)
    ∙ sym (append_assoc (row_text default_writer first) (records_text records) (row_text default_writer fields))

-- the records of one row more
pub records_more : (rows : List (Vec Field Global)) (i : ℕ) (none : Vec Field Global) (so_far : List ℕ)
    → i < length rows → so_far ++ records_text (map row_fields (rows_of (take (i + 1) rows)))
    ≡ (so_far ++ records_text (map row_fields (rows_of (take i rows))))
    ++ row_text default_writer (row_fields (cells_of (get_or rows i none).items))
records_more rows i none so_far inside =
    let more = twice_more (λ (row : Vec Field Global). cells_of row.items) row_fields rows i none inside in
    let before = map row_fields (rows_of (take i rows)) in
    let fields = row_fields (cells_of (get_or rows i none).items) in
    ap (λ records. so_far ++ records_text records) more ∙ ap (λ text. so_far ++ text) (records_append before fields)
    ∙ sym (append_assoc so_far (records_text before) (row_text default_writer fields))

with_cells_append : (told : Members) (names : List (List ℕ)) (cells : List Cell) (name : List ℕ) (cell : Cell)
    → length names ≡ length cells
    → with_cells told (names ++ name ∷ []) (cells ++ cell ∷ [])
    ≡ put name (cell_tree cell) (with_cells told names cells)
with_cells_append told [] [] name cell same = refl
with_cells_append told [] (c ∷ cells) name cell same = absurd (omega (arith, same))
with_cells_append told (n ∷ names) [] name cell same = absurd (omega (arith, same))
with_cells_append told (n ∷ names) (c ∷ cells) name cell same =
    with_cells_append (put n (cell_tree c) told) names cells name cell (omega (arith, same))

-- the told of one cell more
pub cells_more : {X : Type 0} (named : X → List ℕ) (told : Members) (head : List X) (row : List Field) (i : ℕ)
    (no_name : X) (no_field : Field) → length row ≡ length head → i < length head
    → with_cells told (map named (take (i + 1) head)) (cells_of (take (i + 1) row))
    ≡ put (named (get_or head i no_name)) (cell_tree (cell_of (get_or row i no_field)))
    (with_cells told (map named (take i head)) (cells_of (take i row)))
cells_more named told head row i no_name no_field same inside =
    let in_row : i < length row = rw same inside in
    let counts : length (map named (take i head)) ≡ length (cells_of (take i row)) =
    length-map (take i head) named ∙ length-take-le i head (omega (arith, inside))
    ∙ sym (length-map (take i row) cell_of ∙ length-take-le i row (omega (arith, in_row))) in
    rw (map_more named head i no_name inside, map_more cell_of row i no_field in_row)
    (with_cells_append told (map named (take i head)) (cells_of (take i row)) (named (get_or head i no_name))
    (cell_of (get_or row i no_field)) counts)

-- rows of fields are as long as the rows of cells
pub rows_are_even : (columns : ℕ) (rows : List (Vec Field Global)) → All (λ row. length row ≡ columns) (rows_of rows)
    → All (λ row. length row.items ≡ columns) rows
rows_are_even columns rows even k none within =
    let as_cells = λ (row : Vec Field Global). cells_of row.items in
    let own = even k (as_cells none) (rw (length-map rows as_cells) within) in
    sym (length-map (get_or rows k none).items cell_of)
    ∙ ap length (sym (get_or-map as_cells rows k none (as_cells none) within)) ∙ own
