-- Columns that are told of rows, one row and one column at a time.
use Rattle.std.proofs.Common.{◌≡◌, ℕ, ◌+◌, ◌<◌, ◌≤◌, List, [], ◌∷◌, ◌++◌, length, take, drop, set, get_or}
use Rattle.std.proofs.Common.{refl, ap, sym, ◌∙◌, arith, append_assoc, append-nil}
use Rattle.std.proofs.lemmas.List.{take_more, take_all, drop_all, take-map, drop-map, map-set, get_or-map}
use Rattle.std.proofs.lemmas.List.{length-map}
use Rattle.std.proofs.lemmas.List.Edits.{map_over_more}
use Rattle.std.proofs.Math.Seq.{map-set_same}
use Rattle.report_columns.specs.declared.note.Note.{Note}
use Rattle.report_columns.specs.Lines.{column_line}
use Rattle.report_columns.specs.Columns.{ColumnText, column_of, columns_of, column_lines, told, all_told}
use Rattle.report_columns.specs.Columns.{column_section, column_sections, AreToldOne, AreToldFirst}

-- what is seen of an item of a list of columns
seen_at : {C : Type 0} (kind : C → ℕ) (text : C → List ℕ) (columns : List C) (i : ℕ) (column : C) → i < length columns
    → column ≡ get_or columns i column
    → column_of kind text column ≡ get_or (columns_of kind text columns) i (column_of kind text column)
seen_at kind text columns i column within here =
    ap (column_of kind text) here
    ∙ sym (get_or-map (column_of kind text) columns i column (column_of kind text column) within)

-- the next column was told of a row
pub next_told : {C : Type 0} (kind : C → ℕ) (text : C → List ℕ) (row : Note) (old now : List C) (i : ℕ)
    (before after : C) → length now ≡ length old → i < length now
    → columns_of kind text now
    ≡ all_told (row ∷ []) (take i (columns_of kind text old)) ++ drop i (columns_of kind text old)
    → before ≡ get_or now i before → kind after ≡ kind (get_or now i before)
    → text after ≡ text (get_or now i before) ++ column_line (kind (get_or now i before)) row
    → columns_of kind text (set now i after)
    ≡ all_told (row ∷ []) (take (i + 1) (columns_of kind text old)) ++ drop (i + 1) (columns_of kind text old)
next_told kind text row old now i before after same within so_far here kind_kept text_grew =
    let in_old : i < length old = omega (arith, same, within) in
    let place : i < length (columns_of kind text old) = rw (length-map old (column_of kind text)) in_old in
    let line = column_line (kind (get_or now i before)) row in
    let line_added : text after ≡ text (get_or now i before) ++ (line ++ []) =
    text_grew ∙ ap (λ lines. text (get_or now i before) ++ lines) (sym (append-nil line)) in
    let one_told : column_of kind text after ≡ told (row ∷ []) (column_of kind text (get_or now i before)) =
    λ k. record { kind = kind_kept k; text = line_added k } in
    let change : column_of kind text after ≡ told (row ∷ []) (column_of kind text before) =
    one_told ∙ ap (λ column. told (row ∷ []) (column_of kind text column)) (sym here) in
    map-set (column_of kind text) now i after ∙ ap (set (columns_of kind text now) i) change
    ∙ map_over_more (told (row ∷ [])) (columns_of kind text old) (columns_of kind text now) i
    (column_of kind text before) place so_far (seen_at kind text now i before within here)

-- the next column refused a row, and stayed as it was
pub next_refused : {C : Type 0} (kind : C → ℕ) (text : C → List ℕ) (row : Note) (old now : List C) (i : ℕ)
    (before after : C)
    → columns_of kind text now
    ≡ all_told (row ∷ []) (take i (columns_of kind text old)) ++ drop i (columns_of kind text old)
    → kind after ≡ kind (get_or now i before) → text after ≡ text (get_or now i before)
    → AreToldOne row (columns_of kind text old) (columns_of kind text (set now i after))
next_refused kind text row old now i before after so_far kind_kept text_kept = record {
  count = i;
  columns =
      let kept : column_of kind text after ≡ column_of kind text (get_or now i before) =
      λ k. record { kind = kind_kept k; text = text_kept k } in
      map-set_same (column_of kind text) now i after before kept ∙ so_far;
}

-- all columns were told of a row
pub each_told : {C : Type 0} (kind : C → ℕ) (text : C → List ℕ) (row : Note) (old now : List C) (i : ℕ)
    → length now ≡ length old → length now ≤ i
    → columns_of kind text now
    ≡ all_told (row ∷ []) (take i (columns_of kind text old)) ++ drop i (columns_of kind text old)
    → columns_of kind text now ≡ all_told (row ∷ []) (columns_of kind text old)
each_told kind text row old now i same past so_far =
    let in_old : length old ≤ i = omega (arith, same, past) in
    let behind : drop i old ≡ [] = drop_all i old in_old in
    so_far
    ∙ (rw (take-map (column_of kind text) i old, drop-map (column_of kind text) i old, take_all i old in_old, behind)
    (append-nil (all_told (row ∷ []) (columns_of kind text old))))

-- the lines of rows, and of rows behind them
column_lines-append : (kind : ℕ) (rows more : List Note)
    → column_lines kind (rows ++ more) ≡ column_lines kind rows ++ column_lines kind more
column_lines-append kind [] more = refl
column_lines-append kind (row ∷ rows) more =
    ap (λ lines. column_line kind row ++ lines) (column_lines-append kind rows more)
    ∙ sym (append_assoc (column_line kind row) (column_lines kind rows) (column_lines kind more))

-- a column that was told of rows, and then of more
told_more : (rows more : List Note) (column : ColumnText) → told more (told rows column) ≡ told (rows ++ more) column
told_more rows more column =
    let lines : (column.text ++ column_lines column.kind rows) ++ column_lines column.kind more
    ≡ column.text ++ column_lines column.kind (rows ++ more) =
    append_assoc column.text (column_lines column.kind rows) (column_lines column.kind more)
    ∙ ap (λ lines. column.text ++ lines) (sym (column_lines-append column.kind rows more)) in
    λ k. record { kind = column.kind; text = lines k }

-- columns that were told of rows, and then of more
all_told_more : (rows more : List Note) (columns : List ColumnText)
    → all_told more (all_told rows columns) ≡ all_told (rows ++ more) columns
all_told_more rows more [] = refl
all_told_more rows more (column ∷ columns) =
    let first = told_more rows more column in
    let rest = all_told_more rows more columns in
    λ k. first k ∷ rest k

-- columns that were told of nothing
pub told_nothing : (columns : List ColumnText) → columns ≡ all_told [] columns
told_nothing [] = refl
told_nothing (column ∷ columns) =
    let text : column.text ≡ column.text ++ [] = sym (append-nil column.text) in
    let rest = told_nothing columns in
    λ k. record { kind = column.kind; text = text k } ∷ rest k

-- columns that were told of one more of the rows
one_more : (rows : List Note) (old : List ColumnText) (i : ℕ) (d : Note) → i < length rows
    → all_told (get_or rows i d ∷ []) (all_told (take i rows) old) ≡ all_told (take (i + 1) rows) old
one_more rows old i d within =
    rw (take_more rows i d within) (all_told_more (take i rows) (get_or rows i d ∷ []) old)

-- a row that all columns were told of, behind others
pub next_row : (rows : List Note) (old between new : List ColumnText) (i : ℕ) (d : Note) → i < length rows
    → between ≡ all_told (take i rows) old → new ≡ all_told (get_or rows i d ∷ []) between
    → new ≡ all_told (take (i + 1) rows) old
next_row rows old between new i d within before last =
    last ∙ ap (all_told (get_or rows i d ∷ [])) before ∙ one_more rows old i d within

-- a row that not all columns were told of, behind others
pub refused_row : (rows : List Note) (old between new : List ColumnText) (i : ℕ) (d : Note) → i < length rows
    → between ≡ all_told (take i rows) old → AreToldOne (get_or rows i d) between new → AreToldFirst rows old new
refused_row rows old between new i d within before last = record {
  whole_rows = i;
  ahead = last.count;
  columns =
      let front : all_told (get_or rows i d ∷ []) (take last.count between)
      ≡ all_told (take (i + 1) rows) (take last.count old) =
      ap (λ columns. all_told (get_or rows i d ∷ []) (take last.count columns)) before
      ∙ ap (all_told (get_or rows i d ∷ [])) (take-map (told (take i rows)) last.count old)
      ∙ one_more rows (take last.count old) i d within in
      let back : drop last.count between ≡ all_told (take i rows) (drop last.count old) =
      ap (drop last.count) before ∙ drop-map (told (take i rows)) last.count old in
      last.columns ∙ (λ k. front k ++ back k);
}

-- all columns were told of all rows
pub all_rows : (rows : List Note) (old new : List ColumnText) (i : ℕ) → length rows ≤ i
    → new ≡ all_told (take i rows) old → new ≡ all_told rows old
all_rows rows old new i past so_far = so_far ∙ ap (λ first. all_told first old) (take_all i rows past)

-- columns that were told of all rows were told of first rows
pub told_all : (rows : List Note) (old new : List ColumnText) → new ≡ all_told rows old → AreToldFirst rows old new
told_all rows old new each = record {
  whole_rows = length rows;
  ahead = 0;
  columns = each ∙ ap (λ first. all_told first old) (sym (take_all (length rows) rows (omega arith)));
}

-- the sections of some columns, and of one more
column_sections-append : (columns : List ColumnText) (column : ColumnText)
    → column_sections (columns ++ column ∷ []) ≡ column_sections columns ++ column_section column
column_sections-append [] column = append-nil (column_section column)
column_sections-append (first ∷ columns) column =
    ap (λ sections. column_section first ++ sections) (column_sections-append columns column)
    ∙ sym (append_assoc (column_section first) (column_sections columns) (column_section column))

-- the sections of one more of the columns, behind a text
pub next_section : {C : Type 0} (kind : C → ℕ) (text : C → List ℕ) (columns : List C) (i : ℕ) (column : C)
    (start before after : List ℕ) → i < length columns
    → before ≡ start ++ column_sections (take i (columns_of kind text columns))
    → column ≡ get_or columns i column → after ≡ before ++ column_section (column_of kind text column)
    → after ≡ start ++ column_sections (take (i + 1) (columns_of kind text columns))
next_section kind text columns i column start before after within so_far here last =
    let see = column_of kind text (get_or columns i column) in
    let place : i < length (columns_of kind text columns) = rw (length-map columns (column_of kind text)) within in
    let listed : get_or (columns_of kind text columns) i (column_of kind text column) ≡ see =
    get_or-map (column_of kind text) columns i column (column_of kind text column) within in
    let more : column_sections (take (i + 1) (columns_of kind text columns))
    ≡ column_sections (take i (columns_of kind text columns)) ++ column_section see =
    ap column_sections (take_more (columns_of kind text columns) i (column_of kind text column) place)
    ∙ column_sections-append (take i (columns_of kind text columns))
    (get_or (columns_of kind text columns) i (column_of kind text column))
    ∙ ap (λ one. column_sections (take i (columns_of kind text columns)) ++ column_section one) listed in
    last ∙ ap (λ one. before ++ column_section (column_of kind text one)) here
    ∙ ap (λ first. first ++ column_section see) so_far
    ∙ append_assoc start (column_sections (take i (columns_of kind text columns))) (column_section see)
    ∙ ap (λ sections. start ++ sections) (sym more)
