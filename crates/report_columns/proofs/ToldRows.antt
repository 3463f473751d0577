-- Columns that were told of rows, and stand below a text.
use Rattle.std.proofs.Common.{◌≡◌, ℕ, List, ◌++◌, ◌∙◌, ap, subst}
use Rattle.report_columns.specs.declared.note.Note.{Note}
use Rattle.report_columns.specs.Columns.{ColumnText, all_told, column_sections, columns_of, AreToldFirst}
use Rattle.report_columns.proofs.Told.{told_all}

-- first rows of the same list
pub first_of_same : (rows given : List Note) (old new : List ColumnText) → given ≡ rows → AreToldFirst given old new
    → AreToldFirst rows old new
first_of_same rows given old new same first = subst (λ list. AreToldFirst list old new) same first

-- all rows of the same list
pub all_of_same : (rows given : List Note) (old new : List ColumnText) → given ≡ rows → new ≡ all_told given old
    → AreToldFirst rows old new
all_of_same rows given old new same told = first_of_same rows given old new same (told_all given old new told)

-- the sections of columns that were told of all rows, below a text
pub sections_below : {C : Type 0} (kind : C → ℕ) (text : C → List ℕ) (rows given : List Note) (old new shown : List C)
    (start above bytes : List ℕ) → given ≡ rows → shown ≡ new
    → columns_of kind text new ≡ all_told given (columns_of kind text old) → above ≡ start
    → bytes ≡ above ++ column_sections (columns_of kind text shown)
    → bytes ≡ start ++ column_sections (all_told rows (columns_of kind text old))
sections_below kind text rows given old new shown start above bytes same same_columns told above_is bytes_are =
    let columns : columns_of kind text shown ≡ all_told rows (columns_of kind text old) =
    ap (columns_of kind text) same_columns ∙ told ∙ ap (λ list. all_told list (columns_of kind text old)) same in
    bytes_are ∙ (λ k. above_is k ++ column_sections (columns k))
