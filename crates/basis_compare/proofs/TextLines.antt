-- The lines of the rows of a comparison, one more.
use Rattle.std.proofs.Common.{◌≡◌, ℕ, ◌+◌, ◌<◌, List, [], ◌∷◌, ◌++◌, length, take, get_or, ap, sym, ◌∙◌}
use Rattle.std.proofs.Common.{append_assoc, append-nil}
use Rattle.std.proofs.lemmas.List.{take_more}
use Rattle.model_specs.specs.Product.{Product}
use Rattle.basis_compare.specs.declared.change_rows.Change.{Change}
use Rattle.basis_compare.specs.ChangesText.{change_line, change_lines}

lines_append : (a : Product) (rows : List Change) (row : Change)
    → change_lines a (rows ++ row ∷ []) ≡ change_lines a rows ++ change_line a row
lines_append a [] row = append-nil (change_line a row)
lines_append a (first ∷ rows) row =
    ap (λ text. change_line a first ++ text) (lines_append a rows row)
    ∙ sym (append_assoc (change_line a first) (change_lines a rows) (change_line a row))

pub lines_more : (a : Product) (rows : List Change) (i : ℕ) (none : Change) → i < length rows
    → change_lines a (take (i + 1) rows) ≡ change_lines a (take i rows) ++ change_line a (get_or rows i none)
lines_more a rows i none inside =
    ap (change_lines a) (take_more rows i none inside) ∙ lines_append a (take i rows) (get_or rows i none)
