-- The lines and the notes of groups, one more.
use Rattle.std.proofs.Common.{◌≡◌, ℕ, suc, ◌+◌, ◌<◌, List, [], ◌∷◌, ◌++◌, length, take, get_or, ap, sym, ◌∙◌, arith}
use Rattle.std.proofs.Common.{append_assoc, append-nil}
use Rattle.std.specs.Prelude.{All}
use Rattle.std.proofs.lemmas.List.{take_more, length-take}
use Rattle.std.proofs.lemmas.List.Elements.{All-cons, All-nil}
use Rattle.report_columns.specs.declared.note.Note.{Note}
use Rattle.report_columns.specs.Columns.{ColumnText, all_told, AreToldFirst}
use Rattle.report_columns.specs.Notes.{HasEnds}
use Rattle.report_columns.proofs.Told.{told_nothing}
use Rattle.portfolio_run.specs.declared.totals.Total.{Total}
use Rattle.portfolio_run.specs.TotalsText.{group_line, group_lines, note_of, notes_from, HasTotalEnds}

lines_append : (groups : List Total) (total : Total)
    → group_lines (groups ++ total ∷ []) ≡ group_lines groups ++ group_line total
lines_append [] total = append-nil (group_line total)
lines_append (first ∷ groups) total =
    ap (λ text. group_line first ++ text) (lines_append groups total)
    ∙ sym (append_assoc (group_line first) (group_lines groups) (group_line total))

-- the lines of one group more
pub lines_more : (groups : List Total) (i : ℕ) (none : Total) → i < length groups
    → group_lines (take (i + 1) groups) ≡ group_lines (take i groups) ++ group_line (get_or groups i none)
lines_more groups i none inside =
    ap group_lines (take_more groups i none inside) ∙ lines_append (take i groups) (get_or groups i none)

notes_append : (start : ℕ) (groups : List Total) (total : Total)
    → notes_from start (groups ++ total ∷ []) ≡ notes_from start groups ++ note_of (start + length groups) total ∷ []
notes_append start [] total = ap (λ n. note_of n total ∷ []) (omega arith)
notes_append start (first ∷ groups) total =
    ap (λ notes. note_of start first ∷ notes) (notes_append (start + 1) groups total
    ∙ ap (λ n. notes_from (start + 1) groups ++ note_of n total ∷ []) (omega arith))

-- the notes of one group more
pub notes_more : (groups : List Total) (i : ℕ) (none : Total) → i < length groups
    → notes_from 0 (take (i + 1) groups) ≡ notes_from 0 (take i groups) ++ note_of i (get_or groups i none) ∷ []
notes_more groups i none inside =
    let count : 0 + length (take i groups) ≡ i = omega (arith, length-take i groups, inside) in
    ap (notes_from 0) (take_more groups i none inside) ∙ notes_append 0 (take i groups) (get_or groups i none)
    ∙ ap (λ n. notes_from 0 (take i groups) ++ note_of n (get_or groups i none) ∷ []) count

-- the notes of groups have ends that a column can print
pub notes_have_ends : (start : ℕ) (groups : List Total) → All HasTotalEnds groups
    → All HasEnds (notes_from start groups)
notes_have_ends start [] all = All-nil HasEnds
notes_have_ends start (first ∷ groups) all =
    let own = all 0 first (omega arith) in
    All-cons HasEnds (note_of start first) (notes_from (start + 1) groups)
    (record { ordered = own.ordered; lo = own.lo; hi = own.hi })
    (notes_have_ends (start + 1) groups (λ k d within. all (suc k) d (omega (arith, within))))

-- columns that were told of no row yet
pub none_told : (rows : List Note) (columns : List ColumnText) → AreToldFirst rows columns columns
none_told rows columns = record { whole_rows = 0; ahead = 0; columns = told_nothing columns }

-- columns that were told of all rows, of the same list
pub told_same : (rows given : List Note) (old new : List ColumnText) → given ≡ rows → new ≡ all_told given old
    → new ≡ all_told rows old
told_same rows given old new same told = told ∙ ap (λ list. all_told list old) same
