use Rattle.std.proofs.Common.{◌≡◌, ◌++◌, take}
use Rattle.report_columns.specs.Columns.{column_sections, columns_of}
use Rattle.report_columns.proofs.all_columns.push_columns.Given as goal

abbrev pub invariant-loop-column : goal.invariant-loop-column
invariant-loop-column g l =
    l.out.items
    ≡ l.fn.out.items
    ++ column_sections (take l.column-index
    (columns_of (λ b. (goal.Column-dyn g (b.vtable, b.value)).kind b.value)
    (λ b. (goal.Column-dyn g (b.vtable, b.value)).text b.value) l.columns))
