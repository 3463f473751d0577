use Rattle.std.proofs.Common.{◌≡◌, take}
use Rattle.report_columns.specs.Columns.{all_told, columns_of}
use Rattle.report_columns.proofs.all_columns.tell_rows.Given as goal

abbrev pub invariant-loop-row : goal.invariant-loop-row
invariant-loop-row g l =
    columns_of (λ b. (goal.Column-dyn g (b.vtable, b.value)).kind b.value)
    (λ b. (goal.Column-dyn g (b.vtable, b.value)).text b.value) l.columns.items
    ≡ all_told (take l.row-index l.rows)
    (columns_of (λ b. (goal.Column-dyn g (b.vtable, b.value)).kind b.value)
    (λ b. (goal.Column-dyn g (b.vtable, b.value)).text b.value) l.fn.columns.items)
