use Rattle.std.proofs.Common.{◌≡◌, [], ◌∷◌, ◌++◌, length, take, drop}
use Rattle.report_columns.specs.Columns.{all_told, columns_of}
use Rattle.report_columns.proofs.all_columns.tell_all.Given as goal

abbrev pub invariant-loop-column : goal.invariant-loop-column
invariant-loop-column g l = record {
  same : length l.column-items ≡ length l.fn.columns.items;
  columns : columns_of (λ b. (goal.Column-dyn g (b.vtable, b.value)).kind b.value)
      (λ b. (goal.Column-dyn g (b.vtable, b.value)).text b.value) l.column-items
      ≡ all_told (l.row ∷ []) (take l.column-index
      (columns_of (λ b. (goal.Column-dyn g (b.vtable, b.value)).kind b.value)
      (λ b. (goal.Column-dyn g (b.vtable, b.value)).text b.value) l.fn.columns.items))
      ++ drop l.column-index
      (columns_of (λ b. (goal.Column-dyn g (b.vtable, b.value)).kind b.value)
      (λ b. (goal.Column-dyn g (b.vtable, b.value)).text b.value) l.fn.columns.items);
}
