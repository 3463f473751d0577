use Rattle.row_sheets.proofs.json_form.told_always.Goals as goal

pub rows_value-requires : goal.rows_value-requires
rows_value-requires c = rw (c.head.ensures.count) c.rows.ensures.even
