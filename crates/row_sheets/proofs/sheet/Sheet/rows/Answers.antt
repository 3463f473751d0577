use Rattle.row_sheets.proofs.Grown.{rows_are_even}
use Rattle.row_sheets.proofs.sheet.Sheet.rows.Goals as goal

pub returns-clause-even : goal.returns-clause-even
returns-clause-even c =
    rw (← c.self.view_is, c.deref.ensures.value) (rows_are_even _ _ c.self.invariant.rows)
