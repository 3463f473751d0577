use Rattle.std.proofs.Common.{refl}
use Rattle.answer_sheets.proofs.laws.rows_are_objects.Goals as goal

pub returns-clause-reports : goal.returns-clause-reports
returns-clause-reports c p row tolerance = refl

pub returns-clause-comparisons : goal.returns-clause-comparisons
returns-clause-comparisons c a row = refl

pub returns-clause-audits : goal.returns-clause-audits
returns-clause-audits c p claim = refl

pub returns-clause-totals : goal.returns-clause-totals
returns-clause-totals c total = refl
