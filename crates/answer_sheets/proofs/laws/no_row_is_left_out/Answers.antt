use Rattle.answer_sheets.proofs.WholeSheets.{report_is_whole, sheet_is_whole}
use Rattle.answer_sheets.specs.AuditSheet.{claim_row}
use Rattle.answer_sheets.specs.ChangesSheet.{change_row}
use Rattle.answer_sheets.specs.TotalsSheet.{total_row}
use Rattle.answer_sheets.proofs.laws.no_row_is_left_out.Goals as goal

pub returns-clause-reports : goal.returns-clause-reports
returns-clause-reports c p r has_text = report_is_whole p r has_text

pub returns-clause-comparisons : goal.returns-clause-comparisons
returns-clause-comparisons c a changes = sheet_is_whole (change_row a) changes.rows.items

pub returns-clause-audits : goal.returns-clause-audits
returns-clause-audits c p audited = sheet_is_whole (claim_row p) audited.claims.items

pub returns-clause-totals : goal.returns-clause-totals
returns-clause-totals c totals = sheet_is_whole total_row totals.groups.items
