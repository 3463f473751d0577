use Rattle.thiele_cli.proofs.MonthGrids.{reserves_are_reported}
use Rattle.thiele_cli.proofs.valuation.reserves_report.Goals as goal

pub returns-clause-report : goal.returns-clause-report
returns-clause-report g c =
    reserves_are_reported c.args.admitted.now c.in_ok-report.report c.in_ok-table.table c.args.every
    c.in_ok-table.ensures.reserves c.in_ok-table.ensures.months c.in_ok-report.ensures.report
    c.in_ok-report.ensures.rows c.in_ok-report.ensures.degree c.in_ok-table.ensures.constant
