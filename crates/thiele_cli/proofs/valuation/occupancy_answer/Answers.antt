use Rattle.std.proofs.Common.{refl}
use Rattle.reserve_report.specs.declared.report.Kind.TheVariants.{Occupancy}
use Rattle.ledger_laws.proofs.Rounding.{le_when_same}
use Rattle.thiele_cli.proofs.Reported.{valuation_of}
use Rattle.thiele_cli.proofs.valuation.occupancy_answer.Goals as goal

pub returns-clause-answer : goal.returns-clause-answer
returns-clause-answer g c = (
  c.in_ok-report.report,
  refl,
  valuation_of c.args.admitted Occupancy c.in_ok-report.report c.in_ok-table.table.every c.args.every
      c.in_ok-table.table.degree c.in_ok-table.ensures.occupancy.every_is c.in_ok-report.ensures.report
      c.in_ok-report.ensures.degree (λ all. le_when_same _ _ (c.in_ok-table.ensures.constant all)),
)
