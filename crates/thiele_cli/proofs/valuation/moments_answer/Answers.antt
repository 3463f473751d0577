use Rattle.std.proofs.Common.{refl}
use Rattle.reserve_report.specs.declared.report.Kind.TheVariants.{Moments}
use Rattle.thiele_cli.proofs.Reported.{moments_of, valuation_of}
use Rattle.thiele_cli.proofs.valuation.moments_answer.Goals as goal

pub from_moments-requires-clause-moments : goal.from_moments-requires-clause-moments
from_moments-requires-clause-moments g c =
    moments_of c.args.admitted c.args.every c.in_ok-table.table c.in_ok-table.ensures.moments

pub returns-clause-answer : goal.returns-clause-answer
returns-clause-answer g c = (
  c.in_ok-report.report,
  refl,
  valuation_of c.args.admitted Moments c.in_ok-report.report c.in_ok-table.table.first.every c.args.every
      c.in_ok-table.table.first.degree c.in_ok-table.ensures.moments.first.every_is c.in_ok-report.ensures.report
      c.in_ok-report.ensures.degree (λ all. c.in_ok-table.ensures.constant all),
)
