use Rattle.std.proofs.Common.{refl}
use Rattle.reserve_report.specs.declared.report.Kind.TheVariants.{Value}
use Rattle.ledger_laws.proofs.Rounding.{le_when_same}
use Rattle.thiele_cli.proofs.Reported.{valuation_of}
use Rattle.thiele_cli.proofs.valuation.value_answer.Goals as goal

pub returns-clause-answer : goal.returns-clause-answer
returns-clause-answer g c = (
  c.in_ok-report.report,
  refl,
  valuation_of c.args.admitted Value c.in_ok-report.report 1 1 c.in_ok-valued.valued.degree refl
      c.in_ok-report.ensures.report c.in_ok-report.ensures.degree
      (λ all. le_when_same _ _ (c.in_ok-valued.ensures.constant all)),
)
