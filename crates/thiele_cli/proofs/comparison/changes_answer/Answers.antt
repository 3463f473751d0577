use Rattle.std.proofs.Common.{subst}
use Rattle.thiele_cli.specs.BasesBetween.{TellsBetween}
use Rattle.thiele_cli.proofs.Comparisons.{none_answers}
use Rattle.thiele_cli.proofs.comparison.changes_answer.Goals as goal

pub returns-in-Refused-clause-answer : goal.returns-in-Refused-clause-answer
returns-in-Refused-clause-answer g c =
    none_answers c.args.old c.args.new c.args.every c.in-Refused.why
    (subst (TellsBetween c.args.old c.args.new) c.in-Refused.is c.in_ok-basis.ensures)
