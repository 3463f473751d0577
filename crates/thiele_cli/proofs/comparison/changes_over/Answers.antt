use Rattle.thiele_cli.proofs.Comparisons.{have_changes}
use Rattle.thiele_cli.proofs.comparison.changes_over.Goals as goal

pub returns-clause-answer : goal.returns-clause-answer
returns-clause-answer g c =
    have_changes c.args.old c.args.new c.args.between.now c.args.every c.in_ok-changes.changes c.requires.between
    c.in_ok-changes.ensures.changes
