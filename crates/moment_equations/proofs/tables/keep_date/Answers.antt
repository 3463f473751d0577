use Rattle.std.proofs.Common.{subst}
use Rattle.thiele_backward.proofs.WrittenDates.{row_of_date, no_rest}
use Rattle.moment_equations.specs.Dates.{HasDate}
use Rattle.moment_equations.proofs.tables.keep_date.Goals as goal

pub returns-then-date-every-eq0-clause-written : goal.returns-then-date-every-eq0-clause-written
returns-then-date-every-eq0-clause-written c degree row least same near =
    let at = row_of_date row c.args.every c.args.date c.requires.every same in
    subst (λ r. HasDate c.args.kind c.args.adm.now degree c.args.date r c.write_date.new.cells) at
    (c.write_date.ensures.written degree least near)

pub returns-else-date-every-eq0-clause-written : goal.returns-else-date-every-eq0-clause-written
returns-else-date-every-eq0-clause-written c degree row least same near =
    absurd (c.if-date-every-eq0.false (no_rest row c.args.every c.args.date c.requires.every same))
