use Rattle.std.proofs.Common.{sym, subst, ◌∙◌}
use Rattle.thiele_backward.specs.Dates.{HasDate}
use Rattle.thiele_backward.proofs.WrittenDates.{row_of_date, no_rest}
use Rattle.thiele_backward.proofs.reserve_table.keep_date.Goals as goal

pub returns-then-date-every-eq0-clause-written : goal.returns-then-date-every-eq0-clause-written
returns-then-date-every-eq0-clause-written c row same =
    let s = c.args.sweep.now in
    let at = row_of_date row c.args.every c.months_left-date.result c.requires.every
    (same ∙ sym c.months_left-date.ensures) in
    subst (λ r. HasDate s.product s.degree s.months_left r c.write_date.new.cells) at c.write_date.ensures.written

pub returns-else-date-every-eq0-clause-written : goal.returns-else-date-every-eq0-clause-written
returns-else-date-every-eq0-clause-written c row same =
    absurd (c.if-date-every-eq0.false (no_rest row c.args.every c.months_left-date.result c.requires.every
    (same ∙ sym c.months_left-date.ensures)))
