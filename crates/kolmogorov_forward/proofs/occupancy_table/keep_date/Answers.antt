use Rattle.std.proofs.Common.{sym, subst, ◌∙◌}
use Rattle.thiele_backward.proofs.WrittenDates.{row_of_date, no_rest}
use Rattle.kolmogorov_forward.specs.Dates.{HasDate}
use Rattle.kolmogorov_forward.proofs.WrittenDates.{rows_before, rows_kept}
use Rattle.kolmogorov_forward.proofs.occupancy_table.keep_date.Goals as goal

pub returns-then-date-every-eq0-clause-written : goal.returns-then-date-every-eq0-clause-written
returns-then-date-every-eq0-clause-written c row same =
    let s = c.args.sweep.now in
    let at = row_of_date row c.args.every c.date-date.result c.requires.every (same ∙ sym c.date-date.ensures) in
    subst (λ r. HasDate s.product s.degree s.date r c.write_date.new.cells) at c.write_date.ensures.written

pub returns-then-date-every-eq0-clause-kept : goal.returns-then-date-every-eq0-clause-kept
returns-then-date-every-eq0-clause-kept c row earlier =
    rows_kept row _ c.args.states c.args.cells.now c.write_date.new.cells
    (rows_before row c.args.every c.date-date.result c.requires.every c.if-date-every-eq0.true
    (rw c.date-date.ensures earlier)) c.write_date.ensures.kept

pub returns-else-date-every-eq0-clause-written : goal.returns-else-date-every-eq0-clause-written
returns-else-date-every-eq0-clause-written c row same =
    absurd (c.if-date-every-eq0.false (no_rest row c.args.every c.date-date.result c.requires.every
    (same ∙ sym c.date-date.ensures)))
