use Rattle.cell_laws.proofs.Totals.{driven_totals, driven_totals_at_64, driven_totals_at_32}
use Rattle.cell_laws.proofs.scalar_laws.driven_totals.Goals as goal

pub returns-clause-total : goal.returns-clause-total
returns-clause-total c = driven_totals

pub returns-clause-at_64 : goal.returns-clause-at_64
returns-clause-at_64 c = driven_totals_at_64

pub returns-clause-at_32 : goal.returns-clause-at_32
returns-clause-at_32 c = driven_totals_at_32
