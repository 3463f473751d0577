use Rattle.rate_bounds.specs.MonthPay.{plan_named}
use Rattle.thiele_backward.proofs.LumpedNumbers.{encloses_month}
use Rattle.thiele_backward.proofs.month.month_by_cells.Goals as goal

pub returns-clause-near : goal.returns-clause-near
returns-clause-near g c =
    encloses_month c.args.adm.now (plan_named c.args.which c.args.adm.now) c.args.month c.cells_over.result
    c.args.mid.now c.add_lumps.new.mid c.cells_over.new.mid c.requires.month c.add_lumps.ensures.lumped
    c.cells_over.ensures.near
