use Rattle.moment_equations.specs.NearMoments.{months_behind}
use Rattle.moment_equations.proofs.MonthSteps.{encloses_month}
use Rattle.moment_equations.proofs.month.month_over.Goals as goal

pub cells_over-requires-clause-near : goal.cells_over-requires-clause-near
cells_over-requires-clause-near g c = c.add_lumps.ensures 24 c.requires.near

pub returns-clause-near : goal.returns-clause-near
returns-clause-near g c = encloses_month c.args.adm.now (months_behind c.args.adm.now c.args.month) c.cells_over.result
    c.args.mid.now c.add_lumps.new.mid c.cells_over.new.mid c.add_lumps.ensures c.cells_over.ensures.near
