-- Cells within the bounds of their month enlarge moments by its growth.
use Rattle.cell_growth.specs.SmallCellGrowth.{SmallCellsGrow, SmallPairsGrow}
use Rattle.cell_growth.proofs.CellGrowth.{thiele_grows}
use Rattle.cell_growth.proofs.SecondGrowth.{second_grows}

pub small_cells_grow : SmallCellsGrow
small_cells_grow cell b p v n within pays fits above =
    thiele_grows cell b.rates b.rho b.iota b.nu b.phi b.kappa40 within.curves within.small within.counts p.rate p.sum
    p.most p.greatest pays.payments pays.most_natural v n fits above

pub small_pairs_grow : SmallPairsGrow
small_pairs_grow cell b p w z n within pays fits above =
    second_grows cell b.rates b.rho b.iota b.nu b.phi b.kappa40 p.rate p.sum p.most p.greatest p.largest p.apart
    within.curves within.small within.counts pays.payments pays.sums pays.most_natural pays.greatest_natural w z n fits
    above
