use Rattle.cover_product.proofs.CoverNorms.{cover_ledgers, cover_months}
use Rattle.cover_product.proofs.cover_cells.cover_has_ledgers.Goals as goal

pub returns-clause-ledgers : goal.returns-clause-ledgers
returns-clause-ledgers c = cover_ledgers

pub returns-clause-months : goal.returns-clause-months
returns-clause-months c = cover_months
