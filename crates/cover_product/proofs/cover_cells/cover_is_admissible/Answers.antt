use Rattle.cover_product.proofs.CoverRules.{cover_is_admissible}
use Rattle.cover_product.proofs.cover_cells.cover_is_admissible.Goals as goal

pub returns : goal.returns
returns c = cover_is_admissible
