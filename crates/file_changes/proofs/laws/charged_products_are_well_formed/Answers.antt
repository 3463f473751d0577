use Rattle.file_changes.proofs.ChargedProducts.{charged_is_well_formed}
use Rattle.file_changes.proofs.laws.charged_products_are_well_formed.Goals as goal

pub returns : goal.returns
returns c = charged_is_well_formed
