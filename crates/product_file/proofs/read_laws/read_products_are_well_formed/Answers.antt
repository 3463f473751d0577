use Rattle.product_file.proofs.Products.{read_products_are_well_formed}
use Rattle.product_file.proofs.read_laws.read_products_are_well_formed.Goals as goal

pub returns : goal.returns
returns c = read_products_are_well_formed
